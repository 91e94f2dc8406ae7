-- What a table holds after one pass, or two.
use Rattle.std.proofs.Common.{◌≡◌, ℕ, ◌+◌, ◌*◌, Bool, true, ◌<◌, List, length, take, drop, replicate, sym, ap, ◌∙◌, subst, ap₂, arith}
use lib.ListN.{length-replicate}
use Rattle.model.specs.declared.kind.Kind.{Kind}
use Rattle.model.specs.declared.parts.Parts.{Parts}
use Rattle.model.specs.Goals.{Target, Bounded}
use Rattle.model.specs.Parts.{parts}
use Rattle.meaning.specs.Cells.{tallies, tallies_back, over, Holds, Ready, BothReady}
use Rattle.meaning.specs.Models.{yes_no}
use Rattle.meaning.specs.Recurrence.{Asked}
use Rattle.meaning.specs.Tallies.{tally_at, tally_past}
use Rattle.meaning.proofs.Choosing.{still_asked}
use Rattle.meaning.proofs.Grid.{grid_long, over_holds, over_over, over_same}
use Rattle.meaning.proofs.Lawful.{yes_no_laws}
use Rattle.meaning.proofs.Rows.{length_parts}
use Rattle.tables.specs.Tables.{Prepared, SameRows}
use Rattle.tables.specs.declared.table.Table.{Table}

pub ahead_long : {V : Type 0} (m : Rattle.meaning.specs.Measures.Means V) (ks : List Kind) (ss : List ℕ) (w : ℕ) → length ss ≡ length ks → length (tallies m (parts ks ss) w) ≡ (length ks + 1) * w
ahead_long m ks ss w e = grid_long (length (parts ks ss) + 1) w (λ i b. tally_at m (take i (parts ks ss)) b) ∙ ap (λ n. (n + 1) * w) (length_parts ks ss e)

pub back_long : (admitted : ℕ → Bool) (ks : List Kind) (ss : List ℕ) (w : ℕ) → length ss ≡ length ks → length (tallies_back yes_no admitted (parts ks ss) w) ≡ (length ks + 1) * w
back_long admitted ks ss w e = grid_long (length (parts ks ss) + 1) w (λ i b. tally_past yes_no admitted (drop i (parts ks ss)) b) ∙ ap (λ n. (n + 1) * w) (length_parts ks ss e)

pub ends_once : {V : Type 0} (F : ℕ → List V) (w v : ℕ) (xs ys zs : List V) → zs ≡ over (F w) xs → w ≡ v → xs ≡ ys → zs ≡ over (F v) ys
ends_once F w v xs ys zs e p q = e ∙ ap₂ (λ (k : ℕ) (l : List _). over (F k) l) p q

-- Marks of one direction, of sets and of some width, for some kinds; v is the width that the goal asks.
module _ (M : List ℕ → ℕ → List ℕ) (ks : List Kind) (long : (ss : List ℕ) (w : ℕ) → length ss ≡ length ks → length (M ss w) ≡ (length ks + 1) * w) (v : ℕ) where
  -- written over a table that was the slice but for the cells needed
  pub marked_past : (ss : List ℕ) (w : ℕ) (xs ys zs : List ℕ) → length ss ≡ length ks → w ≡ v → drop ((length ks + 1) * v) ys ≡ drop ((length ks + 1) * v) xs → zs ≡ over (M ss w) ys → zs ≡ over (M ss v) xs
  marked_past ss w xs ys zs same e past made =
      made ∙ ap (λ k. over (M ss k) ys) e ∙ over_same (M ss v) xs ys ((length ks + 1) * v) (long ss v same) past

  -- written over the marks of other sets
  pub marked_twice : (ss ts : List ℕ) (w u : ℕ) (xs ys zs : List ℕ) → length ss ≡ length ks → length ts ≡ length ks → w ≡ v → u ≡ v → ys ≡ over (M ss w) xs → zs ≡ over (M ts u) ys → zs ≡ over (M ts v) xs
  marked_twice ss ts w u xs ys zs same also e f once made =
      made ∙ ap₂ (λ k l. over (M ts k) l) f (once ∙ ap (λ k. over (M ss k) xs) e)
      ∙ over_over (M ts v) (M ss v) xs (long ts v also ∙ sym (long ss v same))

  -- cleared
  pub marked_cleared : (ss : List ℕ) (many : ℕ) (xs ys zs : List ℕ) → length ss ≡ length ks → many ≡ (length ks + 1) * v → ys ≡ over (M ss v) xs → zs ≡ over (replicate many 0) ys → zs ≡ over (replicate ((length ks + 1) * v) 0) xs
  marked_cleared ss many xs ys zs same e once made =
      made ∙ ap₂ (λ k l. over (replicate k 0) l) e once
      ∙ over_over (replicate ((length ks + 1) * v) 0) (M ss v) xs (length-replicate ((length ks + 1) * v) 0 ∙ sym (long ss v same))

-- tables of the same rows as tables that were ready, for other sets
ready_still : (ks : List Kind) (ss ts : List ℕ) (first after : Table ℕ) → Ready ks ss first.width first.cells.now → SameRows first after → length ts ≡ length ks → Ready ks ts after.width after.cells.now
ready_still ks ss ts first after was rows same =
    record { pos = omega (arith, was.pos, rows.width); low = omega (arith, was.low, rows.width); same = same; room = omega (arith, ap (λ x. (length ks + 1) * x) rows.width, was.room, rows.long) }

-- tables that marks of the same kinds were written over are prepared as they were
pub still_prepared : (t : Target) → Bounded t → (ps qs : Parts) (ss : List ℕ) (first second first' second' : Table ℕ) → Prepared t ps first second → qs.kinds.now ≡ ps.kinds.now → length ss ≡ length ps.kinds.now
    → SameRows first first' → SameRows second second' → second'.cells.now ≡ over (tallies_back yes_no t.admits (parts ps.kinds.now ss) first.width) second.cells.now → Prepared t qs first' second'
still_prepared t bounded ps qs ss first second first' second' was same long ahead back made =
    let ks = ps.kinds.now in
    let w = first.width in
    let B : List ℕ = tallies_back yes_no t.admits (parts ks ss) w in
    let H : List ℕ → Type 0 = λ xs. Holds B xs in
    let A : ℕ → Type 0 = λ k. Asked yes_no t.admits (length ks) k second'.cells.now in
    let R : List Kind → Type 0 = λ xs. BothReady t.top xs qs.sets.now first'.width second'.width first'.cells.now second'.cells.now in
    let K : List Kind → Type 0 = λ xs. Asked yes_no t.admits (length xs) second'.width second'.cells.now in
    let bound : (b : ℕ) → t.admits b ≡ true → b < w = λ b y. omega (arith, was.ready.wide, bounded b y) in
    record {
      ready = subst R (sym same)
          (record {
            wide = ahead.width ∙ was.ready.wide;
            same = back.width ∙ was.ready.same ∙ sym ahead.width;
            ahead_ready = ready_still ks ps.sets.now qs.sets.now first first' was.ready.ahead_ready ahead (qs.same ∙ ap length same);
            back_ready = ready_still ks ps.sets.now qs.sets.now second second' was.ready.back_ready back (qs.same ∙ ap length same);
          });
      asked = subst K (sym same)
          (subst A (sym (back.width ∙ was.ready.same))
          (still_asked yes_no yes_no_laws t.admits w bound (parts ks ss) (length ks) (length_parts ks ss long) second'.cells.now
          (subst H (sym made) (over_holds B second.cells.now))));
    }
