-- The two tables of a plan, and the first backward cell.
use Rattle.std.proofs.Common.{◌≡◌, ℕ, ◌+◌, ◌*◌, ◌<◌, ◌≢◌, Bool, true, false, not, eqb, List, ◌++◌, length, get_or, drop, sym, ap, ◌∙◌, arith, take-append-drop}
use Rattle.std.proofs.lemmas.List.{get_or_read}
use Rattle.std.proofs.lemmas.Nat.{mul-le}
use Rattle.std.proofs.lemmas.Bool.{eq-eqb, ne_eqb}
use Rattle.model.specs.Goals.{Target}
use Rattle.model.specs.Loads.{fits}
use Rattle.model.specs.declared.parts.Parts.{Parts}
use Rattle.meaning.specs.Cells.{tallies_back, Holds, over}
use Rattle.meaning.specs.Models.{yes_no}
use Rattle.meaning.specs.Problems.{is_empty}
use Rattle.meaning.specs.Tallies.{tally_past}
use Rattle.meaning.proofs.Rows.{length_parts}
use Rattle.meaning.proofs.Grid.{holds_at, over_holds}
use Rattle.meaning.proofs.Choosing.{cheap_parts}
use Rattle.meaning.proofs.Marking.{some_load}
use Rattle.tables.specs.Tables.{Marked, Prepared, parts_of}
use Rattle.tables.specs.declared.table.Table.{Table}

-- a slice that holds the cells f makes of some sets, is that slice with those cells written over it
pub kept_marks : (f : List ℕ → List ℕ) (old sets cells : List ℕ) → old ≡ sets → Holds (f old) cells → cells ≡ over (f sets) cells
kept_marks f old sets cells e held =
    sym (take-append-drop (length (f old)) cells) ∙ ap (λ xs. xs ++ drop (length (f old)) cells) held ∙ ap (λ ss. over (f ss) cells) e

not_inj : (a b : Bool) → not a ≡ b → a ≡ not b
not_inj true b e = ap not e
not_inj false b e = ap not e

-- the first cell of the backward marks says whether some load fits
module _ (goal : Target) (ps : Parts) (first second first' second' : Table ℕ) (prepared : Prepared goal ps first second) (marked : Marked goal ps first second first' second') (r : ℕ) (read : r ≡ get_or second'.cells.now (0 * second'.width + 0) r) where
  first_cell : eqb r 1 ≡ not (is_empty (fits goal.admits (parts_of ps)))
  first_cell =
      let w = first.width in
      let cells = second'.cells.now in
      let many : length (parts_of ps) ≡ length ps.kinds.now = length_parts ps.kinds.now ps.sets.now ps.same in
      let held : Holds (tallies_back yes_no goal.admits (parts_of ps) w) cells = rw marked.back (over_holds (tallies_back yes_no goal.admits (parts_of ps) w) second.cells.now) in
      let low : 0 * second'.width + 0 < length cells =
      omega (arith, prepared.ready.back_ready.room, prepared.ready.back_ready.pos, marked.back_rows.long, mul-le 1 second.width (length ps.kinds.now + 1) second.width (omega arith) (omega arith)) in
      some_load goal.admits (parts_of ps) (cheap_parts ps.kinds.now ps.sets.now) r
      (get_or_read cells (0 * second'.width + 0) r low read 0 ∙ ap (λ k. get_or cells k 0) (let z : 0 * second'.width + 0 ≡ 0 * w + 0 = omega arith in z)
      ∙ holds_at 0 (length (parts_of ps) + 1) w (λ i b. tally_past yes_no goal.admits (drop i (parts_of ps)) b) cells held 0 0 (omega arith) prepared.ready.ahead_ready.pos)

  pub some_fits : r ≡ 1 → is_empty (fits goal.admits (parts_of ps)) ≡ false
  some_fits e = not_inj (is_empty (fits goal.admits (parts_of ps))) true (sym first_cell ∙ eq-eqb r 1 e)

  pub none_fits : r ≢ 1 → is_empty (fits goal.admits (parts_of ps)) ≡ true
  none_fits ne = not_inj (is_empty (fits goal.admits (parts_of ps))) false (sym first_cell ∙ ne_eqb r 1 ne)
