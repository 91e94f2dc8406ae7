-- What standing and tally answer.
use Rattle.std.proofs.Common.{◌≡◌, ℕ, zero, suc, ◌+◌, ◌-◌, ◌<◌, ◌≤◌, ◌&&◌, ltb, leb, List, length, get_or, take, sym, ap, ◌∙◌, arith}
use Rattle.std.proofs.lemmas.List.{get_or-take}
use Rattle.std.proofs.lemmas.Bool.{le-leb, le-ltb, cond-true, cond-false}
use Rattle.model.specs.declared.kind.Kind.{Kind}
use Rattle.meaning.specs.Measures.{Means}
use Rattle.model.specs.Parts.{parts}
use Rattle.meaning.specs.Tallies.{tally_of}
use Rattle.meaning.specs.Cells.{tallies, over}
use Rattle.model.specs.Goals.{Target}
use Rattle.meaning.specs.Problems.{kinds_of, needed}
use Rattle.model.specs.Answers.{accepted}
use Rattle.meaning.specs.Life.{Standing, Tallied}
use Rattle.meaning.proofs.Lists.{and_both}
use Rattle.meaning.proofs.Tallies.{tally_stands, set_stands}
use Rattle.meaning.specs.View.{state_of, problem_of, life_of}

pub stand_live : (t : Target) (n : ℕ) (kinds : List Kind) (standing : List ℕ) (noted : List (List ℕ)) (k i : ℕ) → 1 ≤ i → i ≤ n → length (take n kinds) ≡ n
    → Standing (life_of t n kinds standing noted k) i (accepted (get_or standing (i - 1) 0))
stand_live t zero kinds standing noted k i h l long = absurd (omega arith)
stand_live t (suc n) kinds standing noted k i h l long =
    let c = problem_of t (suc n) kinds in
    let same : get_or (take (suc n) standing) (i - 1) 0 ≡ get_or standing (i - 1) 0 = get_or-take (suc n) standing (i - 1) 0 (omega arith) in
    record {
      answer = sym (cond-true (leb 1 i && leb i (kinds_of c)) _ _ (and_both (leb 1 i) (leb i (kinds_of c)) (le-leb 1 i h) (le-leb i (kinds_of c) (omega arith))) ∙ ap accepted same);
      used = λ r sh. sym same ∙ set_stands c (state_of (suc n) standing noted k) r sh (i - 1) (omega arith);
    }

pub tally_live : {V : Type 0} (m : Means V) (t : Target) (n : ℕ) (kinds : List Kind) (standing : List ℕ) (noted : List (List ℕ)) (k : ℕ) (before after : List V) (v : V) → 0 < n
    → needed (problem_of t n kinds) ≤ length before → v ≡ tally_of m t.admits (parts (take n kinds) (take n standing))
    → after ≡ over (tallies m (parts (take n kinds) (take n standing)) (t.top + 1)) before → Tallied m (life_of t n kinds standing noted k) before after (accepted v)
tally_live m t zero kinds standing noted k before after v h room e f = absurd (omega arith)
tally_live m t (suc n) kinds standing noted k before after v h room e f =
    let c = problem_of t (suc n) kinds in
    record {
      answer = sym (cond-false (ltb (length before) (needed c)) _ _ (le-ltb (length before) (needed c) room)
          ∙ ap accepted (sym e));
      loads = λ r sh. e ∙ tally_stands m c (state_of (suc n) standing noted k) r sh;
      cells = f;
    }
