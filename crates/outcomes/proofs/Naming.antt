-- What fields name, one more field at a time.
use Rattle.std.proofs.Common.{◌≡◌, ℕ, ◌<◌, ◌≤◌, Bool, false, cond, ◌||◌, eqb, ltb, leb, List, [], ◌∷◌, ◌++◌, Some, None, Option, sym, refl, ap, ◌∙◌, append_assoc, arith}
use Rattle.std.proofs.lemmas.List.{map_push}
use Rattle.std.proofs.lemmas.Bool.{ltb-false, eqb-false}
use Rattle.model.specs.Answers.{Answer}
use Rattle.model.specs.Cases.{add_refused, allowed_parts}
use Rattle.model.specs.Goals.{Target}
use Rattle.model.specs.declared.kind.Kind.{Kind}
use Rattle.model.specs.Parts.{Part, part}
use Rattle.meaning.specs.Problems.{Problem}
use Rattle.meaning.specs.Register.{Call, Register, after, answers, step}
use Rattle.fields.specs.Values.{Value}
use Rattle.reader.specs.Numbers.{kind_of, kinds_from, pushed}
use Rattle.reader.proofs.Numbers.{kind_of_lem}
use Rattle.outcomes.specs.Named.{call_in, calls_named, goal_after, goal_from, kind_in, kinds_named}

pub kinds_more : (us vs : List Value) → kinds_named (us ++ vs) ≡ kinds_named us ++ kinds_named vs
kinds_more [] vs = refl
kinds_more (u ∷ us) vs = ap (λ (r : List Part). kind_in u ++ r) (kinds_more us vs) ∙ sym (append_assoc (kind_in u) (kinds_named us) (kinds_named vs))

pub goal_more : (g : Option Target) (us vs : List Value) → goal_from g (us ++ vs) ≡ goal_from (goal_from g us) vs
goal_more g [] vs = refl
goal_more g (u ∷ us) vs = goal_more (goal_after g u) us vs

pub calls_more : (f b : ℕ) (us vs : List Value) → calls_named f b (us ++ vs) ≡ calls_named f b us ++ calls_named f b vs
calls_more f b [] vs = refl
calls_more f b (u ∷ us) vs = ap (λ (r : List Call). call_in f b u ++ r) (calls_more f b us vs) ∙ sym (append_assoc (call_in f b u) (calls_named f b us) (calls_named f b vs))

-- the register after one call more
pub after_more : (c : Problem) (r : Register) (xs : List Call) (x : Call) → after c r (xs ++ x ∷ []) ≡ (step c (after c r xs) x).0
after_more c r [] x = refl
after_more c r (y ∷ ys) x = after_more c (step c r y).0 ys x

pub answers_more : (c : Problem) (r : Register) (xs : List Call) (x : Call) → answers c r (xs ++ x ∷ []) ≡ answers c r xs ++ (step c (after c r xs) x).1 ∷ []
answers_more c r [] x = refl
answers_more c r (y ∷ ys) x = ap (λ (l : List Answer). (step c r y).1 ∷ l) (answers_more c (step c r y).0 ys x)

-- a kind that may be added is within the limits
tests : (a s d e : Bool) → cond {A = Option ℕ} a (Some 1) (cond (s || d) (Some 2) (cond e (Some 3) None)) ≡ None → (s ≡ false) × (d ≡ false) × (e ≡ false)
tests false false false false h = (refl, refl, refl)
tests a s d e h = cc

pushed_more : (o : Option Kind) (xs ys : List Kind) → pushed o (xs ++ ys) ≡ pushed o xs ++ ys
pushed_more None xs ys = refl
pushed_more (Some k) xs ys = refl

from_more : (ps qs : List Part) → kinds_from (ps ++ qs) ≡ kinds_from ps ++ kinds_from qs
from_more [] qs = refl
from_more (p ∷ ps) qs = ap (pushed (kind_of p)) (from_more ps qs) ∙ pushed_more (kind_of p) (kinds_from ps) (kinds_from qs)

pub fit_more : (n : ℕ) (ps : List Part) (p : Part) → add_refused n p.size p.price p.standing ≡ None → allowed_parts (kinds_from ps) ≡ ps
    → allowed_parts (kinds_from (ps ++ p ∷ [])) ≡ ps ++ p ∷ []
fit_more n ps p e fit =
    let t = tests (leb 32 n) (ltb 4095 p.size) (ltb 1000 p.price) (eqb p.standing 0) e in
    let x : p.size ≤ 4095 = ltb-false 4095 p.size t.0 in
    let y : p.price ≤ 1000 = ltb-false 1000 p.price t.1 in
    let z : 0 < p.standing = omega (arith, eqb-false p.standing 0 t.2) in
    let k : Kind = record { size = p.size; price = p.price; allowed = p.standing; small = x; cheap = y; some = z } in
    ap allowed_parts (from_more ps (p ∷ []) ∙ ap (λ (o : Option Kind). kinds_from ps ++ pushed o []) (kind_of_lem p x y z))
    ∙ (map_push (λ (j : Kind). part j j.allowed) (kinds_from ps) k ∙ ap (λ (l : List Part). l ++ p ∷ []) fit)
