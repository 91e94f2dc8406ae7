-- From a head and a value that were read to the first field.
use Rattle.std.proofs.Common.{◌≡◌, ℕ, ◌+◌, ◌≤◌, Bool, true, false, cond, ltb, List, ◌++◌, length, get_or, take, drop, Some, None, Option, sym, refl, ap, ◌∙◌, arith, length-append, length-drop, drop-drop}
use Rattle.fields.specs.declared.field.Cause.{Cause}
use Rattle.fields.specs.declared.field.Cause.TheVariants.{Short, UnknownTag, WrongLength}
use Rattle.fields.specs.declared.field.Field.{Field}
use Rattle.fields.specs.declared.field.Field.TheVariants.{Kind, Band, List as Totals, Stride, RuleOut, End}
use Rattle.fields.specs.Values.{field, Fine}
use Rattle.fields.specs.Fields.{two, eight, right_length, fault, Reads}
use Rattle.fields.specs.Reading.{value, said, totals, first, First, bad, got, Bytes}
use Rattle.fields.proofs.Laws.{back}

-- what a field with that fault, or with none, reads as
abbrev on_fault : First → Option Cause → First
on_fault x None = x
on_fault x (Some e) = bad e

-- the fault of a field and its reading go by the same tests
same : (a b c d : Bool) (x : First)
    → cond a (bad Short) (cond b (bad UnknownTag) (cond c (cond d (bad Short) x) (bad WrongLength)))
    ≡ on_fault x (cond a (Some Short) (cond b (Some UnknownTag) (cond c (cond d (Some Short) None) (Some WrongLength))))
same false false true false x = refl
same a b c d x = refl

first_by : (rest : List ℕ) → first rest ≡ on_fault (got (value rest) (drop (3 + two rest 1) rest)) (fault rest)
first_by rest = same (ltb (length rest) 3) (ltb 5 (get_or rest 0 0)) (right_length (get_or rest 0 0) (two rest 1)) (ltb (length rest) (3 + two rest 1)) _

pub first_bad : (rest : List ℕ) (e : Cause) → fault rest ≡ Some e → first rest ≡ bad e
first_bad rest e h = first_by rest ∙ ap (on_fault (got (value rest) (drop (3 + two rest 1) rest))) h

value_said : (rest : List ℕ) (f : Field) → Reads rest f → value rest ≡ said f
value_said rest (Kind size price counts) h = let t = h.0 in let v : value rest ≡ said (Kind (two rest 3) (two rest 5) (eight rest 7)) = rw t in cc
value_said rest (Band low high) h = let t = h.0 in let v : value rest ≡ said (Band (two rest 3) (two rest 5)) = rw t in cc
value_said rest (Totals part) h =
    let t = h.0 in
    let v : value rest ≡ Rattle.fields.specs.Values.list (totals (take (two rest 1) (drop 3 rest))) = rw t in
    v ∙ ap (λ (x : List ℕ). Rattle.fields.specs.Values.list (totals x)) (sym h.1)
value_said rest (Stride modulus r) h = let t = h.0 in let v : value rest ≡ said (Stride (two rest 3) (two rest 5)) = rw t in cc
value_said rest (RuleOut k count) h = let t = h.0 in let v : value rest ≡ said (RuleOut (get_or rest 3 0) (get_or rest 4 0)) = rw t in cc
value_said rest End h = rw h

pub first_said : (rest : List ℕ) (f : Field) → fault rest ≡ None → Reads rest f → first rest ≡ got (said f) (drop (3 + two rest 1) rest)
first_said rest f n h =
    first_by rest ∙ (ap (on_fault (got (value rest) (drop (3 + two rest 1) rest))) n ∙ ap (λ v. got v (drop (3 + two rest 1) rest)) (value_said rest f h))

-- the place after a field
pub next_place : (file : List ℕ) (p n : ℕ) (f : Field) → p ≤ length file → Bytes (drop p file) → fault (drop p file) ≡ None → Reads (drop p file) f → n ≡ two (drop p file) 1
    → (first (drop p file) ≡ got (said f) (drop (p + 3 + n) file)) × (p + 3 + n ≡ p + length (field (said f))) × (drop p file ≡ field (said f) ++ drop (p + 3 + n) file) × Fine (said f)
next_place file p n f inside by none v len =
    let rest = drop p file in
    let e = first_said rest f none v in
    let t = back rest (said f) (drop (3 + two rest 1) rest) by e in
    let to : drop (3 + two rest 1) rest ≡ drop (p + 3 + n) file =
    drop-drop (3 + two rest 1) p file ∙ ap (λ (k : ℕ). drop k file) (omega arith) in
    let long : length rest ≡ length (field (said f)) + length (drop (3 + two rest 1) rest) =
    ap length t.0 ∙ length-append (field (said f)) (drop (3 + two rest 1) rest) in
    let past = (Rattle.fields.proofs.Laws.first_tells rest (said f) (drop (3 + two rest 1) rest) e).0.whole in
    let d1 = length-drop (3 + two rest 1) rest in
    let d2 = length-drop p file in
    (e ∙ ap (got (said f)) to, omega arith, t.0 ∙ ap (λ (r : List ℕ). field (said f) ++ r) to, t.1)
