-- Entries whose calls are made one by one.
use Rattle.std.proofs.Common.{◌≡◌, ℕ, zero, suc, ◌+◌, ◌<◌, List, [], ◌∷◌, ◌++◌, map, length, get_or, take, set, Some, Option, Result, sym, ap, ◌∙◌, ap₂, arith}
use lib.ListN.{length-map}
use Rattle.std.proofs.lemmas.List.{get_or-map, map-append, map_more, take_more_set}
use Rattle.model.specs.Answers.{Answer, answer_of, option_as}
use Rattle.meaning.specs.Life.{Called, Life, act, life_after, replies}
use Rattle.meaning.specs.Register.{Call as Asked}
use Rattle.meaning.proofs.Lives.{life_more, replies_more}
use Rattle.plan.specs.Entries.{answer_in, answers_in, asked, calls_in, calls_of}
use Rattle.entries.specs.declared.Call.{Call}
use Rattle.entries.specs.declared.Entry.{Entry}
use Rattle.model.specs.declared.refusal.Refusal.{Refusal}

-- lists with equal calls have equal calls at each place
call_at : (now old : List Entry) (i : ℕ) (d : Entry) → calls_of now ≡ calls_of old → i < length old → (get_or now i d).call ≡ (get_or old i d).call
call_at now old i d same h =
    let long : length now ≡ length old = sym (length-map now (λ (e : Entry). e.call)) ∙ ap length same ∙ length-map old (λ (e : Entry). e.call) in
    sym (get_or-map (λ (e : Entry). e.call) now i d d.call (omega arith)) ∙ ap (λ cs. get_or cs i d.call) same ∙ get_or-map (λ (e : Entry). e.call) old i d d.call h

-- an entry with another answer has the same call
pub calls_set : (xs : List Entry) (i : ℕ) (e d : Entry) → i < length xs → e.call ≡ (get_or xs i d).call → calls_of (set xs i e) ≡ calls_of xs
calls_set [] i e d h same = absurd (omega arith)
calls_set (x ∷ xs) zero e d h same = ap (λ c. c ∷ calls_of xs) same
calls_set (x ∷ xs) (suc i) e d h same = ap (λ cs. x.call ∷ cs) (calls_set xs i e d (omega arith) same)

module _ (before : Life) (f b : ℕ) (old now : List Entry) (i : ℕ) (d : Entry) (made : Call) (here last : Life) (said : Result ℕ Refusal)
    (low : i < length old) (at : here ≡ life_after before (calls_in f b (take i old))) (same : calls_of now ≡ calls_of old) (is : made ≡ (get_or now i d).call)
    (called : Called here (asked f b made) last (answer_of said)) where
  abbrev q : Entry → Asked
  q e = asked f b e.call

  its : asked f b made ≡ q (get_or old i d)
  its = ap (asked f b) (is ∙ call_at now old i d same low)

  pub life_step : last ≡ life_after before (calls_in f b (take (i + 1) old))
  life_step =
      called.life ∙ ap₂ (λ (z : Life) (x : Asked). (act z x).0) at its
      ∙ sym (ap (life_after before) (map_more q old i d low) ∙ life_more before (calls_in f b (take i old)) (q (get_or old i d)))

  pub answer_step : (e : Entry) → e.answer ≡ Some said → i < length now → answers_in (take i now) ≡ map Some (replies before (calls_in f b (take i old)))
      → answers_in (take (i + 1) (set now i e)) ≡ map Some (replies before (calls_in f b (take (i + 1) old)))
  answer_step e got room so_far =
      let xs = calls_in f b (take i old) in
      let x = q (get_or old i d) in
      ap answers_in (take_more_set now i e room) ∙ map-append answer_in (take i now) (e ∷ [])
      ∙ ap₂ (λ (ys : List (Option Answer)) (o : Option Answer). ys ++ o ∷ []) so_far
      (ap (option_as answer_of) got ∙ ap Some (called.answer ∙ ap₂ (λ (z : Life) (y : Asked). (act z y).1) at its))
      ∙ sym (ap (λ zs. map Some (replies before zs)) (map_more q old i d low) ∙ ap (map Some) (replies_more before xs x)
      ∙ map-append Some (replies before xs) ((act (life_after before xs) x).1 ∷ []))
