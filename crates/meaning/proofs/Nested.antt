-- The standing sets are not empty, and lie in what the branches noted.
use Rattle.std.proofs.Common.{◌≡◌, ℕ, zero, suc, ◌-◌, ◌<◌, ◌≤◌, true, not, List, [], ◌∷◌, length, get_or, take, sym, refl, ap, ◌∙◌, subst}
use Rattle.std.proofs.lemmas.Bool.{eq-eqb}
use Rattle.meaning.specs.Claims.{SetsAreSound}
use Rattle.meaning.specs.Plan.{Lies, Nested, Notes, Shows, State, Supports}
use Rattle.meaning.specs.Problems.{Problem, allowed_sets, fitting, has_at, kinds_of, support}
use Rattle.meaning.specs.Register.{Register, RuleOut, free, loads_of}
use Rattle.model.specs.Sets.{has, held_in_all}
use Rattle.model.proofs.Lists.{In, in_kept}
use Rattle.meaning.proofs.Lists.{and_left, and_right, and_both, kept_in, some_in, in_some, first_in}
use Rattle.meaning.proofs.Universe.{in_universe}
use Rattle.meaning.proofs.Standing.{support_has, support_long, load_is}
use Rattle.meaning.proofs.Held.{held_in_all_less}

free_front : (m : ℕ) (xs : List RuleOut) (l : List ℕ) → free xs l ≡ true → free (take m xs) l ≡ true
free_front zero xs l h = refl
free_front (suc m) [] l h = refl
free_front (suc m) (x ∷ xs) l h =
    let t = not (has_at l (x.kind - 1) x.count) in
    and_both t (free (take m xs) l) (and_left t (free xs l) h) (free_front m xs l (and_right t (free xs l) h))

more_loads : (c : Problem) (m : ℕ) (xs : List RuleOut) (l : List ℕ) → In l (loads_of c xs) → In l (loads_of c (take m xs))
more_loads c m xs l i =
    let k = kept_in (free xs) l (fitting c (allowed_sets c)) i in
    in_kept (free (take m xs)) l (fitting c (allowed_sets c)) k.0 (free_front m xs l k.1)

-- sets of counts that fewer loads use lie in those that more use
pub support_lies : (n : ℕ) (ls ms : List (List ℕ)) → ((l : List ℕ) → In l ls → In l ms) → Lies n (support n ls) (support n ms)
support_lies n ls ms sub j d h k u =
    let t = some_in (λ l. has_at l j d) ls (sym (support_has n ls j d h k) ∙ u) in
    support_has n ms j d h k ∙ in_some (λ l. has_at l j d) t.0 ms (sub t.0 t.1) t.2

notes_nested : (c : Problem) (s : List ℕ) (xs : List RuleOut) (ts : List (List ℕ)) (ms : List ℕ) → Supports c s xs → Notes c xs ts ms → Nested (kinds_of c) s ts
notes_nested c s xs [] [] h n = tt
notes_nested c s xs [] (m ∷ ms) h n = absurd n
notes_nested c s xs (t ∷ ts) [] h n = absurd n
notes_nested c s xs (t ∷ ts) (m ∷ ms) h n = (
  subst (λ (a : List ℕ). Lies (kinds_of c) a t) (sym h.sets_are)
      (subst (λ (b : List ℕ). Lies (kinds_of c) (support (kinds_of c) (loads_of c xs)) b) (sym n.1.sets_are)
      (support_lies (kinds_of c) (loads_of c xs) (loads_of c (take m xs)) (more_loads c m xs))),
  notes_nested c t (take m xs) ts ms n.1 n.2,
)

pub sets_long : (c : Problem) (s : List ℕ) (xs : List RuleOut) → Supports c s xs → length s ≡ kinds_of c
sets_long c s xs h = ap length h.sets_are ∙ support_long (kinds_of c) (loads_of c xs)

never_empty : (c : Problem) (s : List ℕ) (xs : List RuleOut) → Supports c s xs → (j : ℕ) → j < kinds_of c → (d : ℕ) × (d < 64) × (has (get_or s j 0) d ≡ true)
never_empty c s xs h j k =
    let f = first_in (loads_of c xs) h.some_load in
    let small : get_or f.0 j 0 < 64 = (in_universe (kinds_of c) f.0 (load_is c xs f.0 f.1).0).small j k in (
      get_or f.0 j 0,
      small,
      ap (λ (a : List ℕ). has (get_or a j 0) (get_or f.0 j 0)) h.sets_are
          ∙ support_has (kinds_of c) (loads_of c xs) j (get_or f.0 j 0) k small
          ∙ in_some (λ l. has_at l j (get_or f.0 j 0)) f.0 (loads_of c xs) f.1 (eq-eqb (get_or f.0 j 0) (get_or f.0 j 0) refl),
    )

pub sets_sound_lem : (c : Problem) (s : State) (r : Register) → Shows c s r → SetsAreSound c s
sets_sound_lem c s r sh =
    record {
      long = sets_long c s.standing r.ruled sh.now_stand;
      never_empty = never_empty c s.standing r.ruled sh.now_stand;
      nested = notes_nested c s.standing r.ruled s.noted r.beside sh.now_stand sh.notes;
    }

-- so a withdraw's difference does not stop at 0
pub no_more : (c : Problem) (s t : List ℕ) → length s ≡ kinds_of c → length t ≡ kinds_of c → Lies (kinds_of c) s t → held_in_all s ≤ held_in_all t
no_more c s t a b h = held_in_all_less s t (a ∙ sym b) (λ j d l. h j d (subst (λ (n : ℕ). j < n) a l))
