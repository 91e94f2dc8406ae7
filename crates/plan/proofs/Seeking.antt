-- What first load and next load answer.
use Rattle.std.proofs.Common.{◌≡◌, ℕ, zero, suc, ◌<◌, Bool, true, false, eqb, List, length, take, Some, None, Option, Ok, Err, Result, is_ok, OnOk, OnErr, IfErr, sym, refl, ap, ◌∙◌, subst, arith}
use Rattle.std.proofs.lemmas.Bool.{cond-true, cond-false, eq-eqb, true≢false, false≢true}
use Rattle.model.specs.declared.kind.Kind.{Kind}
use Rattle.model.specs.Answers.{accepted, refused}
use Rattle.model.specs.Goals.{Target}
use Rattle.model.specs.Loads.{fits}
use Rattle.model.specs.Parts.{Part, parts}
use Rattle.meaning.specs.Finding.{Gives, onwards}
use Rattle.meaning.specs.Life.{lives}
use Rattle.meaning.specs.Problems.{fitting, kinds_of, short}
use Rattle.meaning.specs.Seeking.{Comes, Found, NoneComes, OnRun, Place, finds, found_or, sought}
use Rattle.meaning.proofs.Rising.{run_right}
use Rattle.meaning.proofs.Steps.{standing_loads_lem}
use Rattle.model.specs.Refusals.{number_of}
use Rattle.model.specs.declared.refusal.Refusal.{Refusal}
use Rattle.model.specs.declared.refusal.Refusal.TheVariants.{EndOfLoads}
use Rattle.plan.specs.Sought.{Searchable, load_said}
use Rattle.meaning.specs.View.{life_of, problem_of, state_of}

gives_some : (o : Option (List ℕ)) (entry : List ℕ) (r : Bool) (x : List ℕ) → Gives o entry r x → r ≡ true → o ≡ Some x
gives_some None entry r x h y = absurd (false≢true (sym h.answer ∙ y))
gives_some (Some z) entry r x h y = ap Some (sym h.load)

gives_none : (o : Option (List ℕ)) (entry : List ℕ) (r : Bool) (x : List ℕ) → Gives o entry r x → r ≡ false → (o ≡ None) × (x ≡ entry)
gives_none None entry r x h y = (refl, h.load)
gives_none (Some z) entry r x h y = absurd (true≢false (sym h.answer ∙ y))

placed : (adm : ℕ → Bool) (ps : List Part) (after o : Option (List ℕ)) → sought after (fits adm ps) ≡ o → Place adm ps after o
placed adm ps None o is = sym is
placed adm ps (Some given) o is = λ k e. sym is ∙ sym (ap (onwards adm ps) e)

on_run : (adm : ℕ → Bool) (ps : List Part) (after o : Option (List ℕ)) → sought after (fits adm ps) ≡ o → OnRun adm ps after o
on_run adm ps after o is = record { place = placed adm ps after o is; whole = run_right adm ps }

module _ (t : Target) (kinds : List Kind) (standing : List ℕ) (noted : List (List ℕ)) (k : ℕ) (after : Option (List ℕ)) (f b : ℕ) where
  reaches : (n : ℕ) (entry : List ℕ) → length (take n kinds) ≡ n → short (problem_of t n kinds) f b ≡ false → length entry ≡ n
      → finds (lives (problem_of t n kinds) (state_of n standing noted k)) after (length entry) f b ≡ found_or (sought after (fitting (problem_of t n kinds) (take n standing)))
  reaches n entry long s e =
      let c = problem_of t n kinds in
      cond-false (short c f b) _ _ s ∙ cond-true (eqb (length entry) (kinds_of c)) _ _ (eq-eqb (length entry) (kinds_of c) (e ∙ sym long))

  found_live : (n : ℕ) (entry exit : List ℕ) → 0 < n → length (take n kinds) ≡ n → short (problem_of t n kinds) f b ≡ false → length entry ≡ n
      → sought after (fitting (problem_of t n kinds) (take n standing)) ≡ Some exit → Comes t.admits (parts (take n kinds) (take n standing)) after exit
      → Found (life_of t n kinds standing noted k) after f b entry exit (accepted exit)
  found_live zero entry exit some long s e is comes = absurd (omega arith)
  found_live (suc n) entry exit some long s e is comes =
      let c = problem_of t (suc n) kinds in
      record {
        answer = sym (reaches (suc n) entry long s e ∙ ap found_or is);
        slice = refl;
        words = comes;
        loads = λ r sh. ap (sought after) (sym (standing_loads_lem c (take (suc n) standing) r.ruled sh.now_stand)) ∙ is;
        run = on_run t.admits (parts c.kinds (take (suc n) standing)) after (Some exit) is;
      }

  none_live : (n : ℕ) (entry exit : List ℕ) → 0 < n → length (take n kinds) ≡ n → short (problem_of t n kinds) f b ≡ false → length entry ≡ n → exit ≡ entry
      → sought after (fitting (problem_of t n kinds) (take n standing)) ≡ None → NoneComes t.admits (parts (take n kinds) (take n standing)) after
      → Found (life_of t n kinds standing noted k) after f b entry exit (refused 15)
  none_live zero entry exit some long s e same is none = absurd (omega arith)
  none_live (suc n) entry exit some long s e same is none =
      let c = problem_of t (suc n) kinds in
      record {
        answer = sym (reaches (suc n) entry long s e ∙ ap found_or is);
        slice = same;
        words = λ z. none;
        loads = λ z r sh. ap (sought after) (sym (standing_loads_lem c (take (suc n) standing) r.ruled sh.now_stand)) ∙ is;
        run = λ z. on_run t.admits (parts c.kinds (take (suc n) standing)) after None is;
      }

-- A search over the parts of a settled plan answers its call.
pub answered : (t : Target) (n : ℕ) (kinds : List Kind) (standing : List ℕ) (noted : List (List ℕ)) (k : ℕ) (after : Option (List ℕ)) (f b : ℕ) (entry exit : List ℕ) (r : Result (Unit {0}) Refusal) (ps : List Part)
    → Searchable t n kinds f b (length entry) → length (take n kinds) ≡ n → ps ≡ parts (take n kinds) (take n standing)
    → Gives (sought after (fits t.admits ps)) entry (is_ok r) exit → OnOk r (Comes t.admits ps after exit) → OnErr r (NoneComes t.admits ps after) → IfErr r (λ e. e ≡ EndOfLoads)
    → Found (life_of t n kinds standing noted k) after f b entry exit (load_said r exit)
answered t n kinds standing noted k after f b entry exit (Ok u) ps s long are gives comes none end =
    let Is : List Part → Type 0 = λ ps. Comes t.admits ps after exit in
    let found = gives_some (sought after (fits t.admits ps)) entry true exit gives refl in
    found_live t kinds standing noted k after f b n entry exit s.some long s.room s.long (sym (ap (λ ps. sought after (fits t.admits ps)) are) ∙ found) (subst Is are comes)
answered t n kinds standing noted k after f b entry exit (Err e) ps s long are gives comes none end =
    let None-comes : List Part → Type 0 = λ ps. NoneComes t.admits ps after in
    let Is : Refusal → Type 0 = λ e. Found (life_of t n kinds standing noted k) after f b entry exit (refused (number_of e)) in
    let not = gives_none (sought after (fits t.admits ps)) entry false exit gives refl in
    subst Is (sym end) (none_live t kinds standing noted k after f b n entry exit s.some long s.room s.long not.1 (sym (ap (λ ps. sought after (fits t.admits ps)) are) ∙ not.0) (subst None-comes are none))
