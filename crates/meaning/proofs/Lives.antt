-- Histories: a settle, a list of calls made one by one, and a tally.
use Rattle.std.proofs.Common.{◌≡◌, ℕ, zero, suc, Bool, true, false, cond, ltb, List, [], ◌∷◌, ◌++◌, map, Some, Option, sym, refl, ap, ◌∙◌, subst, ap₂, arith}
use Rattle.model.specs.declared.kind.Kind.{Kind}
use Rattle.model.specs.Goals.{Target}
use Rattle.model.specs.Answers.{Answer, Outcome, accepted, refuse, refused}
use Rattle.meaning.specs.History.{ToldByRegister, Ending, WholeHistory, ends, lived}
use Rattle.meaning.specs.Life.{Life, Ran, Told, ToldAll, act, blank, goal_of, life_after, lives, open_in, replies, settles, tallied}
use Rattle.meaning.specs.Measures.{Means}
use Rattle.meaning.specs.Plan.{Shows, State, does, says, settled, state_after}
use Rattle.meaning.specs.Problems.{Problem, allowed_sets, fitting, is_empty, needed, problem, short}
use Rattle.meaning.specs.Register.{Call, Register, after, start}
use Rattle.meaning.specs.View.{life_of}
use Rattle.meaning.proofs.PlanBranching.{rows_long}
use Rattle.meaning.proofs.Runs.{agree, last_way, run_shows, settled_shows, stands}
use Rattle.meaning.proofs.Steps.{notes_long}
use Rattle.meaning.proofs.Tallies.{tally_stands}

lives_after : (c : Problem) (s : State) (xs : List Call) → life_after (lives c s) xs ≡ lives c (state_after c s xs)
lives_after c s [] = refl
lives_after c s (x ∷ xs) = lives_after c (does c s x).0 xs

lives_say : (c : Problem) (s : State) (xs : List Call) → replies (lives c s) xs ≡ says c s xs
lives_say c s [] = refl
lives_say c s (x ∷ xs) = ap (λ (said : List Answer). (does c s x).1 ∷ said) (lives_say c (does c s x).0 xs)

-- one call more
pub life_more : (l : Life) (xs : List Call) (x : Call) → life_after l (xs ++ x ∷ []) ≡ (act (life_after l xs) x).0
life_more l [] x = refl
life_more l (y ∷ ys) x = life_more (act l y).0 ys x

pub replies_more : (l : Life) (xs : List Call) (x : Call) → replies l (xs ++ x ∷ []) ≡ replies l xs ++ (act (life_after l xs) x).1 ∷ []
replies_more l [] x = refl
replies_more l (y ∷ ys) x = ap (λ (said : List Answer). (act l y).1 ∷ said) (replies_more (act l y).0 ys x)

told_by : (c : Problem) (s : State) (xs : List Call) (r : Register) → Shows c s r → Told c r xs (lives c (state_after c s xs)) (says c s xs)
told_by c s xs r sh =
    let m = run_shows c s r xs sh in
    record { shown = m.0; answered = m.1; stands = stands c (state_after c s xs) (after c r xs) m.0; last_way = last_way c (state_after c s xs) (after c r xs) m.0 }

told_all : (l : Life) (xs : List Call) → ToldAll l xs (life_after l xs) (replies l xs)
told_all (blank g) xs = tt
told_all (lives c s) xs =
    λ r sh. subst (λ (l : Life). Told c r xs l (replies (lives c s) xs)) (sym (lives_after c s xs))
    (subst (λ (said : List Answer). Told c r xs (lives c (state_after c s xs)) said) (sym (lives_say c s xs)) (told_by c s xs r sh))

pub ran : (before : Life) (xs : List Call) (last : Life) (said : List Answer) → last ≡ life_after before xs → said ≡ replies before xs → Ran before xs last said
ran before xs last said e f =
    record {
      life = e;
      says = f;
      told = subst (λ (l : Life). ToldAll before xs l said) (sym e) (subst (λ (ys : List Answer). ToldAll before xs (life_after before xs) ys) (sym f) (told_all before xs));
    }

never : (m n : ℕ) → refused n ≡ accepted m → ⊥
never m n e = let z : ◌≡◌ {A = ℕ} 0 1 = cc in omega arith

-- a call that was accepted passed each of its tests
accepted_passed : {S : Type 0} (s : S) (t : Bool) (k n : ℕ) (x : S × Answer) → (refuse s t k x).1 ≡ accepted n → t ≡ false
accepted_passed s true k n x e = absurd (never n k e)
accepted_passed s false k n x e = refl

passed_on : {S : Type 0} (s : S) (t : Bool) (k : ℕ) (x : S × Answer) → t ≡ false → refuse s t k x ≡ x
passed_on s true k x e = let z : ◌≡◌ {A = ℕ} 0 1 = cc in absurd (omega arith)
passed_on s false k x e = refl

-- an accepted settle was of a blank plan, which then lives, and some load fits
pub record Begun (l : Life) (kinds : List Kind) (last : Life) : Type 0 where
  pub live : is_empty (fitting (problem (goal_of l) kinds) (allowed_sets (problem (goal_of l) kinds))) ≡ false
  pub life : last ≡ lives (problem (goal_of l) kinds) (settled (problem (goal_of l) kinds))

pub begun : (l : Life) (kinds : List Kind) (f b n : ℕ) → (settles l kinds f b).1 ≡ accepted n → Begun l kinds (settles l kinds f b).0
begun (lives c s) kinds f b n e = absurd (never n 9 e)
begun (blank g) kinds f b n e =
    let c = problem g kinds in
    let t₆ = is_empty kinds in
    let t₇ = short c f b in
    let t₈ = is_empty (fitting c (allowed_sets c)) in
    let h₆ : t₆ ≡ false = accepted_passed (blank g) t₆ 6 n _ e in
    let e₆ = ap (λ (y : Life × Answer). y.1) (sym (passed_on (blank g) t₆ 6 _ h₆)) ∙ e in
    let h₇ : t₇ ≡ false = accepted_passed (blank g) t₇ 7 n _ e₆ in
    let e₇ = ap (λ (y : Life × Answer). y.1) (sym (passed_on (blank g) t₇ 7 _ h₇)) ∙ e₆ in
    let h₈ : t₈ ≡ false = accepted_passed (blank g) t₈ 8 n _ e₇ in
    record {
      live = h₈;
      life = ap (λ (y : Life × Answer). y.0) (passed_on (blank g) t₆ 6 _ h₆ ∙ passed_on (blank g) t₇ 7 _ h₇ ∙ passed_on (blank g) t₈ 8 _ h₈);
    }

-- what the register tells of the calls after an accepted settle
by_register : {V : Type 0} (m : Means V) (c : Problem) (xs : List Call) (values : ℕ) (said : List (Option Answer)) → is_empty (fitting c (allowed_sets c)) ≡ false
    → said ≡ map Some (replies (lives c (settled c)) xs)
    → let last : Life = lives c (state_after c (settled c) xs) in ToldByRegister m c xs values last said (tallied m last values) (open_in last)
by_register m c xs values said live are =
    let s = state_after c (settled c) xs in
    let ran = run_shows c (settled c) start xs (settled_shows c live) in
    record {
      answered = are ∙ ap (map Some) (lives_say c (settled c) xs ∙ ran.1);
      agrees = agree c s (after c start xs) ran.0;
      tally_is = ap (λ v. cond (ltb values (needed c)) (refused 7) (accepted v)) (tally_stands m c s (after c start xs) ran.0);
      open_are = notes_long c (after c start xs).ruled s.noted (after c start xs).beside ran.0.notes;
    }

-- a history whose settle was accepted
pub history_lived : {V : Type 0} (m : Means V) (before : Life) (kinds : List Kind) (f b : ℕ) (xs : List Call) (values : ℕ) (first last : Life) (said : List (Option Answer)) (n : ℕ) (tally : Outcome V) (opened : ℕ)
    → first ≡ (settles before kinds f b).0 → accepted n ≡ (settles before kinds f b).1 → last ≡ life_after first xs → said ≡ map Some (replies first xs)
    → tally ≡ tallied m last values → opened ≡ open_in last → WholeHistory m before kinds f b xs values last said (lived n tally opened)
history_lived {V} m before kinds f b xs values first last said n tally opened e a goes are sum many =
    let c = problem (goal_of before) kinds in
    let P : Answer → Life × Ending V = λ x. ends m xs values (settles before kinds f b).0 x in
    let been = begun before kinds f b n (sym a) in
    let is : first ≡ lives c (settled c) = e ∙ been.life in
    let ends_at : last ≡ lives c (state_after c (settled c) xs) = goes ∙ ap (λ l. life_after l xs) is ∙ lives_after c (settled c) xs in
    let at : life_after (settles before kinds f b).0 xs ≡ last = ap (λ l. life_after l xs) (sym e) ∙ sym goes in
    let told = by_register m c xs values said been.live (are ∙ ap (λ l. map Some (replies l xs)) is) in
    let T : Life → Type 0 = λ l. ToldByRegister m c xs values l said (tallied m l values) (open_in l) in
    let T' : Outcome V → Type 0 = λ v. ToldByRegister m c xs values last said v (open_in last) in
    let T'' : ℕ → Type 0 = λ k. ToldByRegister m c xs values last said tally k in
    record {
      life = sym at ∙ ap (λ x. (P x).0) a;
      ending = ap₂ (λ v k. lived n v k) sum many ∙ ap (λ (l : Life). lived n (tallied m l values) (open_in l)) (sym at) ∙ ap (λ x. (P x).1) a;
      tells = subst T'' (sym many) (subst T' (sym sum) (subst T (sym ends_at) told));
    }

-- after an accepted settle and any calls the plan lives
pub still_lives : (before : Life) (kinds : List Kind) (f b n : ℕ) (xs : List Call) (first last : Life) → first ≡ (settles before kinds f b).0 → accepted n ≡ (settles before kinds f b).1
    → last ≡ life_after first xs → let c : Problem = problem (goal_of before) kinds in last ≡ lives c (state_after c (settled c) xs)
still_lives before kinds f b n xs first last e a goes =
    let c = problem (goal_of before) kinds in
    goes ∙ ap (λ l. life_after l xs) (e ∙ (begun before kinds f b n (sym a)).life) ∙ lives_after c (settled c) xs

abbrev stage : Life → ℕ
stage (blank g) = 0
stage (lives c s) = 1

-- as many branches are open as the plan has rows
pub opened_are : (t : Target) (n : ℕ) (kinds : List Kind) (standing : List ℕ) (noted : List (List ℕ)) (k : ℕ) (c : Problem) (s : State) → life_of t n kinds standing noted k ≡ lives c s
    → k ≡ open_in (life_of t n kinds standing noted k)
opened_are t zero kinds standing noted k c s e = let z : ◌≡◌ {A = ℕ} 0 1 = ap stage e in absurd (omega arith)
opened_are t (suc n) kinds standing noted k c s e = sym (rows_long (suc n) noted k)
