-- Any calls after a settle.
use Rattle.std.proofs.Common.{◌≡◌, ℕ, ◌-◌, ◌<◌, ◌≤◌, Bool, true, false, not, ◌&&◌, leb, ◌↔◌, List, [], ◌∷◌, get_or, filter, sym, refl, ap, ◌∙◌, subst, ap₂, zero-le, arith}
use Rattle.std.specs.List.{AllByRecursion}
use Rattle.std.proofs.ByRecursion.{All-weaker}
use Rattle.std.proofs.lemmas.Bool.{true≢false, false≢true, le-leb, eqb-true, eq-eqb}
use Rattle.meaning.specs.Claims.{GoesOn, History}
use Rattle.meaning.specs.Life.{Agrees, OnlyEight, is_refused, lives}
use Rattle.meaning.specs.Plan.{Shows, State, does, says, settled, state_after}
use Rattle.meaning.specs.Problems.{Problem, all_use, allowed_sets, fitting, has_at, in_range, is_empty, kinds_of, short, support, uses, without}
use Rattle.meaning.specs.Register.{Call, Register, after, answers, loads_of, rule_out, start, step}
use Rattle.model.specs.Answers.{Answer, accepted, refuse, refused}
use Rattle.model.specs.Sets.{has}
use Rattle.meaning.proofs.Lists.{and_both, every_all, all_every}
use Rattle.meaning.proofs.Standing.{support_has}
use Rattle.meaning.proofs.Steps.{Good, call_shows_lem, rest_empty}

kept_all : {X : Type 0} (xs : List X) → filter (λ x. true) xs ≡ xs
kept_all [] = refl
kept_all (x ∷ xs) = ap (λ l. x ∷ l) (kept_all xs)

pub settled_shows : (c : Problem) → is_empty (fitting c (allowed_sets c)) ≡ false → Shows c (settled c) start
settled_shows c live =
    let e : fitting c (allowed_sets c) ≡ loads_of c [] = sym (kept_all (fitting c (allowed_sets c))) in
    record { now_stand = record { sets_are = ap (support (kinds_of c)) e; some_load = ap is_empty (sym e) ∙ live }; notes = tt; at_most = zero-le }

pub run_shows : (c : Problem) (s : State) (r : Register) (xs : List Call) → Shows c s r → Shows c (state_after c s xs) (after c r xs) × (says c s xs ≡ answers c r xs)
run_shows c s r [] sh = (sh, refl)
run_shows c s r (x ∷ xs) sh =
    let g : Good c (does c s x) (step c r x) = call_shows_lem c s r x sh in
    let m = run_shows c (does c s x).0 (step c r x).0 xs g.0 in
    (m.0, ap₂ (λ (a : Answer) (l : List Answer). a ∷ l) g.1 m.1)

-- a count stands exactly when some load of the register has it
pub stands : (c : Problem) (s : State) (r : Register) → Shows c s r → (i d : ℕ) → 1 ≤ i → i ≤ kinds_of c → d < 64
    → has (get_or s.standing (i - 1) 0) d ≡ uses (loads_of c r.ruled) (i - 1) d
stands c s r sh i d h k l =
    ap (λ (sets : List ℕ). has (get_or sets (i - 1) 0) d) sh.now_stand.sets_are
    ∙ support_has (kinds_of c) (loads_of c r.ruled) (i - 1) d (omega arith) l

passed : {S : Type 0} (s : S) (t : Bool) (k : ℕ) (x : S × Answer) → t ≡ false → refuse s t k x ≡ x
passed s true k x e = absurd (true≢false e)
passed s false k x e = refl

-- where the tests before it fail, the refusal is 8, and is given exactly when its test holds
last_eight : {S : Type 0} (s x : S) (n : ℕ) (t : Bool) → OnlyEight (t ≡ true) (refuse s t 8 (x, accepted n)).1
last_eight s x n true = record { exactly = (λ e. refl, λ e. refl); eight = λ e. refl }
last_eight s x n false = record { exactly = (λ e. e, λ e. e); eight = λ e. absurd (false≢true e) }

only_eight : {S : Type 0} (s x : S) (n : ℕ) (t₇ t₁₀ t₁₁ t₈ : Bool) → t₇ ≡ false → t₁₀ ≡ false → t₁₁ ≡ false
    → OnlyEight (t₈ ≡ true) (refuse s t₇ 7 (refuse s t₁₀ 10 (refuse s t₁₁ 11 (refuse s t₈ 8 (x, accepted n))))).1
only_eight {S} s x n t₇ t₁₀ t₁₁ t₈ h₇ h₁₀ h₁₁ =
    let e : refuse s t₇ 7 (refuse s t₁₀ 10 (refuse s t₁₁ 11 (refuse s t₈ 8 (x, accepted n)))) ≡ refuse s t₈ 8 (x, accepted n) =
    passed s t₇ 7 _ h₇ ∙ passed s t₁₀ 10 _ h₁₀ ∙ passed s t₁₁ 11 _ h₁₁ in
    subst (λ (y : S × Answer). OnlyEight (t₈ ≡ true) y.1) (sym e) (last_eight s x n t₈)

eight_for : {P Q : Type 0} (a : Answer) → (P → Q) → (Q → P) → OnlyEight P a → OnlyEight Q a
eight_for a f g o = record { exactly = (λ e. f (o.exactly.0 e), λ q. o.exactly.1 (g q)); eight = o.eight }

pub next_rule : (c : Problem) (s : State) (r : Register) → Shows c s r → (i d f b : ℕ) → 1 ≤ i → i ≤ kinds_of c → d < 64 → short c f b ≡ false
    → has (get_or s.standing (i - 1) 0) d ≡ true
    → OnlyEight (AllByRecursion (λ load. get_or load (i - 1) 0 ≡ d) (loads_of c r.ruled)) (does c s (rule_out i d f b)).1
next_rule c s r sh i d f b h k l long st =
    let q : in_range c i d ≡ true =
    and_both (leb 1 i) (leb i (kinds_of c) && leb d 63) (le-leb 1 i h) (and_both (leb i (kinds_of c)) (leb d 63) (le-leb i (kinds_of c) k) (le-leb d 63 (omega arith))) in
    let w = only_eight s _ _ (short c f b) (not (in_range c i d)) (not (has (get_or s.standing (i - 1) 0) d)) (is_empty (without (i - 1) d (fitting c s.standing))) long (ap not q) (ap not st) in
    let t : is_empty (without (i - 1) d (fitting c s.standing)) ≡ all_use (loads_of c r.ruled) (i - 1) d = rest_empty c s r sh i d in
    eight_for (does c s (rule_out i d f b)).1
    (λ z. All-weaker (λ load. has_at load (i - 1) d ≡ true) (λ load. get_or load (i - 1) 0 ≡ d) (λ load e. eqb-true (get_or load (i - 1) 0) d e) (loads_of c r.ruled)
    (every_all (λ load. has_at load (i - 1) d) (loads_of c r.ruled) (sym t ∙ z)))
    (λ z. t ∙ all_every (λ load. has_at load (i - 1) d) (loads_of c r.ruled)
    (All-weaker (λ load. get_or load (i - 1) 0 ≡ d) (λ load. has_at load (i - 1) d ≡ true) (λ load e. eq-eqb (get_or load (i - 1) 0) d e) (loads_of c r.ruled) z))
    w

-- so a rule out is refused 8 exactly where P holds
alone_eight : {P : Type 0} (a : Answer) → OnlyEight P a → (a ≡ refused 8) ↔ P
alone_eight a o = (λ e. o.exactly.0 (ap is_refused e), λ p. o.eight (o.exactly.1 p))

pub last_way : (c : Problem) (s : State) (r : Register) → Shows c s r → (i d f b : ℕ) → 1 ≤ i → i ≤ kinds_of c → d < 64 → short c f b ≡ false
    → has (get_or s.standing (i - 1) 0) d ≡ true
    → ((does c s (rule_out i d f b)).1 ≡ refused 8) ↔ AllByRecursion (λ load. get_or load (i - 1) 0 ≡ d) (loads_of c r.ruled)
last_way c s r sh i d f b h k l long st = alone_eight (does c s (rule_out i d f b)).1 (next_rule c s r sh i d f b h k l long st)

-- a state that shows a register agrees with it
pub agree : (c : Problem) (s : State) (r : Register) → Shows c s r → Agrees c (lives c s) r
agree c s r sh = record { shown = sh; stands = stands c s r sh; next = next_rule c s r sh }

-- after any calls from a settle on
pub goes_on : (c : Problem) (calls : List Call) → is_empty (fitting c (allowed_sets c)) ≡ false → GoesOn c calls
goes_on c calls live =
    let m = run_shows c (settled c) start calls (settled_shows c live) in
    record { answered = m.1; agrees = agree c (state_after c (settled c) calls) (after c start calls) m.0 }

pub history : (c : Problem) (calls : List Call) → is_empty (fitting c (allowed_sets c)) ≡ false → History c calls
history c calls live =
    let m = run_shows c (settled c) start calls (settled_shows c live) in
    record {
      answered = m.1;
      stands = stands c (state_after c (settled c) calls) (after c start calls) m.0;
      last_way = last_way c (state_after c (settled c) calls) (after c start calls) m.0;
    }
