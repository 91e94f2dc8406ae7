-- The theorems, in the subject's own words. Each is the `ensures` of a function, so that the check asks for its proof.
use Rattle.std.specs.Prelude.{◌≡◌, ℕ, ◌-◌, ◌<◌, ◌≤◌, true, false, ◌↔◌, List, length, slice_index}
use Rattle.std.specs.List.{AllByRecursion}
use Rattle.meaning.specs.Measures.{Means}
use Rattle.meaning.specs.Life.{Agrees, Life, Ran, life_after, lives, replies}
use Rattle.meaning.specs.Plan.{Nested, Shows, State, does, says, settled, state_after}
use Rattle.meaning.specs.Problems.{Problem, allowed_sets, fitting, is_empty, kinds_of, short, uses}
use Rattle.meaning.specs.Register.{Call, Register, after, answers, loads_of, rule_out, start, step}
use Rattle.meaning.specs.Tallies.{tally_of, tally_over}
use Rattle.model.specs.Answers.{refused}
use Rattle.model.specs.Parts.{parts}
use Rattle.model.specs.Sets.{has}

-- The fitting loads of the counts that stand are the register's loads, in the same order.
abbrev pub StandingLoads : Type 0
StandingLoads = (c : Problem) (s : State) (r : Register) → Shows c s r → fitting c s.standing ≡ loads_of c r.ruled

-- Whatever the call, the state after it shows the register after it, and the answers are the same.
abbrev pub CallShows : Type 0
CallShows =
    (c : Problem) (s : State) (r : Register) (x : Call) → Shows c s r
    → Shows c (does c s x).0 (step c r x).0 × ((does c s x).1 ≡ (step c r x).1)

-- After any calls from a settle on: the answers were the register's; a count stands exactly when some load of the register has it;
-- and the next rule out, of a count that stands and with tables long enough, is refused 8 exactly when every load of the register has it.
pub record History (c : Problem) (calls : List Call) : Type 0 where
  pub answered : says c (settled c) calls ≡ answers c start calls
  pub stands : (i d : ℕ) → 1 ≤ i → i ≤ kinds_of c → d < 64
      → has (slice_index (state_after c (settled c) calls).standing (i - 1)) d ≡ uses (loads_of c (after c start calls).ruled) (i - 1) d
  pub last_way : (i d forward backward : ℕ) → 1 ≤ i → i ≤ kinds_of c → d < 64 → short c forward backward ≡ false
      → has (slice_index (state_after c (settled c) calls).standing (i - 1)) d ≡ true
      → ((does c (state_after c (settled c) calls) (rule_out i d forward backward)).1 ≡ refused 8)
      ↔ AllByRecursion (λ load. slice_index load (i - 1) ≡ d) (loads_of c (after c start calls).ruled)

abbrev pub HistoryStands : Type 0
HistoryStands = (c : Problem) (calls : List Call) → is_empty (fitting c (allowed_sets c)) ≡ false → History c calls

-- After any calls from a settle on: the answers were the register's, and the plan and the register agree.
pub record GoesOn (c : Problem) (calls : List Call) : Type 0 where
  pub answered : says c (settled c) calls ≡ answers c start calls
  pub agrees : Agrees c (lives c (state_after c (settled c) calls)) (after c start calls)

abbrev pub HistoryAgrees : Type 0
HistoryAgrees = (c : Problem) (calls : List Call) → is_empty (fitting c (allowed_sets c)) ≡ false → GoesOn c calls

-- What a list of calls is told, from any life on.
abbrev pub RunsTold : Type 0
RunsTold = (before : Life) (calls : List Call) → Ran before calls (life_after before calls) (replies before calls)

-- The standing sets are never empty, and each lies within the sets that every open branch noted.
pub record SetsAreSound (c : Problem) (s : State) : Type 0 where
  pub long : length s.standing ≡ kinds_of c
  pub never_empty : (j : ℕ) → j < kinds_of c → (d : ℕ) × (d < 64) × (has (slice_index s.standing j) d ≡ true)
  pub nested : Nested (kinds_of c) s.standing s.noted

abbrev pub SetsSound : Type 0
SetsSound = (c : Problem) (s : State) (r : Register) → Shows c s r → SetsAreSound c s

-- The tally over the fitting loads of the counts that stand is the tally over the register's loads, whatever the measure.
abbrev pub TallyStands : {V : Type 0} → Means V → Type 0
TallyStands m =
    (c : Problem) (s : State) (r : Register) → Shows c s r
    → tally_of m c.goal.admits (parts c.kinds s.standing) ≡ tally_over m (parts c.kinds (allowed_sets c)) (loads_of c r.ruled)
