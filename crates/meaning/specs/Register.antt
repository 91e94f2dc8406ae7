-- The register of a plan: the rule-outs in force and the open branches, as they follow from the calls alone.
use Rattle.std.specs.Prelude.{ℕ, ◌+◌, ◌-◌, Bool, true, not, ◌&&◌, List, [], ◌∷◌, ◌++◌, length, take, sum_by, filter, ◌==◌, nat_le}
use Rattle.std.specs.List.{range_with_len}
use Rattle.model.specs.Answers.{Answer, accepted, refuse, refused}
use Rattle.meaning.specs.Problems.{Problem, all_use, allowed_sets, fitting, has_at, in_range, kinds_of, short, uses}
use Rattle.model.specs.Sets.{counts}

-- count `count` of kind `kind`, kinds being numbered from 1, is ruled out
pub record RuleOut : Type 0 where
  pub kind : ℕ
  pub count : ℕ

-- The rule-outs in force, the oldest first; and for each open branch, the latest first, how many rule-outs there were when it opened.
pub record Register : Type 0 where
  pub ruled : List RuleOut
  pub beside : List ℕ

pub data Call : Type 0 where
  rule_out : (kind count forward backward : ℕ) → Call
  branch : Call
  keep : (number : ℕ) → Call
  withdraw : (number forward backward : ℕ) → Call

-- the load has another count than each rule-out's at that kind
abbrev pub free : List RuleOut → List ℕ → Bool
free [] load = true
free (x ∷ xs) load = not (has_at load (x.kind - 1) x.count) && free xs load

-- the loads that fit and are free of the rule-outs
abbrev pub loads_of : Problem → List RuleOut → List (List ℕ)
loads_of c xs = filter (free xs) (fitting c (allowed_sets c))

-- how many counts the loads use, summed over the kinds
abbrev pub used : Problem → List (List ℕ) → ℕ
used c loads = sum_by (λ j. length (filter (uses loads j) counts)) (range_with_len 0 (kinds_of c))

abbrev pub start : Register
start = record { ruled = []; beside = [] }

-- the latest branch closes; by a withdraw, only as many rule-outs as stood beside it stay, the oldest
abbrev pub kept : Register → List ℕ → Register × Answer
kept r [] = (r, refused 13)
kept r (m ∷ ms) = (record { ruled = r.ruled; beside = ms }, accepted (length ms))

abbrev pub withdrawn : Problem → Register → List ℕ → Register × Answer
withdrawn c r [] = (r, refused 13)
withdrawn c r (m ∷ ms) = (
  record { ruled = take m r.ruled; beside = ms },
  accepted (used c (loads_of c (take m r.ruled)) - used c (loads_of c r.ruled)),
)

abbrev pub step : Problem → Register → Call → Register × Answer
step c r (rule_out i d forward backward) =
    let loads : List (List ℕ) = loads_of c r.ruled in
    let more : List RuleOut = r.ruled ++ record { kind = i; count = d } ∷ [] in
    refuse r (short c forward backward) 7
    (refuse r (not (in_range c i d)) 10
    (refuse r (not (uses loads (i - 1) d)) 11
    (refuse r (all_use loads (i - 1) d) 8
    (record { ruled = more; beside = r.beside }, accepted (used c loads - used c (loads_of c more))))))
step c r branch =
    refuse r (nat_le 8 (length r.beside)) 12
    (record { ruled = r.ruled; beside = length r.ruled ∷ r.beside }, accepted (length r.beside + 1))
step c r (keep number) =
    refuse r (not (number == length r.beside)) 13 (kept r r.beside)
step c r (withdraw number forward backward) =
    refuse r (short c forward backward) 7
    (refuse r (not (number == length r.beside)) 13 (withdrawn c r r.beside))

-- the register after the calls, and their answers
abbrev pub after : Problem → Register → List Call → Register
after c r [] = r
after c r (x ∷ xs) = after c (step c r x).0 xs

abbrev pub answers : Problem → Register → List Call → List Answer
answers c r [] = []
answers c r (x ∷ xs) = (step c r x).1 ∷ answers c (step c r x).0 xs
