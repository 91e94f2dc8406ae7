-- What a plan holds, what each call does to that, and when a plan shows a register.
use Rattle.std.specs.Prelude.{◌≡◌, ℕ, ◌+◌, ◌-◌, ◌<◌, ◌≤◌, true, false, not, List, [], ◌∷◌, length, take, ◌==◌, nat_le, slice_index}
use Rattle.meaning.specs.Problems.{Problem, allowed_sets, fitting, in_range, is_empty, kinds_of, short, support, without}
use Rattle.meaning.specs.Register.{Call, Register, RuleOut, branch, keep, loads_of, rule_out, withdraw}
use Rattle.model.specs.Answers.{Answer, accepted, refuse, refused}
use Rattle.model.specs.Sets.{has, held_in_all}

-- the standing sets, and the sets that each open branch noted, the latest first
pub record State : Type 0 where
  pub standing : List ℕ
  pub noted : List (List ℕ)

-- the state of a plan that was just settled: the counts stand that some fitting load uses
abbrev pub settled : Problem → State
settled c = record { standing = support (kinds_of c) (fitting c (allowed_sets c)); noted = [] }

abbrev pub close_keep : State → List (List ℕ) → State × Answer
close_keep s [] = (s, refused 13)
close_keep s (t ∷ ts) = (record { standing = s.standing; noted = ts }, accepted (length ts))

abbrev pub close_withdraw : State → List (List ℕ) → State × Answer
close_withdraw s [] = (s, refused 13)
close_withdraw s (t ∷ ts) = (record { standing = t; noted = ts }, accepted (held_in_all t - held_in_all s.standing))

-- what a call does to the state, and what it answers
abbrev pub does : Problem → State → Call → State × Answer
does c s (rule_out i d forward backward) =
    let rest : List (List ℕ) = without (i - 1) d (fitting c s.standing) in
    refuse s (short c forward backward) 7
    (refuse s (not (in_range c i d)) 10
    (refuse s (not (has (slice_index s.standing (i - 1)) d)) 11
    (refuse s (is_empty rest) 8 (
      record { standing = support (kinds_of c) rest; noted = s.noted },
      accepted (held_in_all s.standing - held_in_all (support (kinds_of c) rest)),
    ))))
does c s branch =
    refuse s (nat_le 8 (length s.noted)) 12
    (record { standing = s.standing; noted = s.standing ∷ s.noted }, accepted (length s.noted + 1))
does c s (keep number) =
    refuse s (not (number == length s.noted)) 13 (close_keep s s.noted)
does c s (withdraw number forward backward) =
    refuse s (short c forward backward) 7
    (refuse s (not (number == length s.noted)) 13 (close_withdraw s s.noted))

-- the state after the calls, and their answers
abbrev pub state_after : Problem → State → List Call → State
state_after c s [] = s
state_after c s (x ∷ xs) = state_after c (does c s x).0 xs

abbrev pub says : Problem → State → List Call → List Answer
says c s [] = []
says c s (x ∷ xs) = (does c s x).1 ∷ says c (does c s x).0 xs

-- The sets are the support of the loads that fit and are free of the rule-outs, and there is such a load.
pub record Supports (c : Problem) (sets : List ℕ) (xs : List RuleOut) : Type 0 where
  pub sets_are : sets ≡ support (kinds_of c) (loads_of c xs)
  pub some_load : is_empty (loads_of c xs) ≡ false

-- Each noted list of sets is the support of the loads of the register cut back to the rule-outs that stood beside the branch; the
-- branches before it stand in the register so cut back.
abbrev pub Notes : Problem → List RuleOut → List (List ℕ) → List ℕ → Type 0
Notes c xs [] [] = Unit {0}
Notes c xs [] (m ∷ ms) = ⊥
Notes c xs (t ∷ ts) [] = ⊥
Notes c xs (t ∷ ts) (m ∷ ms) = (m ≤ length xs) × Supports c t (take m xs) × Notes c (take m xs) ts ms

-- the state shows the register
pub record Shows (c : Problem) (s : State) (r : Register) : Type 0 where
  pub now_stand : Supports c s.standing r.ruled
  pub notes : Notes c r.ruled s.noted r.beside
  pub at_most : length r.beside ≤ 8

-- for each of n kinds the first set lies in the second
abbrev pub Lies : ℕ → List ℕ → List ℕ → Type 0
Lies n a b = (j d : ℕ) → j < n → d < 64 → has (slice_index a j) d ≡ true → has (slice_index b j) d ≡ true

-- each lies in the one noted before it
abbrev pub Nested : ℕ → List ℕ → List (List ℕ) → Type 0
Nested n s [] = Unit {0}
Nested n s (t ∷ ts) = Lies n s t × Nested n t ts
