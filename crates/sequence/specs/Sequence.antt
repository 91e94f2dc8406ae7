-- The order of fields in a file: any number of kinds, one goal, at most one stride directly after it, any number of rule-outs, the end.
use Rattle.std.specs.Prelude.{◌≡◌, ℕ, ◌+◌, ◌≤◌, Bool, true, false, cond, List, [], ◌∷◌, ◌++◌, length, Some, None, Option}
use Rattle.std.specs.List.{AllByRecursion}
use Rattle.fields.specs.Values.{Value, kind, band, list, stride, rule_out_field, end, field, write}
use Rattle.sequence.specs.declared.phase.Phase.{Phase}
use Rattle.sequence.specs.declared.phase.Phase.TheVariants.{Kinds, Goal, Strided, Rules, Done}

-- before the goal: a kind, or the goal at p
abbrev pub from_kinds : ℕ → Value → Option Phase
from_kinds p (kind size price counts) = Some Kinds
from_kinds p (band low high) = Some (Goal p)
from_kinds p (list totals) = Some (Goal p)
from_kinds p (stride modulus rest) = None
from_kinds p (rule_out_field k count) = None
from_kinds p end = None

-- after it: a rule-out, or the end
abbrev pub from_rules : Value → Option Phase
from_rules (kind size price counts) = None
from_rules (band low high) = None
from_rules (list totals) = None
from_rules (stride modulus rest) = None
from_rules (rule_out_field k count) = Some Rules
from_rules end = Some Done

-- right after it also a stride
abbrev pub from_goal : ℕ → Value → Option Phase
from_goal g (kind size price counts) = None
from_goal g (band low high) = None
from_goal g (list totals) = None
from_goal g (stride modulus rest) = Some (Strided g)
from_goal g (rule_out_field k count) = Some Rules
from_goal g end = Some Done

-- the phase after a field at p, where it is in sequence
abbrev pub follow : Phase → ℕ → Value → Option Phase
follow Kinds p v = from_kinds p v
follow (Goal g) p v = from_goal g v
follow (Strided g) p v = from_rules v
follow Rules p v = from_rules v
follow Done p v = None

-- the end field was read
abbrev pub is_done : Phase → Bool
is_done Kinds = false
is_done (Goal g) = false
is_done (Strided g) = false
is_done Rules = false
is_done Done = true

-- the field is a stride
abbrev pub is_stride : Value → Bool
is_stride (kind size price counts) = false
is_stride (band low high) = false
is_stride (list totals) = false
is_stride (stride modulus rest) = true
is_stride (rule_out_field k count) = false
is_stride end = false

-- the place of the goal that is to be settled before a field
abbrev pub owes : Phase → Value → Option ℕ
owes Kinds v = None
owes (Goal g) v = cond (is_stride v) None (Some g)
owes (Strided g) v = Some g
owes Rules v = None
owes Done v = None

-- the field is a kind
abbrev pub is_kind : Value → Bool
is_kind (kind size price counts) = true
is_kind (band low high) = false
is_kind (list totals) = false
is_kind (stride modulus rest) = false
is_kind (rule_out_field k count) = false
is_kind end = false

-- the field is a band or a list
abbrev pub is_goal : Value → Bool
is_goal (kind size price counts) = false
is_goal (band low high) = true
is_goal (list totals) = true
is_goal (stride modulus rest) = false
is_goal (rule_out_field k count) = false
is_goal end = false

-- the field is a rule-out
abbrev pub is_rule : Value → Bool
is_rule (kind size price counts) = false
is_rule (band low high) = false
is_rule (list totals) = false
is_rule (stride modulus rest) = false
is_rule (rule_out_field k count) = true
is_rule end = false

-- the next phase, if there is one
abbrev pub reach_on : Option Phase → (Phase → Option Phase) → Option Phase
reach_on None then = None
reach_on (Some next) then = then next

-- the phase after some fields, the first of them at p, where all are in sequence
abbrev pub reach : Phase → ℕ → List Value → Option Phase
reach phase p [] = Some phase
reach phase p (v ∷ vs) = reach_on (follow phase p v) (λ next. reach next (p + length (field v)) vs)

-- kinds, one goal, at most one stride, rule-outs, the end
pub record InOrder (vs : List Value) : Type 0 where
  pub kinds : List Value
  pub goal : Value
  pub strides : List Value
  pub rules : List Value
  pub parts : vs ≡ kinds ++ (goal ∷ (strides ++ (rules ++ (end ∷ []))))
  pub all_kinds : AllByRecursion (λ v. is_kind v ≡ true) kinds
  pub one_goal : is_goal goal ≡ true
  pub all_strides : AllByRecursion (λ v. is_stride v ≡ true) strides
  pub one_stride : length strides ≤ 1
  pub all_rules : AllByRecursion (λ v. is_rule v ≡ true) rules

-- the phases accept exactly the fields in order; fields that are in sequence so far are the beginning of some in order
pub record Sequenced : Type 0 where
  pub only : (vs : List Value) → reach Kinds 0 vs ≡ Some Done → InOrder vs
  pub all : (vs : List Value) → InOrder vs → reach Kinds 0 vs ≡ Some Done
  pub begun : (vs : List Value) (phase : Phase) → reach Kinds 0 vs ≡ Some phase → (ws : List Value) × InOrder (vs ++ ws)
  -- the place that is kept for settle is that of the band or list
  pub place_of_goal : (vs : List Value) (phase : Phase) (v : Value) (g : ℕ) → reach Kinds 0 vs ≡ Some phase → owes phase v ≡ Some g
      → (ks : List Value) × (goal : Value) × (ss : List Value) × (vs ≡ ks ++ (goal ∷ ss)) × (is_goal goal ≡ true) × (g ≡ length (write ks))
