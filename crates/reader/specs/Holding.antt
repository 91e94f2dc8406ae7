-- What a reader and the two tables lent to it hold, and what each operation does to that.
use Rattle.std.specs.Prelude.{ℕ, List, [], length, Some, None, Option}
use Rattle.model.specs.Answers.{Answer, Outcome, accepted, refused}
use Rattle.model.specs.Cases.{added}
use Rattle.model.specs.Goals.{Target, band_made, list_made, stride_made}
use Rattle.model.specs.declared.kind.Kind.{Kind}
use Rattle.model.specs.Parts.{Part}
use Rattle.meaning.specs.Problems.{needed}
use Rattle.meaning.specs.Register.{rule_out}
use Rattle.meaning.specs.Life.{Life, act, backward_marks, blank, forward_marks, lives, marked, marked_first, settles}
use Rattle.reader.specs.Numbers.{kinds_from}
use Rattle.fields.specs.Values.{Value, kind, band, list, stride, rule_out_field, end}

-- The kinds with their allowed sets; what the band or list of the file means, once it is made; the plan's life, from then on; both tables.
pub record Holding : Type 0 where
  pub kinds : List Part
  pub goal : Option Target
  pub life : Option Life
  pub forward : List ℕ
  pub backward : List ℕ

-- a kind is added
abbrev pub kind_added : Holding → List Part × Answer → Holding × Answer
kind_added h x = (record { kinds = x.0; goal = h.goal; life = h.life; forward = h.forward; backward = h.backward }, x.1)

-- a band or a list is made: the plan is blank over it
abbrev pub goal_made : Holding → Outcome Target → Holding × Answer
goal_made h (refused n) = (h, refused n)
goal_made h (accepted t) = (record { kinds = h.kinds; goal = Some t; life = Some (blank t); forward = h.forward; backward = h.backward }, accepted 0)

-- a stride is made: the plan is blank over the stride
abbrev pub stride_over : Holding → Outcome Target → Holding × Answer
stride_over h (refused n) = (h, refused n)
stride_over h (accepted t) = (record { kinds = h.kinds; goal = h.goal; life = Some (blank t); forward = h.forward; backward = h.backward }, accepted 0)

-- refused 9 while there is no band or list
abbrev pub stride_on : Holding → Option Target → ℕ → ℕ → Holding × Answer
stride_on h None modulus remainder = (h, refused 9)
stride_on h (Some t) modulus remainder = stride_over h (stride_made modulus remainder t)

-- the goal of a plan
abbrev pub target_in : Life → Target
target_in (blank g) = g
target_in (lives c s) = c.goal

-- how many cells a table needs for the kinds under the goal of a plan
abbrev pub cells_under : Life → List Kind → ℕ
cells_under l kinds = needed (record { kinds = kinds; goal = target_in l })

-- the plan is settled with the kinds
abbrev pub settled_as : Holding → ℕ → Life × Answer → Holding × Answer
settled_as h cells x = (
  record {
    kinds = h.kinds;
    goal = h.goal;
    life = Some x.0;
    forward = marked_first (forward_marks x.0) cells x.1 h.forward;
    backward = marked_first (backward_marks x.0) cells x.1 h.backward;
  },
  x.1,
)

-- refused 9 while there is no plan
abbrev pub settle_on : Holding → Option Life → Holding × Answer
settle_on h None = (h, refused 9)
settle_on h (Some l) =
    settled_as h (cells_under l (kinds_from h.kinds)) (settles l (kinds_from h.kinds) (length h.forward) (length h.backward))

-- a count is ruled out of the plan
abbrev pub ruled_as : Holding → Life × Answer → Holding × Answer
ruled_as h x = (
  record {
    kinds = h.kinds;
    goal = h.goal;
    life = Some x.0;
    forward = marked (forward_marks x.0) x.1 h.forward;
    backward = marked (backward_marks x.0) x.1 h.backward;
  },
  x.1,
)

-- refused 9 while there is no plan
abbrev pub rule_on : Holding → Option Life → ℕ → ℕ → Holding × Answer
rule_on h None k d = (h, refused 9)
rule_on h (Some l) k d = ruled_as h (act l (rule_out k d (length h.forward) (length h.backward)))

-- settle
abbrev pub settle_held : Holding → Holding × Answer
settle_held h = settle_on h h.life

-- the operation of each field; the end has none
abbrev pub operate : Holding → Value → Holding × Answer
operate h (kind size price counts) = kind_added h (added h.kinds size price counts)
operate h (band low high) = goal_made h (band_made low high)
operate h (list totals) = goal_made h (list_made totals)
operate h (stride modulus remainder) = stride_on h h.goal modulus remainder
operate h (rule_out_field k d) = rule_on h h.life k d
operate h end = (h, accepted 0)

-- what a reader that has read nothing holds, with these tables
abbrev pub fresh : List ℕ → List ℕ → Holding
fresh forward backward = record { kinds = []; goal = None; life = None; forward = forward; backward = backward }
