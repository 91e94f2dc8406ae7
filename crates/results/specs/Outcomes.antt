-- What comes of a case, a goal and a list of calls, by the definitions that the contracts cite.
use Rattle.std.specs.Prelude.{ℕ, ◌/◌, ◌%◌, ◌&&◌, List, [], map, length, filter, Option, ◌==◌, slice_index}
use Rattle.std.specs.List.{range_with_len}
use Rattle.model.specs.Answers.{Answer, Outcome}
use Rattle.model.specs.Goals.{Target}
use Rattle.model.specs.declared.kind.Kind.{Kind}
use Rattle.meaning.specs.Life.{Life, backward_marks, blank, forward_marks, life_after, lives, replies, settles, standing_set, tallied, wide}
use Rattle.meaning.specs.Models as Models
use Rattle.meaning.specs.Problems.{fitting}
use Rattle.meaning.specs.Register.{Call}

-- a cell of a table
pub record TableCell : Type 0 where
  pub row : ℕ
  pub total : ℕ

-- What a plan shows: the fitting loads of standing counts in order, the standing set of each kind, the cells that are marked in both
-- tables, and the tallies: the number of loads, the lowest and the highest price.
pub record View : Type 0 where
  pub loads : List (List ℕ)
  pub standing : List Answer
  pub marked : List TableCell
  pub number : Answer
  pub lowest : Outcome (Option ℕ)
  pub highest : Outcome (Option ℕ)

-- what settle answers, what each call after it answers, and what the plan shows then
pub record Course : Type 0 where
  pub settle : Answer
  pub answers : List Answer
  pub shown : View

-- how many cells each table and each slice of values is lent
abbrev pub cells_lent : ℕ
cells_lent = 4096

-- the fitting loads of standing counts; a blank plan has none
abbrev pub loads_in : Life → List (List ℕ)
loads_in (blank g) = []
loads_in (lives c s) = fitting c s.standing

-- the cells with a 1 in both of two tables of that width, row by row
abbrev pub marked_in_both : ℕ → List ℕ → List ℕ → List TableCell
marked_in_both width ahead back =
    map (λ k. record { row = k / width; total = k % width })
    (filter (λ k. (slice_index ahead k == 1) && slice_index back k == 1) (range_with_len 0 (length ahead)))

-- what a plan of n kinds over the goal shows
abbrev pub view_of : Target → ℕ → Life → View
view_of goal n life = record {
  loads = loads_in life;
  standing = map (standing_set life) (range_with_len 1 n);
  marked = marked_in_both (wide goal) (forward_marks life) (backward_marks life);
  number = tallied Models.loads life cells_lent;
  lowest = tallied Models.lowest life cells_lent;
  highest = tallied Models.highest life cells_lent;
}

-- what comes of settling a blank plan over the goal with the kinds, and then making the calls
abbrev pub course_of : List Kind → Target → List Call → Course
course_of kinds goal calls =
    let first : Life × Answer = settles (blank goal) kinds cells_lent cells_lent in
    record {
      settle = first.1;
      answers = replies first.0 calls;
      shown = view_of goal (length kinds) (life_after first.0 calls);
    }
