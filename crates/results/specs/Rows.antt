-- The table of worked results, and the statement that each row holds.
use Rattle.std.specs.Prelude.{◌≡◌, ℕ, ◌-◌, ◌^◌, T, List, [], ◌∷◌, map, Some, Option, nat_le, nat_lt}
use Rattle.std.proofs.Common.{lit≤, lit<}
use Rattle.std.specs.List.{range_with_len}
use Rattle.model.specs.Answers.{Outcome, accepted, refused}
use Rattle.model.specs.Goals.{Target, between, strided}
use Rattle.model.specs.declared.kind.Kind.{Kind}
use Rattle.meaning.specs.Register.{Call, branch, rule_out, withdraw}
use Rattle.results.specs.Outcomes.{Course, TableCell, View, cells_lent, course_of}

-- a row of the table: kinds, a goal and calls, with what is expected of them
pub record WorkedCase : Type 0 where
  pub kinds : List Kind
  pub goal : Target
  pub calls : List Call
  pub expected : Course

-- the kind of that size, price and set of allowed counts; each tt says that a figure keeps its limit
abbrev pub kind : (size price allowed : ℕ) → T (nat_le size 4095) → T (nat_le price 1000) → T (nat_lt 0 allowed) → Kind
kind size price allowed small cheap some = record {
  size = size;
  price = price;
  allowed = allowed;
  small = lit≤ small;
  cheap = lit≤ cheap;
  some = lit< some;
}

-- a cell by its row and its total
abbrev pub cell : ℕ → ℕ → TableCell
cell i b = record { row = i; total = b }

-- a rule-out of count d of kind i
abbrev pub rule_out_field : ℕ → ℕ → Call
rule_out_field i d = rule_out i d cells_lent cells_lent

-- a withdraw of branch n
abbrev pub withdrawal : ℕ → Call
withdrawal n = withdraw n cells_lent cells_lent

-- a price that a tally answers
abbrev pub priced : ℕ → Outcome (Option ℕ)
priced v = accepted (Some v)

-- four kinds of sizes 2 to 5, each taken once or not at all
abbrev pub small_sizes : List Kind
small_sizes = kind 2 20 3 tt tt tt ∷ kind 3 25 3 tt tt tt ∷ kind 4 35 3 tt tt tt ∷ kind 5 40 3 tt tt tt ∷ []

-- four kinds of sizes 27 to 53 without price, each taken up to three times
abbrev pub large_sizes : List Kind
large_sizes = kind 27 0 15 tt tt tt ∷ kind 37 0 15 tt tt tt ∷ kind 45 0 15 tt tt tt ∷ kind 53 0 15 tt tt tt ∷ []

-- what the small kinds show in the band 10 to 12: kind 4 is in every load
abbrev pub small_view : View
small_view = record {
  loads = (0 ∷ 1 ∷ 1 ∷ 1 ∷ []) ∷ (1 ∷ 0 ∷ 1 ∷ 1 ∷ []) ∷ (1 ∷ 1 ∷ 0 ∷ 1 ∷ []) ∷ [];
  standing = map accepted (3 ∷ 3 ∷ 3 ∷ 2 ∷ []);
  marked = cell 0 0 ∷ cell 1 0 ∷ cell 1 2 ∷ cell 2 2 ∷ cell 2 3 ∷ cell 2 5 ∷ cell 3 5 ∷ cell 3 6 ∷ cell 3 7 ∷ cell 4 10 ∷ cell 4 11 ∷ cell 4 12 ∷ [];
  number = accepted 3;
  lowest = priced 85;
  highest = priced 100;
}

-- the same without kind 2: one load is left
abbrev pub small_left : View
small_left = record {
  loads = (1 ∷ 0 ∷ 1 ∷ 1 ∷ []) ∷ [];
  standing = map accepted (2 ∷ 1 ∷ 2 ∷ 2 ∷ []);
  marked = cell 0 0 ∷ cell 1 2 ∷ cell 2 2 ∷ cell 3 6 ∷ cell 4 11 ∷ [];
  number = accepted 1;
  lowest = priced 95;
  highest = priced 95;
}

-- what the large kinds show in the band 80 to 82: kind 1 is taken once, three times or not at all
abbrev pub large_view : View
large_view = record {
  loads = (0 ∷ 1 ∷ 1 ∷ 0 ∷ []) ∷ (1 ∷ 0 ∷ 0 ∷ 1 ∷ []) ∷ (3 ∷ 0 ∷ 0 ∷ 0 ∷ []) ∷ [];
  standing = map accepted (11 ∷ 3 ∷ 3 ∷ 3 ∷ []);
  marked =
      cell 0 0 ∷ cell 1 0 ∷ cell 1 27 ∷ cell 1 81 ∷ cell 2 27 ∷ cell 2 37 ∷ cell 2 81 ∷ cell 3 27 ∷ cell 3 81 ∷ cell 3 82
      ∷ cell 4 80 ∷ cell 4 81 ∷ cell 4 82 ∷ [];
  number = accepted 3;
  lowest = priced 0;
  highest = priced 0;
}

-- the same with even totals alone: three of kind 1 total 81
abbrev pub even_view : View
even_view = record {
  loads = (0 ∷ 1 ∷ 1 ∷ 0 ∷ []) ∷ (1 ∷ 0 ∷ 0 ∷ 1 ∷ []) ∷ [];
  standing = map accepted (3 ∷ 3 ∷ 3 ∷ 3 ∷ []);
  marked = cell 0 0 ∷ cell 1 0 ∷ cell 1 27 ∷ cell 2 27 ∷ cell 2 37 ∷ cell 3 27 ∷ cell 3 82 ∷ cell 4 80 ∷ cell 4 82 ∷ [];
  number = accepted 2;
  lowest = priced 0;
  highest = priced 0;
}

-- a blank plan of one kind shows nothing
abbrev pub blank_view : View
blank_view = record {
  loads = [];
  standing = refused 9 ∷ [];
  marked = [];
  number = refused 9;
  lowest = refused 9;
  highest = refused 9;
}

-- one kind of size 0: every count is a load
abbrev pub weightless_view : View
weightless_view = record {
  loads = map (λ d. d ∷ []) (range_with_len 0 64);
  standing = accepted (2 ^ 64 - 1) ∷ [];
  marked = cell 0 0 ∷ cell 1 0 ∷ [];
  number = accepted 64;
  lowest = priced 0;
  highest = priced 0;
}

-- the table
abbrev pub worked_cases : List WorkedCase
worked_cases =
    record {
      kinds = small_sizes;
      goal = between 10 12;
      calls = [];
      expected = record { settle = accepted 7; answers = []; shown = small_view };
    }
    ∷ record {
      kinds = small_sizes;
      goal = between 10 12;
      calls = rule_out_field 2 1 ∷ [];
      expected = record { settle = accepted 7; answers = accepted 3 ∷ []; shown = small_left };
    }
    ∷ record {
      kinds = small_sizes;
      goal = between 10 12;
      calls = rule_out_field 2 1 ∷ rule_out_field 4 1 ∷ [];
      expected = record { settle = accepted 7; answers = accepted 3 ∷ refused 8 ∷ []; shown = small_left };
    }
    ∷ record {
      kinds = large_sizes;
      goal = between 80 82;
      calls = [];
      expected = record { settle = accepted 9; answers = []; shown = large_view };
    }
    ∷ record {
      kinds = large_sizes;
      goal = strided 2 0 (between 80 82);
      calls = [];
      expected = record { settle = accepted 8; answers = []; shown = even_view };
    }
    ∷ record {
      kinds = large_sizes;
      goal = between 80 82;
      calls = branch ∷ rule_out_field 1 3 ∷ rule_out_field 2 1 ∷ withdrawal 1 ∷ [];
      expected = record {
        settle = accepted 9;
        answers = accepted 1 ∷ accepted 1 ∷ accepted 4 ∷ accepted 5 ∷ [];
        shown = large_view;
      };
    }
    ∷ record {
      kinds = kind 7 0 2 tt tt tt ∷ [];
      goal = between 0 0;
      calls = [];
      expected = record { settle = refused 8; answers = []; shown = blank_view };
    }
    ∷ record {
      kinds = kind 0 0 (2 ^ 64 - 1) tt tt tt ∷ [];
      goal = between 0 0;
      calls = [];
      expected = record { settle = accepted 64; answers = []; shown = weightless_view };
    }
    ∷ []

-- What comes of each row, by the definitions, is what the row expects.
abbrev pub Worked : Type 0
Worked = map (λ r. course_of r.kinds r.goal r.calls) worked_cases ≡ map (λ r. r.expected) worked_cases
