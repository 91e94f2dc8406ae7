-- What a reader holds.
use Rattle.std.specs.Prelude.{ℕ, List}
use Rattle.model.specs.Answers.{option_as}
use Rattle.model.specs.Cases.{allowed_parts, kinds_in}
use Rattle.plan.specs.Seen.{life}
use Rattle.reader.specs.declared.reader.Reader.{Reader}
use Rattle.reader.specs.Holding.{Holding}
use Rattle.reader.specs.Targets.{file_target, named_target}

-- a reader with what the tables hold
abbrev pub seen : Reader → List ℕ → List ℕ → Holding
seen r forward backward = record {
  kinds = allowed_parts (kinds_in r.case);
  goal = option_as named_target r.goal;
  life = option_as (life file_target) r.plan;
  forward = forward;
  backward = backward;
}
