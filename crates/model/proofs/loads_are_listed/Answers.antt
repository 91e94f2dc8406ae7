use Rattle.model.specs.Parts.{sets_of}
use Rattle.model.specs.Loads.{total_of}
use Rattle.model.proofs.Listed.{lists}
use Rattle.model.proofs.Order.{order_told}
use Rattle.model.proofs.loads_are_listed.Goals as goal

pub returns : goal.returns
returns c = record {
  choices = lists;
  loads = λ admits ps. lists (λ load. admits (total_of ps load)) (sets_of ps);
  order = order_told;
}
