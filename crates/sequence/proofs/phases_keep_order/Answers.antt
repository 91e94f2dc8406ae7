use Rattle.sequence.proofs.Order as Order
use Rattle.sequence.proofs.phases_keep_order.Goals as goal

pub returns : goal.returns
returns c = record { only = Order.only; all = Order.all; begun = Order.begun; place_of_goal = Order.place_of_goal }
