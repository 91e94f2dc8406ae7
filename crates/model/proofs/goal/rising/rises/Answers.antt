use Rattle.std.proofs.Common.{ltb, rules}
use Rattle.std.proofs.lemmas.List.Sorted.{answers_always}
use Rattle.model.proofs.Pairs.{rising_by_pairs}
use Rattle.model.proofs.goal.rising.rises.Goals as goal

pub returns : goal.returns
returns c =
    rising_by_pairs c.args.totals.now c.is_sorted_by.result (c.is_sorted_by.ensures.cases ltb (answers_always _ _ _ (λ f a r g q. search rules)))
