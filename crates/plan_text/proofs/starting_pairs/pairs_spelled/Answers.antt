-- The items of an array that spells pairs spell them one by one.
use Rattle.plan_text.proofs.Common.{map, pair_data}
use Rattle.plan_text.proofs.AmongLemmas.{none-follows, items_of_list}
use Rattle.plan_text.proofs.starting_pairs.pairs_spelled.Goals as goal

pub returns-in-Some-clause-none : goal.returns-in-Some-clause-none
returns-in-Some-clause-none c =
    none-follows c.pairs_of.result
    (λ none pairs h. none pairs
    (items_of_list _ c.in-Some.items.now.items c.deref.result.now (map pair_data pairs) c.in-Some.ensures c.deref.ensures.value h))
    c.pairs_of.ensures.none
