-- The items of an array that spells a schedule spell it one by one.
use Rattle.plan_text.proofs.Common.{map, item_data}
use Rattle.plan_text.proofs.AmongLemmas.{none-follows, items_of_list}
use Rattle.plan_text.proofs.schedules.schedule_of.Goals as goal

pub returns-in-Some-clause-none : goal.returns-in-Some-clause-none
returns-in-Some-clause-none c =
    none-follows c.few_items_among.result
    (λ none items h standing few. none items
    (items_of_list _ c.in-Some.items.now.items c.deref.result.now (map item_data items) c.in-Some.ensures
    c.deref.ensures.value h) standing few)
    c.few_items_among.ensures.none
