-- The items of an array that spells a script spell its calls.
use Rattle.plan_text.proofs.Common.{map, call_data}
use Rattle.plan_text.proofs.AmongLemmas.{none-follows, items_of_list}
use Rattle.plan_text.proofs.read_scripts.script_of.Goals as goal

pub returns-in-Some-clause-none : goal.returns-in-Some-clause-none
returns-in-Some-clause-none c =
    none-follows c.calls_among.result
    (λ none calls h standing. none calls
    (items_of_list _ c.in-Some.items.now.items c.deref.result.now (map call_data calls) c.in-Some.ensures c.deref.ensures.value h) standing)
    c.calls_among.ensures.none
