-- The items of an array that spells scripts spell them one by one.
use Rattle.plan_text.proofs.Common.{map, script_data}
use Rattle.plan_text.proofs.AmongLemmas.{none-follows, items_of_list}
use Rattle.plan_text.proofs.read_scripts.scripts_of.Goals as goal

pub returns-in-Some-clause-none : goal.returns-in-Some-clause-none
returns-in-Some-clause-none c =
    none-follows c.scripts_among.result
    (λ none scripts h. none scripts
    (items_of_list _ c.in-Some.items.now.items c.deref.result.now (map script_data scripts) c.in-Some.ensures c.deref.ensures.value
    h.value) h.standing)
    c.scripts_among.ensures.none
