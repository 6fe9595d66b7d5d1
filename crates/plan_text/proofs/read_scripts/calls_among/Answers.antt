-- The value at hand spells no call that may be in a script, so the values together spell no script.
use Rattle.plan_text.proofs.Common.{call_data, is_script_call}
use Rattle.plan_text.proofs.AmongLemmas.{none_among}
use Rattle.plan_text.proofs.read_scripts.calls_among.Goals as goal

pub returns-in_default-clause-none : goal.returns-in_default-clause-none
returns-in_default-clause-none c = λ calls h standing.
    none_among call_data (is_script_call c.args.may_replace) c.args.items.now calls c.loop-item.item-index c.item-item.result h standing
    c.loop-item-test.true
    c.item-item.is c.in_default.ensures.none
