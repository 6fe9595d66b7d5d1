-- The value at hand spells no script, so the values together spell no scripts.
use Rattle.plan_text.specs.Scripts.{script_data, is_script}
use Rattle.plan_text.proofs.AmongLemmas.{none_among}
use Rattle.plan_text.proofs.read_scripts.scripts_among.Goals as goal

pub returns-in_default-clause-none : goal.returns-in_default-clause-none
returns-in_default-clause-none c = λ scripts h standing.
    let none = rw c.in_default.is at c.in_ok-script.ensures.none in
    none_among script_data (is_script c.args.may_replace) c.args.items.now scripts c.loop-item.item-index c.item-item.result h standing
    c.loop-item-test.true
    c.item-item.is none
