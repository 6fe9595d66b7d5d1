-- The value at hand spells no item that may be in a schedule, so the values together spell none.
use Rattle.plan_text.proofs.Common.{map, sym, ap, ◌∙◌, take_all, view, is_item, item_data}
use Rattle.plan_text.proofs.AmongLemmas.{none_among}
use Rattle.plan_text.proofs.ItemLemmas.{spelled_more, standing_more}
use Rattle.plan_text.proofs.schedules.items_among.Goals as goal

pub returns-in_default-clause-none : goal.returns-in_default-clause-none
returns-in_default-clause-none c = λ found h standing.
    none_among item_data is_item c.args.items.now found c.loop-value.value-index c.value-item.result h standing c.loop-value-test.true
    c.value-item.is c.in_default.ensures.none

pub loop-value-preserved : goal.loop-value-preserved
loop-value-preserved c =
    let so_far = c.loop-value.found.items in
    let item = c.in-Some.item in
    record {
      spelled = spelled_more c.args.items.now c.loop-value.value-index c.value-item.result so_far _ item c.loop-value-test.true
          c.value-item.is c.in-Some.ensures.spelled c.in_ok-push.ensures.items c.loop-value.invariant.spelled;
      standing = standing_more so_far _ item c.in_ok-push.ensures.items c.loop-value.invariant.standing c.in-Some.ensures.standing;
    }

pub returns-clause-spelled : goal.returns-clause-spelled
returns-clause-spelled c =
    sym (ap (map view) (take_all c.loop-value.value-index c.args.items.now c.loop-value-test.false)) ∙ c.loop-value.invariant.spelled

pub returns-clause-standing : goal.returns-clause-standing
returns-clause-standing c = c.loop-value.invariant.standing
