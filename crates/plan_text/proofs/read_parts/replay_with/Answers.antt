-- Values that spell no settings, or no schedule, are those of no replay.
use Rattle.plan_text.proofs.Common.{list_all-from_AllPass, is_item}
use Rattle.plan_text.proofs.read_parts.replay_with.Goals as goal

pub returns-in_default-clause-none : goal.returns-in_default-clause-none
returns-in_default-clause-none c = λ s r _ _ parts.
    c.in_default.ensures.none r.limit r.shape r.variant (record {
      limit_is = parts.limit;
      some_turn = parts.within.some_turn;
      few_turns = parts.within.few_turns;
      rows_are = parts.rows;
      within = parts.within.plan.shape;
      variant_is = parts.variant;
    })

pub returns-in_default-2-clause-none : goal.returns-in_default-2-clause-none
returns-in_default-2-clause-none c = λ s r _ _ parts.
    let none = rw c.in_default-2.is at c.in_ok-schedule.ensures.none in
    none r.schedule parts.schedule (list_all-from_AllPass is_item r.schedule parts.within.items) parts.within.few_items
