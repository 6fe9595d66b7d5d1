-- The value has no float and nests five deep at most, so it has a text that reads as it, and this is not too long.
use Rattle.plan_text.proofs.Common.{◌≡◌, ◌≤◌, Some, ap, ◌∙◌, arith, IsUtf8-string_bytes, depth, view, max_depth, has_float, compact_text}
use Rattle.plan_text.specs.PlanTexts.{written_data}
use Rattle.plan_text.proofs.WrittenPlanLemmas.{has_float-plan, depth-plan, Spells-written}
use Rattle.plan_text.proofs.PlanSizeLemmas.{size-plan}
use Rattle.plan_text.proofs.write_plans.write_plan.Goals.{After-to_string}
use Rattle.plan_text.proofs.write_plans.write_plan.Goals as goal

module _ (c : After-to_string) where
  same : view c.in_ok-value.value ≡ written_data c.args.plan.now
  same = c.in_ok-value.ensures.value

  shallow : depth (view c.in_ok-value.value) ≤ max_depth
  shallow = rw (same) (omega (arith, depth-plan c.args.plan.now))

pub returns-clause-compact : goal.returns-clause-compact
returns-clause-compact c =
    let is = same (goal.at.returns-clause-compact c).After-to_string in
    c.in_ok-to_string.ensures.text (ap has_float is ∙ has_float-plan c.args.plan.now) ∙ ap compact_text is

pub returns-clause-again : goal.returns-clause-again
returns-clause-again c =
    let before = (goal.at.returns-clause-again c).After-to_string in
    let text = c.in_ok-to_string.ensures.text (ap has_float (same before) ∙ has_float-plan c.args.plan.now)
    ∙ ap compact_text (same before) in
    Spells-written _ c.args.plan.now c.in_ok-value.ensures.scripts.calls (record {
      fits = rw text (size-plan c.args.plan.now c.in_ok-value.ensures.scripts);
      utf8 = IsUtf8-string_bytes c.in_ok-to_string.field-0;
      value = c.in_ok-to_string.ensures.reads_back (shallow before) ∙ ap Some (same before);
    })
