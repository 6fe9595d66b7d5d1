use Rattle.potzendai.proofs.Common.{length, ap, sym, ◌∙◌, written}
use Rattle.potzendai.proofs.CallLemmas.{IsCall-outcome, without_note, yes_is_linearizable, no_is_unlinearizable}
use Rattle.potzendai.proofs.calls.potzendai_judge.Goals as goal

pub returns-then-is_budget-clause-call : goal.returns-then-is_budget-clause-call
returns-then-is_budget-clause-call c =
    let reported = without_note c.args.budget c.args.text.now c.judge_outcome-outcome.result c.judge_outcome-outcome.ensures.outcome in
    IsCall-outcome _ c.args.budget c.args.room.now c.report.new.room c.report.new.size c.report.result reported.plain
    (c.is_budget.ensures.0 c.if-is_budget.true) reported.comes (c.report.ensures.status ∙ reported.status_is)
    (c.report.ensures.size ∙ ap length reported.text_is)
    (c.report.ensures.room ∙ ap (λ text. written text c.args.room.now) reported.text_is)

pub returns-then-is_budget-clause-yes : goal.returns-then-is_budget-clause-yes
returns-then-is_budget-clause-yes c = λ zero.
    let reported = without_note c.args.budget c.args.text.now c.judge_outcome-outcome.result c.judge_outcome-outcome.ensures.outcome in
    yes_is_linearizable c.args.budget c.args.text.now reported.plain reported.comes (sym (c.report.ensures.status ∙ reported.status_is) ∙ zero)

pub returns-then-is_budget-clause-no : goal.returns-then-is_budget-clause-no
returns-then-is_budget-clause-no c = λ one.
    let reported = without_note c.args.budget c.args.text.now c.judge_outcome-outcome.result c.judge_outcome-outcome.ensures.outcome in
    no_is_unlinearizable c.args.budget c.args.text.now reported.plain reported.comes (sym (c.report.ensures.status ∙ reported.status_is) ∙ one)
