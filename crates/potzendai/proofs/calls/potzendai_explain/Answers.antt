use Rattle.std.proofs.Common.{sym, ◌∙◌}
use Rattle.potzendai.proofs.CallLemmas.{IsCall-outcome, explained_yes_is_linearizable, explained_no_is_unlinearizable}
use Rattle.potzendai.proofs.calls.potzendai_explain.Goals as goal

pub returns-then-is_budget-clause-call : goal.returns-then-is_budget-clause-call
returns-then-is_budget-clause-call c =
    IsCall-outcome _ c.args.budget c.args.room.now c.report.new.room c.report.new.size c.report.result c.explain_outcome-outcome.result
    (c.is_budget.ensures.0 c.if-is_budget.true) c.explain_outcome-outcome.ensures c.report.ensures.status c.report.ensures.size
    c.report.ensures.room

pub returns-then-is_budget-clause-yes : goal.returns-then-is_budget-clause-yes
returns-then-is_budget-clause-yes c = λ zero.
    explained_yes_is_linearizable c.args.budget c.args.text.now c.explain_outcome-outcome.result c.explain_outcome-outcome.ensures
    (sym c.report.ensures.status ∙ zero)

pub returns-then-is_budget-clause-no : goal.returns-then-is_budget-clause-no
returns-then-is_budget-clause-no c = λ one.
    explained_no_is_unlinearizable c.args.budget c.args.text.now c.explain_outcome-outcome.result c.explain_outcome-outcome.ensures
    (sym c.report.ensures.status ∙ one)
