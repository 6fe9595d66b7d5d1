use Rattle.std.proofs.Common.{sym, ◌∙◌}
use Rattle.potzendai.proofs.CallLemmas.{IsCall-outcome}
use Rattle.potzendai.proofs.StreamLemmas.{yes_has_order, no_has_none}
use Rattle.potzendai.proofs.follows.potzendai_follow.Goals as goal

pub returns-then-is_budget-clause-call : goal.returns-then-is_budget-clause-call
returns-then-is_budget-clause-call c =
    IsCall-outcome _ c.args.budget c.args.room.now c.report.new.room c.report.new.size c.report.result c.follow_text-outcome.result
    (c.is_budget.ensures.0 c.if-is_budget.true) c.follow_text-outcome.ensures c.report.ensures.status c.report.ensures.size
    c.report.ensures.room

pub returns-then-is_budget-clause-yes : goal.returns-then-is_budget-clause-yes
returns-then-is_budget-clause-yes c = λ zero.
    yes_has_order c.args.budget c.args.text.now c.follow_text-outcome.result c.follow_text-outcome.ensures
    (sym c.report.ensures.status ∙ zero)

pub returns-then-is_budget-clause-no : goal.returns-then-is_budget-clause-no
returns-then-is_budget-clause-no c = λ one.
    no_has_none c.args.budget c.args.text.now c.follow_text-outcome.result c.follow_text-outcome.ensures
    (sym c.report.ensures.status ∙ one)
