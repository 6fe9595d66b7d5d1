use Rattle.potzendai.proofs.CallLemmas.{IsCall-outcome}
use Rattle.potzendai.proofs.calls.potzendai_locate.Goals as goal

pub returns-then-is_budget : goal.returns-then-is_budget
returns-then-is_budget c =
    IsCall-outcome _ c.args.budget c.args.room.now c.report.new.room c.report.new.size c.report.result c.locate_outcome-outcome.result
    (c.is_budget.ensures.0 c.if-is_budget.true) c.locate_outcome-outcome.ensures c.report.ensures.status c.report.ensures.size
    c.report.ensures.room
