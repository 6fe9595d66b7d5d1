use Rattle.potzendai.proofs.CallLemmas.{IsCall-outcome}
use Rattle.potzendai.proofs.pages.potzendai_page.Goals as goal

pub returns-then-is_budget : goal.returns-then-is_budget
returns-then-is_budget c =
    IsCall-outcome _ c.args.budget c.args.room.now c.report.new.room c.report.new.size c.report.result c.page_outcome-outcome.result
    (c.is_budget.ensures.0 c.if-is_budget.true) c.page_outcome-outcome.ensures c.report.ensures.status c.report.ensures.size
    c.report.ensures.room
