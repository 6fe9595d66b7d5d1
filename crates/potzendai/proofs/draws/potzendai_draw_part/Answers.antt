use Rattle.potzendai.proofs.CallLemmas.{IsCall-outcome}
use Rattle.potzendai.proofs.draws.potzendai_draw_part.Goals as goal

pub returns-then-is_budget : goal.returns-then-is_budget
returns-then-is_budget c =
    IsCall-outcome _ c.args.budget c.args.room.now c.report.new.room c.report.new.size c.report.result c.draw_outcome-outcome.result
    (c.is_budget.ensures.0 c.if-is_budget.true) (rw c.unasked_view.ensures.view at c.draw_outcome-outcome.ensures.outcome) c.report.ensures.status c.report.ensures.size
    c.report.ensures.room
