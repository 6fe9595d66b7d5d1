use Rattle.explain_locate.proofs.Common.{subst, None, HistoryView, operations, IsExplained}
use Rattle.explain_locate.proofs.showing.doubt_evidence.Goals as goal

pub returns-clause-shows : goal.returns-clause-shows
returns-clause-shows c =
    subst (λ (h : HistoryView). IsExplained h.start (operations h.events) c.args.budget None) c.in_ok-first.ensures
    (rw c.in-None.is at c.in_ok-few.ensures)
