use Rattle.explain_locate.proofs.Common.{subst, None, IfOk-weaker, HistoryView, operations, IsExplained, ShowsNoneUpTo}
use Rattle.explain_locate.proofs.EvidenceLemmas.{of_loss}
use Rattle.explain_locate.proofs.showing.loss_evidence.Goals as goal

pub returns-clause-shows : goal.returns-clause-shows
returns-clause-shows c =
    let history = c.args.history.now in
    let none : ShowsNoneUpTo c.args.budget history c.args.loss.now.event =
    subst (λ (h : HistoryView). IsExplained h.start (operations h.events) c.args.budget None) c.in_ok-first.ensures
    (rw c.in-None.is at c.in_ok-few.ensures) in
    IfOk-weaker c.own_evidence.result _ _ (λ evidence own. of_loss c.args.budget history c.args.loss.now evidence none own)
    c.own_evidence.ensures.shows
