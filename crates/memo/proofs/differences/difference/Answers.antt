use Rattle.memo.proofs.Common.{sym, subst, filter, Contents, differs, IsDifference}
use Rattle.memo.proofs.DifferenceLemmas.{IsDifference-made}
use Rattle.memo.proofs.differences.difference.Goals as goal

pub returns : goal.returns
returns c =
    let start = c.args.start.now in
    let pairs = c.args.pairs.now in
    subst (λ (p : Contents). IsDifference start pairs p c.in_ok-absent.field-0.items) (sym c.in_ok-unlike.ensures)
    (subst (λ (g : Contents). IsDifference start pairs (filter (differs start) pairs) g) (sym c.in_ok-absent.ensures)
    (IsDifference-made start pairs c.requires.start c.requires.pairs))
