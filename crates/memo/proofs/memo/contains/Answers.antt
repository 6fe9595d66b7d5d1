use Rattle.memo.proofs.Common.{list_any, Decides-at, is_kept_same}
use Rattle.memo.proofs.VisitedLemmas.{Decides-visited}
use Rattle.memo.proofs.memo.contains.Goals as goal

pub returns : goal.returns
returns c =
    let visited = c.args.visited.now.keys in
    Decides-at c.contains.result (list_any (is_kept_same c.args.form.now) visited) c.contains.ensures (Decides-visited visited c.args.form.now)
