use Rattle.memo.proofs.Common.{not, list_any, Decides-at, Decides-not, is_kept_same}
use Rattle.memo.proofs.VisitedLemmas.{Decides-visited}
use Rattle.memo.proofs.memo.insert.Goals as goal

pub returns-in-Ok-clause-new : goal.returns-in-Ok-clause-new
returns-in-Ok-clause-new c =
    let tells = list_any (is_kept_same c.args.form) c.args.visited.now.keys in
    Decides-at c.in-Ok.new (not tells) c.in-Ok.ensures.added (Decides-not tells (Decides-visited c.args.visited.now.keys c.args.form))
