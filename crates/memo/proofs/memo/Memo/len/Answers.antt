use Rattle.std.proofs.lemmas.Map.Made.{AllPairs-from_IsDistinct}
use Rattle.memo.specs.Kept.{Decides-is_kept_same}
use Rattle.memo.proofs.KeptLemmas.{distinct-kept}
use Rattle.memo.proofs.memo.Memo.len.Goals as goal

pub returns-clause-distinct : goal.returns-clause-distinct
returns-clause-distinct c =
    rw (← c.self.view_is)
    (distinct-kept c.self.inside.base c.self.inside.visited.keys c.self.invariant
    (AllPairs-from_IsDistinct Decides-is_kept_same c.self.inside.visited.keys c.len.ensures.unique))
