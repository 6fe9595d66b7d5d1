use Rattle.pool.proofs.Common.{at_read, IfOk-weaker, HoldsAt, IsExactAnswer}
use Rattle.pool.proofs.worker.search_one.Goals as goal

pub returns : goal.returns
returns g c =
    let segments = c.args.segments.now in
    IfOk-weaker _ (IsExactAnswer c.args.budget c.index-segments-segment.result)
    (λ f. HoldsAt (λ s. IsExactAnswer c.args.budget s f) segments c.args.segment)
    (λ f exact. at_read segments (λ s. IsExactAnswer c.args.budget s f) _ _ c.requires.known c.index-segments-segment.is exact)
    c.find_order.ensures
