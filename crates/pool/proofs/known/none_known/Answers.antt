use Rattle.pool.proofs.Common.{◌∷◌, [], ◌++◌, None, ap, ◌∙◌, replicate-append-replicate}
use Rattle.pool.proofs.known.none_known.Goals as goal

pub loop-preserved : goal.loop-preserved
loop-preserved c =
    c.in_ok-push.ensures.items ∙ ap (λ known. known ++ None ∷ []) c.loop.invariant ∙ replicate-append-replicate c.loop.counter 1 None
