use Rattle.pool.proofs.pool.gather.Goals as goal

pub returns : goal.returns
returns c = rw c.in_ok-answers.was c.in_ok-append.ensures.items
