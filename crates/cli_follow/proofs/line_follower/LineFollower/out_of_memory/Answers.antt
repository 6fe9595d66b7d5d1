use Rattle.cli_follow.proofs.Common.{[], ◌∷◌, ◌++◌, subst, LineFollower, HasTaken, sym, HasEnded}
use Rattle.cli_follow.proofs.LineLemmas.{begins_before, no_memory}
use Rattle.cli_follow.proofs.line_follower.LineFollower.out_of_memory.Goals as goal

pub returns-in-Going-clause-added : goal.returns-in-Going-clause-added
returns-in-Going-clause-added c = λ budget lines next added. no_memory budget (lines ++ next ∷ [])

pub returns-clause-added : goal.returns-clause-added
returns-clause-added c = λ budget lines next added known begins.
    subst (λ (f : LineFollower). HasTaken budget lines f) c.in-Ended.is added known (begins_before known lines next begins)

pub returns-in-Going-clause-ended : goal.returns-in-Going-clause-ended
returns-in-Going-clause-ended c = λ ended. absurd (subst HasEnded c.in-Going.is ended)

pub returns-clause-ended : goal.returns-clause-ended
returns-clause-ended c = λ ended. sym c.in-Ended.is
