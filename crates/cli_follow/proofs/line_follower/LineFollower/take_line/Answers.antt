use Rattle.cli_follow.proofs.Common.{◌+◌, ◌≤◌, refl, subst, arith, LineFollower, HasTaken, most_lines, sym, HasEnded}
use Rattle.cli_follow.proofs.AddedLemmas.{added_many}
use Rattle.cli_follow.proofs.LineLemmas.{went_on, came_out, begins_before}
use Rattle.cli_follow.proofs.line_follower.LineFollower.take_line.Goals as goal

pub returns-then-lines-ge-MOST_LINES-clause-added : goal.returns-then-lines-ge-MOST_LINES-clause-added
returns-then-lines-ge-MOST_LINES-clause-added c = λ budget lines added.
    added_many budget c.in-Going.budget c.in-Going.lines 18446744073709551615 lines c.args.line.now c.in-Going.followed
    c.refused_many.result
    (subst (λ (f : LineFollower). HasTaken budget lines f) c.in-Going.is added) c.if-lines-ge-MOST_LINES.true refl c.refused_many.ensures

pub returns-in-Ok-clause-added : goal.returns-in-Ok-clause-added
returns-in-Ok-clause-added c = λ budget lines added.
    let few : c.in-Going.lines + 1 ≤ most_lines = omega (arith, c.if-lines-ge-MOST_LINES.false) in
    went_on budget c.in-Going.budget c.in-Going.lines lines c.args.line.now c.in-Going.followed c.in-Ok.followed
    (subst (λ (f : LineFollower). HasTaken budget lines f) c.in-Going.is added) few c.in-Ok.ensures.taken

pub returns-in-Err-clause-added : goal.returns-in-Err-clause-added
returns-in-Err-clause-added c = λ budget lines added.
    came_out budget c.in-Going.budget c.in-Going.lines lines c.args.line.now c.in-Going.followed c.in-Err.outcome
    (subst (λ (f : LineFollower). HasTaken budget lines f) c.in-Going.is added) c.in-Err.ensures.stopped

pub returns-in-Ended-clause-added : goal.returns-in-Ended-clause-added
returns-in-Ended-clause-added c = λ budget lines added known begins.
    subst (λ (f : LineFollower). HasTaken budget lines f) c.in-Ended.is added known
    (begins_before known lines c.args.line.now begins)

pub returns-then-lines-ge-MOST_LINES-clause-ended : goal.returns-then-lines-ge-MOST_LINES-clause-ended
returns-then-lines-ge-MOST_LINES-clause-ended c = λ ended. absurd (subst HasEnded c.in-Going.is ended)

pub returns-in-Ok-clause-ended : goal.returns-in-Ok-clause-ended
returns-in-Ok-clause-ended c = λ ended. absurd (subst HasEnded c.in-Going.is ended)

pub returns-in-Err-clause-ended : goal.returns-in-Err-clause-ended
returns-in-Err-clause-ended c = λ ended. absurd (subst HasEnded c.in-Going.is ended)

pub returns-in-Ended-clause-ended : goal.returns-in-Ended-clause-ended
returns-in-Ended-clause-ended c = λ ended. sym c.in-Ended.is
