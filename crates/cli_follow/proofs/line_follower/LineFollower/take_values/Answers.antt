use Rattle.cli_follow.proofs.Common.{◌+◌, ◌≤◌, refl, subst, arith, as_event, LineFollower, event_line, HasTaken, MayTake, most_lines, sym, HasEnded}
use Rattle.cli_follow.proofs.EventLineLemmas.{spells}
use Rattle.cli_follow.proofs.LineLemmas.{went_on, came_out, begins_before}
use Rattle.cli_follow.proofs.line_follower.LineFollower.take_values.Goals as goal

pub returns-in-Ok-clause-added : goal.returns-in-Ok-clause-added
returns-in-Ok-clause-added c = λ budget lines words added.
    let e = as_event c.args.event.now in
    let may = subst (λ (f : LineFollower). MayTake f e) c.in-Going.is c.requires in
    let few : c.in-Going.lines + 1 ≤ most_lines = omega (arith, may.0) in
    went_on budget c.in-Going.budget c.in-Going.lines lines (event_line e) c.in-Going.followed c.in-Ok.followed
    (subst (λ (f : LineFollower). HasTaken budget lines f) c.in-Going.is added) few
    (λ read counted followed. c.in-Ok.ensures.taken read followed (spells c.in-Going.followed.version e words may.1))

pub returns-in-Err-clause-added : goal.returns-in-Err-clause-added
returns-in-Err-clause-added c = λ budget lines words added.
    let e = as_event c.args.event.now in
    let may = subst (λ (f : LineFollower). MayTake f e) c.in-Going.is c.requires in
    came_out budget c.in-Going.budget c.in-Going.lines lines (event_line e) c.in-Going.followed c.in-Err.outcome
    (subst (λ (f : LineFollower). HasTaken budget lines f) c.in-Going.is added)
    (λ known read counted followed begins. c.in-Err.ensures.stopped known read (rw counted refl) followed
    (spells c.in-Going.followed.version e words may.1) begins)

pub returns-in-Ended-clause-added : goal.returns-in-Ended-clause-added
returns-in-Ended-clause-added c = λ budget lines words added known begins.
    subst (λ (f : LineFollower). HasTaken budget lines f) c.in-Ended.is added known
    (begins_before known lines (event_line (as_event c.args.event.now)) begins)

pub returns-in-Ok-clause-ended : goal.returns-in-Ok-clause-ended
returns-in-Ok-clause-ended c = λ ended. absurd (subst HasEnded c.in-Going.is ended)

pub returns-in-Err-clause-ended : goal.returns-in-Err-clause-ended
returns-in-Err-clause-ended c = λ ended. absurd (subst HasEnded c.in-Going.is ended)

pub returns-in-Ended-clause-ended : goal.returns-in-Ended-clause-ended
returns-in-Ended-clause-ended c = λ ended. sym c.in-Ended.is
