use Rattle.potzendai.proofs.Common.{Option, sym, subst, lines_of, HasTaken, LineFollower, Follows}
use Rattle.potzendai.proofs.FollowLemmas.{reported_yes, reported_no}
use Rattle.potzendai.proofs.by_lines.potzendai_follow_verdict.Goals as goal

pub returns-clause-yes : goal.returns-clause-yes
returns-clause-yes c = λ budget all follows zero.
    let held = subst (λ (f : Option LineFollower). Follows budget (lines_of all) f) (sym c.in-Some.ensures.taken) follows in
    let added = subst (λ (f : LineFollower). HasTaken budget (lines_of all) f) (sym c.deref.ensures) held in
    reported_yes budget all _ _ _ _ (c.report_follower-status.ensures budget (lines_of all) added) zero

pub returns-clause-no : goal.returns-clause-no
returns-clause-no c = λ budget all follows one.
    let held = subst (λ (f : Option LineFollower). Follows budget (lines_of all) f) (sym c.in-Some.ensures.taken) follows in
    let added = subst (λ (f : LineFollower). HasTaken budget (lines_of all) f) (sym c.deref.ensures) held in
    reported_no budget all _ _ _ _ (c.report_follower-status.ensures budget (lines_of all) added) one
