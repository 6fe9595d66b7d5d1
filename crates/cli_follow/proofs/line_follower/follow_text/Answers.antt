use Rattle.cli_follow.proofs.Common.{[], Some, refl, subst, lines_of, LineFollower, HasTaken}
use Rattle.cli_follow.proofs.AddedLemmas.{ended_with}
use Rattle.cli_follow.proofs.line_follower.follow_text.Goals as goal

pub returns-in-Going : goal.returns-in-Going
returns-in-Going c =
    let lines = lines_of c.args.text.now in
    let added = subst (λ (f : LineFollower). HasTaken c.args.budget lines f) c.in-Going.is
    (c.take_lines.ensures.added c.args.budget [] c.in-Ok.ensures) in
    c.finish.ensures (Some c.args.text.now) lines c.args.budget added.3 refl

pub returns-in-Ended : goal.returns-in-Ended
returns-in-Ended c =
    ended_with c.args.budget c.args.text.now c.in-Ended.outcome
    (subst (λ (f : LineFollower). HasTaken c.args.budget (lines_of c.args.text.now) f) c.in-Ended.is
    (c.take_lines.ensures.added c.args.budget [] c.in-Ok.ensures))
