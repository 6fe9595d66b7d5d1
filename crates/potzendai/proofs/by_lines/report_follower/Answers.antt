use Rattle.potzendai.proofs.Common.{subst, HasTaken, LineFollower}
use Rattle.potzendai.proofs.by_lines.report_follower.Goals as goal

pub returns-in-Going : goal.returns-in-Going
returns-in-Going c = λ budget lines added.
    let going = subst (λ (f : LineFollower). HasTaken budget lines f) c.in-Going.is added in
    record {
      outcome = c.finish-outcome.result;
      comes = λ text are. c.finish-outcome.ensures text lines budget going.3 are;
      status_is = c.report.ensures.status;
      size_is = c.report.ensures.size;
      room = c.report.ensures.room;
    }
