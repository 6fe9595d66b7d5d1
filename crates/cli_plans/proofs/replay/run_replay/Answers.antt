use Rattle.cli_plans.proofs.Common.{rules, text_limit, IsReplayAnswer, IsReplayRefusal, IsRun-read}
use Rattle.cli_plans.proofs.WholeReplays.{IsReplayAnswer-whole, IsReplayRefusal-whole}
use Rattle.cli_plans.proofs.replay.run_replay.Goals as goal

pub returns-clause-run : goal.returns-clause-run
returns-clause-run g c =
    IsRun-read IsReplayAnswer IsReplayRefusal text_limit IsReplayAnswer-whole IsReplayRefusal-whole c.run_text.ensures.run
    (λ text outcome made.
    let shows = made.shows in
    let met = made.says.met in
    search rules)
