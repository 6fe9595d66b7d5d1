use Rattle.std.proofs.Common.{rules}
use Rattle.history_text.specs.Limits.{text_limit}
use Rattle.cli_judge.specs.Answers.{IsCheckAnswer, IsHistoryRefusal}
use Rattle.cli_outcome.proofs.ReadText.{IsRun-read}
use Rattle.cli_judge.proofs.WholeHistories.{IsCheckAnswer-whole, IsHistoryRefusal-whole}
use Rattle.cli_judge.proofs.check.run_check.Goals as goal

pub returns-clause-run : goal.returns-clause-run
returns-clause-run g c =
    let order = c.args.order.now in
    IsRun-read (IsCheckAnswer order) IsHistoryRefusal text_limit (IsCheckAnswer-whole order) IsHistoryRefusal-whole c.run_text.ensures.run
    (λ text outcome made.
    let shows = made.shows in
    let met = made.says.met in
    search rules)
