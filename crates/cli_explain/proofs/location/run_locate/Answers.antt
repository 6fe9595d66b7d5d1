use Rattle.cli_explain.proofs.Common.{rules, text_limit, IsHistoryRefusal, IsLocateAnswerWith, IsRun-read, IsHistoryRefusal-whole}
use Rattle.cli_explain.proofs.WholeLocations.{IsLocateAnswerWith-whole}
use Rattle.cli_explain.proofs.location.run_locate.Goals as goal

pub returns-clause-run : goal.returns-clause-run
returns-clause-run g c =
    let budget = c.args.budget in
    let order = c.args.order in
    IsRun-read (IsLocateAnswerWith order budget) IsHistoryRefusal text_limit (IsLocateAnswerWith-whole order budget) IsHistoryRefusal-whole
    c.run_text.ensures.run
    (λ text outcome made.
    let shows = made.shows in
    let met = made.says.met in
    search rules)
