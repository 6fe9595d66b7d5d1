use Rattle.std.proofs.Common.{rules}
use Rattle.history_text.specs.Limits.{text_limit}
use Rattle.cli_judge.specs.Answers.{IsHistoryRefusal}
use Rattle.cli_outcome.proofs.ReadText.{IsRun-read}
use Rattle.cli_judge.proofs.WholeHistories.{IsHistoryRefusal-whole}
use Rattle.cli_page.specs.Answers.{IsPageAnswer}
use Rattle.cli_page.proofs.PageLemmas.{IsPageAnswer-whole}
use Rattle.cli_page.proofs.pages.run_page.Goals as goal

pub returns-clause-run : goal.returns-clause-run
returns-clause-run g c =
    let budget = g.J.Judge.budget c.args.judge.now in
    IsRun-read (IsPageAnswer budget) IsHistoryRefusal text_limit (IsPageAnswer-whole budget) IsHistoryRefusal-whole c.run_text.ensures.run
    (λ text outcome made.
    let shows = made.shows in
    let met = made.says.met in
    search rules)
