use Rattle.cli_explain.proofs.Common.{rules, text_limit, IsHistoryRefusal-whole, IsExplainAnswer, IsHistoryRefusal, IsRun-read}
use Rattle.cli_explain.proofs.OutcomeLemmas.{IsExplainAnswer-whole}
use Rattle.cli_explain.proofs.explained.run_explain.Goals as goal

pub returns-clause-run : goal.returns-clause-run
returns-clause-run g c =
    let budget = c.args.budget in
    IsRun-read (IsExplainAnswer budget) IsHistoryRefusal text_limit (IsExplainAnswer-whole budget) IsHistoryRefusal-whole c.run_text.ensures.run
    (λ text outcome made.
    let shows = made.shows in
    let met = made.says.met in
    search rules)
