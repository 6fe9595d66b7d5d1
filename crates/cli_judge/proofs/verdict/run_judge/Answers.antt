use Rattle.std.proofs.Common.{rules}
use Rattle.history_text.specs.Limits.{text_limit}
use Rattle.cli_judge.specs.Answers.{IsHintedJudgeAnswer, IsHistoryRefusal}
use Rattle.judge.specs.Gates.{HoldsForText}
use Rattle.cli_outcome.proofs.HintedText.{IsRun-hinted}
use Rattle.cli_outcome.proofs.Reading.{made-status}
use Rattle.cli_judge.proofs.HeldTexts.{held-whole}
use Rattle.cli_judge.proofs.WholeHistories.{IsHintedJudgeAnswer-whole, IsHistoryRefusal-whole}
use Rattle.cli_judge.proofs.verdict.run_judge.Goals as goal

pub returns-clause-run : goal.returns-clause-run
returns-clause-run g c =
    let budget = g.J.Judge.budget c.args.judge.now in
    IsRun-hinted (IsHintedJudgeAnswer budget) IsHistoryRefusal text_limit (IsHintedJudgeAnswer-whole budget) IsHistoryRefusal-whole c.run_text.ensures.run
    (λ text outcome made.
    let shows = made.shows in
    let met = made.says.met in
    search rules)

pub returns-clause-asked : goal.returns-clause-asked
returns-clause-asked g c =
    let WasAsked = g.J.Judge.was_asked c.args.judge.now in
    made-status (HoldsForText WasAsked) text_limit (held-whole WasAsked) c.run_text.ensures.run
    (λ text outcome made.
    let shows = made.shows in
    let met = made.says.met in
    search rules)
