use Rattle.cli_judge.proofs.HeldTexts.{held-text}
use Rattle.cli_judge.proofs.verdict.judge_outcome.Goals as goal

pub returns-in-Ok-clause-outcome : goal.returns-in-Ok-clause-outcome
returns-in-Ok-clause-outcome g c =
    c.hinted_outcome_of.ensures.outcome (g.J.Judge.budget c.args.judge.now) c.args.text.now
    (record { spelled = c.in-Ok.ensures.spelled; is_history = c.in-Ok.ensures.history })
    c.verdict_on-judged.ensures.shown c.verdict_on-judged.ensures.exact

pub returns-in-Ok-clause-asked : goal.returns-in-Ok-clause-asked
returns-in-Ok-clause-asked g c =
    held-text (g.J.Judge.was_asked c.args.judge.now) c.args.text.now c.in-Ok.history c.verdict_on-judged.result c.hinted_outcome_of.result
    c.in-Ok.ensures.spelled c.in-Ok.ensures.history c.verdict_on-judged.ensures.asked c.hinted_outcome_of.ensures.answered
