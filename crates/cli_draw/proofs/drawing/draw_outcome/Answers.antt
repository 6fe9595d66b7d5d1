use Rattle.cli_judge.proofs.HeldTexts.{held-text}
use Rattle.cli_draw.proofs.drawing.draw_outcome.Goals as goal

pub returns-in-Ok-clause-outcome : goal.returns-in-Ok-clause-outcome
returns-in-Ok-clause-outcome g c =
    c.outcome_of.ensures.outcome (g.J.Judge.budget c.args.judge.now) c.args.view c.args.text.now c.in-Ok.history
    (record { spelled = c.in-Ok.ensures.spelled; is_history = c.in-Ok.ensures.history })
    c.drawing_of.ensures.drawing

pub returns-in-Ok-clause-asked : goal.returns-in-Ok-clause-asked
returns-in-Ok-clause-asked g c =
    held-text (g.J.Judge.was_asked c.args.judge.now) c.args.text.now c.in-Ok.history c.drawing_of.result c.outcome_of.result
    c.in-Ok.ensures.spelled c.in-Ok.ensures.history c.drawing_of.ensures.asked c.outcome_of.ensures.answered
