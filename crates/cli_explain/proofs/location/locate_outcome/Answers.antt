use Rattle.cli_explain.proofs.location.locate_outcome.Goals as goal

pub returns-in-Ok : goal.returns-in-Ok
returns-in-Ok c =
    c.outcome_of.ensures c.args.budget c.args.text.now c.in-Ok.history
    (record { spelled = c.in-Ok.ensures.spelled; is_history = c.in-Ok.ensures.history })
    c.locate.ensures
