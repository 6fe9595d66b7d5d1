use Rattle.recorder.proofs.recorders.Recorder.open.Goals as goal

pub returns-clause-own : goal.returns-clause-own
returns-clause-own c =
    let made = c.in_ok-passes.ensures in
    λ k d within. record { source_is = made.own k d within; process = made.below k d within; calls = made.calls k d within }
