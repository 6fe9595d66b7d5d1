use Rattle.std.proofs.lemmas.Result.{err_from_is_err_and}
use Rattle.plan_text.proofs.ReplayTextLemmas.{memory_alone}
use Rattle.plan_text.proofs.read_replays.read_replay.Goals as goal

pub returns-in_err-value-clause-accepted : goal.returns-in_err-value-clause-accepted
returns-in_err-value-clause-accepted c = λ r spelled.
    let p = err_from_is_err_and c.from_residual.result c.from_residual.ensures.1 in
    rw (p.1, p.2) (memory_alone c.args.text.now r _ spelled c.in_err-value.ensures.refused)

pub returns-clause-accepted : goal.returns-clause-accepted
returns-clause-accepted c = λ r spelled.
    let none = rw c.in-None.is at c.in-Ok.ensures.none in
    memory_alone c.args.text.now r _ spelled (_, c.in_ok-value.ensures.ok, none)
