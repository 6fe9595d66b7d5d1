use Rattle.stream_text.proofs.Common.{err_from_is_err_and, number_found}
use Rattle.stream_text.proofs.ValueLemmas.{too_many-invocation}
use Rattle.stream_text.proofs.read_line.invocation_of.Goals as goal

pub returns-in_err-process-clause-refused : goal.returns-in_err-process-clause-refused
returns-in_err-process-clause-refused c =
    let p = err_from_is_err_and c.from_residual.result c.from_residual.ensures.1 in
    let arm = c.in-Some-Some in
    rw (p.1, p.2, c.in_err-process.ensures.refused.0)
    (too_many-invocation c.args.version arm.process arm.call _ _ arm.ensures.some (number_found _ _ arm.ensures') arm.ensures.range
    c.in_err-process.ensures.refused.1 (cc))
