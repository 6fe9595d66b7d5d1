use Rattle.stream_text.proofs.Common.{err_from_is_err_and, number_found}
use Rattle.std.proofs.lemmas.Option.{MatchOption-at_some}
use Rattle.stream_text.proofs.ValueLemmas.{too_many-response}
use Rattle.stream_text.proofs.read_line.response_of.Goals as goal

pub returns-in_err-process-clause-refused : goal.returns-in_err-process-clause-refused
returns-in_err-process-clause-refused c =
    let p = err_from_is_err_and c.from_residual-in_err-process.result c.from_residual-in_err-process.ensures.1 in
    let arm = c.in-Some-Some in
    rw (p.1, p.2, c.in_err-process.ensures.refused.0)
    (too_many-response c.args.version arm.process arm.reply _ _ (MatchOption-at_some _ _ arm.reply arm.is-0 c.in_ok-reply.ensures.some)
    (number_found _ _ arm.ensures) c.in_err-process.ensures.refused.1 (cc))
