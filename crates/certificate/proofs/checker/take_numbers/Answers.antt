use Rattle.certificate.proofs.Common.{subst, arith, take_all, slice_get-get_or, IsRefusedFor, IsPrefixOf, operations}
use Rattle.std.proofs.lemmas.Result.{err_from_is_err_and}
use Rattle.certificate.proofs.FaultLemmas.{refused_order}
use Rattle.certificate.proofs.checker.take_numbers.Goals.{In_err-take}
use Rattle.certificate.proofs.checker.take_numbers.Goals as goal

-- a number that is not taken shows why the list is refused
refused : (c : In_err-take) → IsRefusedFor c.args.history.now.start (operations c.args.history.now.events) c.args.order.now
    c.in_err-take.field-0.0
refused c =
    rw (← c.calls-calls.ensures.calls)
    (c.in_err-take.ensures.refused c.args.history.now.start c.args.order.now
    (slice_get-get_or c.args.order.now c.loop-place.place 0 (omega arith))
    c.loop-place.invariant)

pub returns-in_err-take-clause-refused : goal.returns-in_err-take-clause-refused
returns-in_err-take-clause-refused c =
    let p = err_from_is_err_and c.from_residual.result c.from_residual.ensures.1 in
    rw (p.1, p.2) (refused (goal.at.returns-in_err-take-clause-refused c).In_err-take)

pub returns-in_err-take-clause-accepted : goal.returns-in_err-take-clause-accepted
returns-in_err-take-clause-accepted c = λ h.
    let p = err_from_is_err_and c.from_residual.result c.from_residual.ensures.1 in
    rw (p.1, p.2) (refused_order c.args.history.now.start _ c.args.order.now c.in_err-take.field-0.0
    (refused (goal.at.returns-in_err-take-clause-accepted c).In_err-take) h)

pub loop-place-preserved : goal.loop-place-preserved
loop-place-preserved c = c.in_ok-take.ensures.ok c.args.history.now.start c.args.order.now
    (slice_get-get_or _ c.loop-place.place 0 (omega arith))
    c.loop-place.invariant

pub returns-in-Some-clause-refused : goal.returns-in-Some-clause-refused
returns-in-Some-clause-refused c =
    rw (← c.calls-calls.ensures.calls) (c.in-Some.ensures.missing c.args.history.now.start c.args.order.now
    (subst (λ order. IsPrefixOf c.args.history.now.start c.calls-calls.result.now order c.loop-place.prefix)
    (take_all c.loop-place.place c.args.order.now (omega arith)) c.loop-place.invariant))
