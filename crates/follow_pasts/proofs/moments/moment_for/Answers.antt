use Rattle.follow_pasts.proofs.Common.{List, subst, IfSome, AreBegunAfter, Range}
use Rattle.follow_pasts.proofs.MomentLemmas.{begun_earlier, begun_of_none, any_moment}
use Rattle.follow_pasts.proofs.moments.moment_for.Goals as goal

pub returns-then-count_pending-eq0 : goal.returns-then-count_pending-eq0
returns-then-count_pending-eq0 c =
    subst (λ (rs : List Range). AreBegunAfter rs c.args.reads.now c.args.now) c.deref.ensures.value
    (begun_of_none c.deref.result.now c.args.reads.now c.args.now c.in_default.ensures)

pub returns-in_default : goal.returns-in_default
returns-in_default c =
    subst (λ (rs : List Range). IfSome c.in_ok-moment.moment (AreBegunAfter rs c.args.reads.now)) c.deref.ensures.value
    (any_moment c.deref.result.now c.args.reads.now c.in_ok-moment.moment c.in_default.ensures)

pub returns : goal.returns
returns c =
    subst (λ (rs : List Range). AreBegunAfter rs c.args.reads.now c.in-Some-2.moment) c.deref.ensures.value
    (begun_earlier c.deref.result.now c.args.reads.now c.in-Some.hold c.in-Some-2.moment c.in-Some.ensures c.if-hold-moment.false)
