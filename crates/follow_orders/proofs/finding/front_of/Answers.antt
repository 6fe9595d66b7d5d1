use Rattle.follow_orders.proofs.Common.{◌++◌, ap, sym, ◌∙◌, subst, IsFront, IsFront-from_order, IsClosed, IsClosed-from_front}
use Rattle.follow_orders.proofs.finding.front_of.Goals as goal

pub push_all-requires-clause-closed : goal.push_all-requires-clause-closed
push_all-requires-clause-closed c =
    let calls = c.args.calls.now in
    let order = c.args.order.now in
    let front = IsFront-from_order c.args.start calls order c.requires.apart c.requires.order in
    subst (λ path. IsClosed calls (path ++ order)) (sym c.in_ok-front.ensures.none) (IsClosed-from_front c.args.start calls order front)

pub returns-then-pushed-clause-order : goal.returns-then-pushed-clause-order
returns-then-pushed-clause-order c =
    c.in_ok-pushed.ensures.all c.if-pushed.true
    ∙ ap (λ path. path ++ c.args.order.now) c.in_ok-front.ensures.none

pub unreachable-requires : goal.unreachable-requires
unreachable-requires c =
    let calls = c.args.calls.now in
    let order = c.args.order.now in
    let front = IsFront-from_order c.args.start calls order c.requires.apart c.requires.order in
    c.in_ok-pushed.ensures.refused c.if-pushed.false
    (subst (λ path. IsFront c.in_ok-front.front.start calls (path ++ order)) (sym c.in_ok-front.ensures.none)
    (subst (λ start. IsFront start calls order) (sym c.in_ok-front.ensures.start) front))
