use Rattle.std.proofs.Common.{◌≡◌, ◌+◌, length, arith}
use Rattle.tickets.proofs.Steps.{EachOnce-end}
use Rattle.tickets.proofs.tickets.Tickets.close.Goals as goal

pub returns-clause-numbers : goal.returns-clause-numbers
returns-clause-numbers c =
    let hand = c.args.hand in
    let whole : length hand.seat.me.0.drawn + hand.seat.me.0.left ≡ c.args.self.table.shared.key =
    omega (arith, hand.drawn_is, hand.left_is, c.args.self.quota_is, c.if-hand-self.false) in
    rw hand.drawn_is (EachOnce-end _ _ _ _ _ c.close_with.ensures.values.2 whole)
