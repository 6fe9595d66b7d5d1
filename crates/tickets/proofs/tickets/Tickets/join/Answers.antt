use Rattle.std.proofs.Common.{rules}
use Rattle.tickets.proofs.Steps.{look-allowed, join-allowed}
use Rattle.tickets.proofs.tickets.Tickets.join.Goals as goal

pub join_seat-requires : goal.join_seat-requires
join_seat-requires c = (search rules, search rules, search rules, search rules, join-allowed _ _ _ _ _)

pub load-requires : goal.load-requires
load-requires c = (search rules, search rules, look-allowed _ _ _ _)
