use Rattle.std.proofs.Common.{rules}
use Rattle.tickets.proofs.Steps.{note-allowed, split-allowed}
use Rattle.tickets.proofs.tickets.Tickets.split.Goals as goal

pub compare_exchange-requires : goal.compare_exchange-requires
compare_exchange-requires c = (search rules, search rules, note-allowed _ _ _ _ _)

pub split_seat-seat-requires : goal.split_seat-seat-requires
split_seat-seat-requires c = (search rules, search rules, split-allowed _ _ _ (rw c.compare_exchange.ensures.2 c.requires.enough))
