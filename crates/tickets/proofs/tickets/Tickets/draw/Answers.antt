use Rattle.std.proofs.Common.{rules}
use Rattle.tickets.proofs.Steps.{draw-allowed}
use Rattle.tickets.proofs.tickets.Tickets.draw.Goals as goal

pub fetch_add-number-requires : goal.fetch_add-number-requires
fetch_add-number-requires c = (search rules, search rules, draw-allowed _ _ _ _ c.requires.some)
