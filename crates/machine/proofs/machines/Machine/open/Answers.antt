use Rattle.art_core.proofs.StartLemmas.{no-start}
use Rattle.machine.proofs.machines.Machine.open.Goals as goal

pub open_on-requires-clause-words : goal.open_on-requires-clause-words
open_on-requires-clause-words c = rw (c.new.ensures.items, c.in-Ok.ensures) (no-start c.args.shape c.args.variant)
