use Rattle.machine.proofs.StartingLemmas.{insert-fits}
use Rattle.machine.proofs.starting.start_script.Goals as goal

pub insert-requires : goal.insert-requires
insert-requires c = insert-fits c.args.start.now c.loop-key.key-index c.requires c.loop-key-test.true
