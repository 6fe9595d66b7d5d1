use Rattle.machine.specs.Machines.{turns_left}
use Rattle.replays.proofs.TurnLemmas.{only-memory}
use Rattle.replays.proofs.turns.make_turn.Goals as goal

pub out_of_memory-requires : goal.out_of_memory-requires
out_of_memory-requires c =
    let may = c.requires in
    only-memory may.plan may.state (turns_left c.args.machine.now) c.args.process c.in-Err.fault may.move may.left
    (c.in-Err.ensures.refused may.plan may.state may.shows)
