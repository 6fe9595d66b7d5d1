-- The turns so far are those that the machine has made, one at each turn of the loop. There is still a choice for each process.
use Rattle.replays.proofs.Common.{◌≡◌, ◌+◌, length, Plan, State, Shows, turns_left}
use Rattle.replays.proofs.TurnLemmas.{HasTurned}
use Rattle.replays.proofs.turns.drawn_turns.Given as goal

abbrev pub invariant-loop-turn : goal.invariant-loop-turn
invariant-loop-turn l =
    ((plan : Plan) (first : State) → Shows plan l.fn.machine first → HasTurned plan first l.turns.items l.machine)
    × (length l.turns.items ≡ l.turn)
    × (turns_left l.machine + l.turn ≡ turns_left l.fn.machine)
    × (length l.choice.processes.items ≡ length l.fn.choice.processes.items)
