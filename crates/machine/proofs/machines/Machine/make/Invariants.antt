use Rattle.machine.proofs.Common.{◌≡◌, ◌+◌, Plan, State, Shows, start_of, turns_left}
use Rattle.machine.proofs.RunningLemmas.{HasMadeTurns}
use Rattle.machine.proofs.machines.Machine.make.Given as goal

abbrev pub invariant-turns : goal.invariant-turns
invariant-turns l =
    ((plan : Plan) (s : State) → Shows plan l.fn.self s → HasMadeTurns plan l.item s l.made l.self)
    × (turns_left l.self + l.made ≡ turns_left l.fn.self)
    × (start_of l.self ≡ start_of l.fn.self)

abbrev pub decreases-turns : goal.decreases-turns
decreases-turns l = turns_left l.self
