use Rattle.machine.proofs.Common.{◌≡◌, take, Plan, State, Shows, start_of, turns_left, HasMadeAll}
use Rattle.machine.proofs.machines.Machine.run.Given as goal

abbrev pub invariant-loop-place : goal.invariant-loop-place
invariant-loop-place l =
    ((plan : Plan) (s : State) → Shows plan l.fn.self s → HasMadeAll plan (take l.place l.schedule) s (turns_left l.fn.self) l.self)
    × (start_of l.self ≡ start_of l.fn.self)
