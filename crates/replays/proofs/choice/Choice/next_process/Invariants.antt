-- Where a process is found it has something to do. Where none is found, none of those before goes on.
use Rattle.replays.proofs.Common.{◌≡◌, ◌<◌, ℕ, IfSome, None, slice_get, Plan, State, Shows, next_step_of, HasMove, DoesNotGoOn}
use Rattle.replays.proofs.choice.Choice.next_process.Given as goal

abbrev pub invariant-loop-process : goal.invariant-loop-process
invariant-loop-process l =
    ((plan : Plan) (s : State) → Shows plan l.machine s → IfSome l.found (λ p. HasMove plan s p))
    × ((plan : Plan) (s : State) → Shows plan l.machine s → l.found ≡ None → (p : ℕ) → p < l.process
    → DoesNotGoOn s.words (next_step_of plan p (slice_get s.processes p)))
