-- The calls of a list of events, by number: Herlihy and Wing 1990, section 2, who call them
-- operations.
use Rattle.std.specs.Prelude.{ℕ, suc, ◌==◌, List, [], ◌∷◌, Option, Some, None, if◌then◌else◌}
use Rattle.events.specs.declared.event.Call.{Call}
use Rattle.events.specs.declared.event.Event.{Event}
use Rattle.events.specs.declared.event.Event.TheVariants.{Invoke, Answer}
use Rattle.events.specs.declared.operation.Operation.{Operation}
use Rattle.events.specs.declared.operation.Response.{Response}

-- the first response of a process in a list that starts at place i
abbrev pub response_from : ℕ → ℕ → List Event → Option Response
response_from p i [] = None
response_from p i (Invoke q call ∷ events) = response_from p (suc i) events
response_from p i (Answer q reply ∷ events) = if q == p then Some (record { res = i; reply = reply }) else response_from p (suc i) events

-- a call that a process invokes at place i, before these events: its response is the next one of
-- the same process
abbrev pub operation_of : ℕ → Call → ℕ → List Event → Operation
operation_of p call i events = record { call = call; inv = i; response = response_from p (suc i) events }

-- the calls that are invoked in a list that starts at place i
abbrev pub operations_from : ℕ → List Event → List Operation
operations_from i [] = []
operations_from i (Answer p reply ∷ events) = operations_from (suc i) events
operations_from i (Invoke p call ∷ events) = operation_of p call i events ∷ operations_from (suc i) events

-- the calls of a history: call i is the i-th invocation, from 0
abbrev pub operations : List Event → List Operation
operations events = operations_from 0 events
