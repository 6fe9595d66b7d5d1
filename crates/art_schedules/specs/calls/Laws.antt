-- Laws of the calls of a run.
use Rattle.std.specs.Prelude.{◌≡◌, ◌↔◌, ℕ, List, length, min, take}
use Rattle.events.specs.Operations.{operations}
use Rattle.map_object.specs.MapObject.{Contents}
use Rattle.orders.specs.Orders.{after_calls, calls_at, IsOrder, IsLinearizable}
use Rattle.art_core.specs.Core.{Plan, State, history_of, opened_on}
use Rattle.art_core.specs.Plans.{IsRun}
use Rattle.art_core.specs.Runs.{At}
use Rattle.art_schedules.specs.calls.RunCalls.{HasCalls}
use Rattle.art_schedules.specs.calls.Effects.{HaveEffects}

-- the calls of a run's history are those that its processes begin
abbrev pub RunsHaveCalls : Type 0
RunsHaveCalls = (plan : Plan) (start : Contents) (words schedule : List ℕ) (s : State) → IsRun plan start words schedule s
    → HasCalls plan (opened_on plan words) schedule s

-- a run whose calls have their effects within them is linearizable
abbrev pub EffectsGiveOrders : Type 0
EffectsGiveOrders = (plan : Plan) (start : Contents) (words schedule : List ℕ) (s : State) → IsRun plan start words schedule s
    → HaveEffects plan start (opened_on plan words) schedule → IsLinearizable start (operations (history_of s))

-- by an order that leaves the pairs after the last step
abbrev pub EffectsLeavePairs : Type 0
EffectsLeavePairs = (plan : Plan) (start : Contents) (words schedule : List ℕ) (s : State) → IsRun plan start words schedule s
    → (effects : HaveEffects plan start (opened_on plan words) schedule) → (order : List ℕ)
    × IsOrder start (operations (history_of s)) order
    × (after_calls start (calls_at (operations (history_of s)) order) ≡ effects.pairs (length schedule))

-- each moment of a run is the end of a run
abbrev pub MomentsEndRuns : Type 0
MomentsEndRuns = (plan : Plan) (start : Contents) (words schedule : List ℕ) (s : State) (t : ℕ) (now : State)
    → IsRun plan start words schedule s
    → At plan (opened_on plan words) schedule t now → IsRun plan start words (take t schedule) now

-- the moments of the first steps of a schedule are moments of the whole
abbrev pub FrontsHaveMoments : Type 0
FrontsHaveMoments = (plan : Plan) (first : State) (schedule : List ℕ) (t u : ℕ) (now : State)
    → At plan first (take u schedule) t now ↔ At plan first schedule (min t u) now
