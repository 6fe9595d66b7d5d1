-- Where the calls of a run take effect: within the call, at a step of its process that changes the pairs, or at a moment at which they are
-- as it found them.
use Rattle.std.specs.Prelude.{◌≡◌, ℕ, ◌+◌, ◌<◌, Bool, true, false, List, length, slice_get, Some, None}
use Rattle.events.specs.declared.event.Call.{Call}
use Rattle.events.specs.declared.operation.Operation.{Operation}
use Rattle.map_object.specs.MapObject.{Contents}
use Rattle.orders.specs.Leads.{DoesCall}
use Rattle.art_core.specs.Core.{Plan, State}
use Rattle.art_core.specs.Runs.{At}
use Rattle.art_schedules.specs.calls.RunCalls.{IsIn, IsWithin, IsRunCall, RunCall}

-- Step t is one of the call's process, within the call.
abbrev pub IsStepOf : List ℕ → RunCall → ℕ → Type 0
IsStepOf schedule c t = (slice_get schedule t ≡ Some c.process) × IsWithin c t

-- none of the call's steps changes the pairs
abbrev pub ChangesNothing : List ℕ → (ℕ → Bool) → RunCall → Type 0
ChangesNothing schedule changes c = (t : ℕ) → IsStepOf schedule c t → changes t ≡ false

-- One step of the call changes the pairs, to those that it leaves.
pub record ChangesOnce (schedule : List ℕ) (pairs : ℕ → Contents) (changes : ℕ → Bool) (a : Operation) (c : RunCall) : Type 0 where
  pub t : ℕ
  pub own : IsStepOf schedule c t
  pub change : changes t ≡ true
  pub does : DoesCall (pairs t) a.call a.response (pairs (t + 1))
  pub only : (u : ℕ) → IsStepOf schedule c u → changes u ≡ true → u ≡ t

-- No step of the call changes the pairs, and at some moment within it the call is legal and leaves the pairs as they are.
pub record FindsPairs (schedule : List ℕ) (pairs : ℕ → Contents) (changes : ℕ → Bool) (a : Operation) (c : RunCall) : Type 0 where
  pub t : ℕ
  pub within : IsWithin c t
  pub does : DoesCall (pairs t) a.call a.response (pairs t)
  pub nothing : ChangesNothing schedule changes c

-- what a call does: it changes the pairs once, or finds them once, or has done neither yet
pub data HasOwnEffect (schedule : List ℕ) (pairs : ℕ → Contents) (changes : ℕ → Bool) (a : Operation) (c : RunCall) : Type 0 where
  Changes : ChangesOnce schedule pairs changes a c → HasOwnEffect schedule pairs changes a c
  Finds : FindsPairs schedule pairs changes a c → HasOwnEffect schedule pairs changes a c
  Pends : a.response ≡ None → ChangesNothing schedule changes c → HasOwnEffect schedule pairs changes a c

-- a moment of the schedule at which process p is in a call
abbrev pub IsInCallAt : Plan → State → List ℕ → ℕ → ℕ → Type 0
IsInCallAt plan first schedule t p = (now : State) × (calls : ℕ) × (call : Call) × At plan first schedule t now × IsIn now p calls call

-- Every call of the schedule has its effect. `pairs t` is what the map holds before step t, from
-- the starting pairs on. `changes t` says whether step t is one that changes them; a step outside
-- of a call changes nothing.
pub record HaveEffects (plan : Plan) (start : Contents) (first : State) (schedule : List ℕ) : Type 0 where
  pub pairs : ℕ → Contents
  pub changes : ℕ → Bool
  pub begins : pairs 0 ≡ start
  pub stay : (t : ℕ) → t < length schedule → changes t ≡ false → pairs (t + 1) ≡ pairs t
  pub in_call : (t p : ℕ) → slice_get schedule t ≡ Some p → changes t ≡ true → IsInCallAt plan first schedule t p
  pub each : (a : Operation) (c : RunCall) → IsRunCall plan first schedule a c → HasOwnEffect schedule pairs changes a c
