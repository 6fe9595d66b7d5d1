-- The map of a run never has more pairs than a scan may answer.
use Rattle.std.specs.Prelude.{◌≡◌, ℕ, ◌+◌, ◌<◌, ◌≤◌, Bool, true, false, List, length, slice_get, Some}
use Rattle.events.specs.declared.event.Call.{Call}
use Rattle.events.specs.Limits.{pair_limit}
use Rattle.map_object.specs.MapObject.{Contents}
use Rattle.art_core.specs.Core.{Plan, State, opened_on}
use Rattle.art_core.specs.Runs.{At}
use Rattle.art_core.specs.Plans.{IsRun}
use Rattle.art_schedules.specs.calls.RunCalls.{IsIn}
use Rattle.art_schedules.specs.calls.Effects.{IsInCallAt, HaveEffects}

-- Step t changes the pairs, and is one of process p in this call, the last of this many that it has
-- begun.
pub record ChangesIn (plan : Plan) (first : State) (schedule : List ℕ) (changes : ℕ → Bool) (t p calls : ℕ) : Type 0 where
  pub change : changes t ≡ true
  pub turn : slice_get schedule t ≡ Some p
  pub now : State
  pub at : At plan first schedule t now
  pub call : Call
  pub is_in : IsIn now p calls call

-- The pairs before each step, and whether the step changes them. From the starting pairs on, only
-- steps of calls change them. Each such step adds at most one pair, and no call changes them at two
-- steps.
pub record GrowByCalls (plan : Plan) (start : Contents) (first : State) (schedule : List ℕ) (pairs : ℕ → Contents)
    (changes : ℕ → Bool) : Type 0 where
  pub begins : pairs 0 ≡ start
  pub stay : (t : ℕ) → t < length schedule → changes t ≡ false → pairs (t + 1) ≡ pairs t
  pub in_call : (t p : ℕ) → slice_get schedule t ≡ Some p → changes t ≡ true → IsInCallAt plan first schedule t p
  pub grow : (t : ℕ) → t < length schedule → changes t ≡ true → length (pairs (t + 1)) ≤ length (pairs t) + 1
  pub once : (t u p calls : ℕ) → ChangesIn plan first schedule changes t p calls → ChangesIn plan first schedule changes u p calls → t ≡ u

-- If pairs grow so, they are few at each moment of a run.
abbrev pub PairsStayFew : Type 0
PairsStayFew = (plan : Plan) (start : Contents) (words schedule : List ℕ) (s : State) (pairs : ℕ → Contents) (changes : ℕ → Bool)
    → IsRun plan start words schedule s → GrowByCalls plan start (opened_on plan words) schedule pairs changes → (t : ℕ)
    → t ≤ length schedule
    → length (pairs t) ≤ pair_limit

-- If each call of a run has its effect, the pairs are few at each moment.
abbrev pub EffectsKeepFewPairs : Type 0
EffectsKeepFewPairs = (plan : Plan) (start : Contents) (words schedule : List ℕ) (s : State) → IsRun plan start words schedule s
    → (effects : HaveEffects plan start (opened_on plan words) schedule) → (t : ℕ) → t ≤ length schedule
    → length (effects.pairs t) ≤ pair_limit
