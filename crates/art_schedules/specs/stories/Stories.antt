-- Stories of runs: the pairs that the map holds at each moment, and how far each open call has come.
use Rattle.std.specs.Prelude.{◌≡◌, ◌≢◌, ℕ, ◌+◌, ◌<◌, ◌≤◌, Bool, true, false, List, length, slice_get, Some}
use Rattle.events.specs.declared.event.Call.{Call}
use Rattle.events.specs.declared.event.Reply.{Reply}
use Rattle.events.specs.declared.event.Reply.TheVariants as replies
use Rattle.map_object.specs.MapObject.{Contents, Does}
use Rattle.art_core.specs.Core.{Plan, State, opened_on}
use Rattle.art_core.specs.Runs.{At}
use Rattle.art_schedules.specs.calls.RunCalls.{IsIn, EndsAt}
use Rattle.art_schedules.specs.calls.Effects.{IsInCallAt}

-- An open call has found its reply in the pairs, or has changed them with it, or has done neither yet.
pub data Status : Type 0 where
  Before : Status
  Found Changed : Reply → Status

-- it has not changed them
abbrev pub HasNotChanged : Status → Type 0
HasNotChanged Before = Unit {0}
HasNotChanged (Found reply) = Unit {0}
HasNotChanged (Changed reply) = ⊥

-- it has this reply
abbrev pub HasReply : Status → Reply → Type 0
HasReply Before reply = ⊥
HasReply (Found r) reply = r ≡ reply
HasReply (Changed r) reply = r ≡ reply

-- The tale of a run: the pairs before each step, and whether the step changes them.
pub record Trace : Type 0 where
  pub pairs : ℕ → Contents
  pub changes : ℕ → Bool

-- At moment t process p is in this call, the last of this many that it has begun.
pub record IsInCall (plan : Plan) (first : State) (schedule : List ℕ) (t p calls : ℕ) (call : Call) : Type 0 where
  pub now : State
  pub at : At plan first schedule t now
  pub is_in : IsIn now p calls call

-- step u is one of the call's
abbrev pub IsOwnStep : Plan → State → List ℕ → ℕ → ℕ → Call → ℕ → Type 0
IsOwnStep plan first schedule p calls call u = (slice_get schedule u ≡ Some p) × IsInCall plan first schedule u p calls call

-- up to moment t none of its steps has changed the pairs
abbrev pub HasKept : Plan → State → List ℕ → Trace → ℕ → ℕ → ℕ → Call → Type 0
HasKept plan first schedule tale t p calls call = (u : ℕ) → u < t → IsOwnStep plan first schedule p calls call u → tale.changes u ≡ false

-- None has, and at some moment within the call, up to t, the reply is legal and the call leaves the pairs as they are.
pub record HasFound (plan : Plan) (first : State) (schedule : List ℕ) (tale : Trace) (t p calls : ℕ) (call : Call)
    (reply : Reply) : Type 0 where
  pub kept : HasKept plan first schedule tale t p calls call
  pub moment : ℕ
  pub until : moment ≤ t
  pub within : IsInCall plan first schedule moment p calls call
  pub finds : Does (tale.pairs moment) call reply (tale.pairs moment)

-- One of its steps before moment t has changed the pairs, as the call does with this reply.
pub record HasChanged (plan : Plan) (first : State) (schedule : List ℕ) (tale : Trace) (t p calls : ℕ) (call : Call)
    (reply : Reply) : Type 0 where
  pub step : ℕ
  pub until : step < t
  pub own : IsOwnStep plan first schedule p calls call step
  pub change : tale.changes step ≡ true
  pub does : Does (tale.pairs step) call reply (tale.pairs (step + 1))
  pub accepted : reply ≢ replies.Refused
  pub only : (u : ℕ) → u < t → IsOwnStep plan first schedule p calls call u → tale.changes u ≡ true → u ≡ step

-- how far the call has come at moment t
abbrev pub HasStatus : Plan → State → List ℕ → Trace → ℕ → ℕ → ℕ → Call → Status → Type 0
HasStatus plan first schedule tale t p calls call Before = HasKept plan first schedule tale t p calls call
HasStatus plan first schedule tale t p calls call (Found reply) = HasFound plan first schedule tale t p calls call reply
HasStatus plan first schedule tale t p calls call (Changed reply) = HasChanged plan first schedule tale t p calls call reply

-- The tale is a story of the run. Other steps leave the pairs. At each moment each open call has a
-- status, and at the step that answers it this status has the reply.
pub record IsStory (plan : Plan) (start : Contents) (first : State) (schedule : List ℕ) (tale : Trace) : Type 0 where
  pub begins : tale.pairs 0 ≡ start
  pub stay : (t : ℕ) → t < length schedule → tale.changes t ≡ false → tale.pairs (t + 1) ≡ tale.pairs t
  pub in_call : (t p : ℕ) → slice_get schedule t ≡ Some p → tale.changes t ≡ true → IsInCallAt plan first schedule t p
  pub statuses : (t p calls : ℕ) (call : Call) → t ≤ length schedule → IsInCall plan first schedule t p calls call
      → (status : Status) × HasStatus plan first schedule tale t p calls call status
  pub answers : (t p calls : ℕ) (call : Call) (reply : Reply) → EndsAt plan first schedule t p calls call reply
      → (tale.changes t ≡ false) × (status : Status) × HasStatus plan first schedule tale t p calls call status × HasReply status reply

-- a run of these starting pairs, on these words, has a story
abbrev pub HasStory : Plan → Contents → List ℕ → List ℕ → Type 0
HasStory plan start words schedule = (tale : Trace) × IsStory plan start (opened_on plan words) schedule tale
