-- What it means that all reads of a schedule have their moments.
use Rattle.std.specs.Prelude.{◌≡◌, ◌≢◌, ℕ, List, length, take, slice_get, Some}
use Rattle.events.specs.declared.event.Call.TheVariants.{Get, Scan}
use Rattle.events.specs.declared.event.Reply.{Reply}
use Rattle.events.specs.declared.event.Reply.TheVariants as replies
use Rattle.map_object.specs.MapObject.{Contents}
use Rattle.art_rows.specs.declared.variant.Variant.TheVariants.{Optimistic}
use Rattle.art_core.specs.declared.process.Process.{Process}
use Rattle.art_core.specs.Core.{Plan, State, begun, known_reply, opened_on}
use Rattle.art_core.specs.Runs.{At}
use Rattle.art_core.specs.Plans.{IsRun}
use Rattle.art_core.specs.Moments.{HasMoment}
use Rattle.art_schedules.specs.moments.LastRows.{HasMomentOfLastRow}

-- Each scan that had its reply at some moment of the schedule, other than a refusal, has one moment
-- at which nothing that it read changes.
abbrev pub AnsweredScansHaveMoments : Plan → List ℕ → List ℕ → Type 0
AnsweredScansHaveMoments plan words schedule =
    (t : ℕ) (past : State) → At plan (opened_on plan words) schedule t past → (p low high : ℕ) (q : Process) (reply : Reply)
    → slice_get past.processes p ≡ Some q → q.call ≡ Some (Scan low high) → known_reply plan q.got q.call ≡ Some reply
    → reply ≢ replies.Refused
    → HasMoment plan (opened_on plan words) (take t schedule) p (length (begun q)) (Scan low high) q.got reply

-- Each get that had its reply at some moment of the schedule has one moment at which the last row
-- that it read does not change, and says the reply.
abbrev pub AnsweredGetsHaveMoments : Plan → List ℕ → List ℕ → Type 0
AnsweredGetsHaveMoments plan words schedule =
    (t : ℕ) (past : State) → At plan (opened_on plan words) schedule t past → (p key : ℕ) (q : Process) (reply : Reply)
    → slice_get past.processes p ≡ Some q → q.call ≡ Some (Get key) → known_reply plan q.got q.call ≡ Some reply
    → HasMomentOfLastRow plan (opened_on plan words) (take t schedule) p (length (begun q)) key q.got reply

abbrev pub RunsHaveMomentsOfScans : Type 0
RunsHaveMomentsOfScans = (plan : Plan) (start : Contents) (words schedule : List ℕ) (s : State) → IsRun plan start words schedule s
    → plan.variant ≡ Optimistic
    → AnsweredScansHaveMoments plan words schedule

abbrev pub RunsHaveMomentsOfGets : Type 0
RunsHaveMomentsOfGets = (plan : Plan) (start : Contents) (words schedule : List ℕ) (s : State) → IsRun plan start words schedule s
    → plan.variant ≡ Optimistic
    → AnsweredGetsHaveMoments plan words schedule
