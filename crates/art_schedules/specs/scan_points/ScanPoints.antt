-- The point of an answered scan of the optimistic tree: a moment within it at which its reply is that of the map that calm means.
use Rattle.std.specs.Prelude.{◌≡◌, ℕ, ◌<◌, ◌≤◌, List, length, take, slice_get, Some}
use Rattle.events.specs.declared.event.Call.TheVariants.{Scan}
use Rattle.events.specs.declared.event.Reply.{Reply}
use Rattle.events.specs.Limits.{pair_limit}
use Rattle.map_object.specs.MapObject.{Contents, Does, reply_to}
use Rattle.art_rows.specs.declared.variant.Variant.TheVariants.{Optimistic}
use Rattle.art_core.specs.declared.process.Process.{Process}
use Rattle.art_core.specs.Core.{Plan, State, begun, known_reply, opened_on}
use Rattle.art_core.specs.Runs.{At}
use Rattle.art_core.specs.Plans.{IsRun}
use Rattle.art_core.specs.Meaning.{Means}
use Rattle.art_core.specs.Moments.{HasGot}
use Rattle.art_schedules.specs.calls.RunCalls.{IsIn}
use Rattle.art_schedules.specs.trees.Trees.{IsAtRest}
use Rattle.art_schedules.specs.calm.Calm.{calm_of}

-- A moment t of the schedule, before moment u, at which process p is in this scan, the last of this
-- many calls that it has begun, and has got some of its words. Suppose that calm is a tree at rest
-- then, and means a map of no more pairs than a scan may answer. Then the reply is the map's; so it
-- is legal, and the map stays.
pub record HasScanPoint (plan : Plan) (words schedule : List ℕ) (u p calls low high : ℕ) (reply : Reply) : Type 0 where
  pub t : ℕ
  pub before : t < u
  pub now : State
  pub at : At plan (opened_on plan words) schedule t now
  pub is_in : IsIn now p calls (Scan low high)
  pub got : ℕ
  pub has_got : HasGot calls got now p
  pub replies : (n : ℕ) (m : Contents) → length m ≤ pair_limit → IsAtRest plan.shape n (calm_of plan words (take t schedule))
      → Means plan.shape (calm_of plan words (take t schedule)) m → (reply ≡ reply_to m (Scan low high)) × Does m (Scan low high) reply m

-- Each scan of the optimistic tree whose reply is known at some moment u of a run has such a point. (No scan is refused.)
abbrev pub AnsweredScansHavePoints : Type 0
AnsweredScansHavePoints =
    (plan : Plan) (start : Contents) (words schedule : List ℕ) (s : State) → IsRun plan start words schedule s → plan.variant ≡ Optimistic
    → (u : ℕ) (past : State) → At plan (opened_on plan words) schedule u past → (p low high : ℕ) (q : Process) (reply : Reply)
    → slice_get past.processes p ≡ Some q → q.call ≡ Some (Scan low high) → known_reply plan q.got q.call ≡ Some reply
    → HasScanPoint plan words schedule u p (length (begun q)) low high reply
