-- The moment of an answered get: a moment at which the last row that it read does not change.
use Rattle.std.specs.Prelude.{◌≡◌, ℕ, ◌+◌, ◌<◌, ◌≤◌, List, ◌++◌, length, slice_get, slice_index, Some}
use Rattle.events.specs.declared.event.Call.TheVariants.{Get}
use Rattle.events.specs.declared.event.Reply.{Reply}
use Rattle.map_object.specs.MapObject.{Contents}
use Rattle.art_rows.specs.declared.table.Kind.{Kind}
use Rattle.art_rows.specs.Table.{row_words}
use Rattle.art_rows.specs.declared.variant.Variant.TheVariants.{Optimistic}
use Rattle.art_core.specs.declared.process.Process.{Process}
use Rattle.art_core.specs.Core.{Plan, State, begun, known_reply, opened_on}
use Rattle.art_core.specs.Runs.{At}
use Rattle.art_core.specs.Plans.{IsRun}
use Rattle.art_core.specs.Meaning.{row_in}
use Rattle.art_core.specs.Moments.{HasGot, BeginsAttempt, Reads, Enters, Checks, StandsFrom}
use Rattle.art_schedules.specs.moments.RowReplies.{row_reply}
use Rattle.art_schedules.specs.moments.Gets.{GoesBy}

-- The row is the last that the answering attempt entered. At a moment within the call it is
-- unlocked and has the words that were read of it, and its version word is the one with which it
-- was entered. So it does not change from that entry to its check, after which nothing is read. The
-- reply is what its words say of the key then.
pub record HasMomentOfLastRow (plan : Plan) (first : State) (schedule : List ℕ) (p calls key : ℕ) (got : List ℕ)
    (reply : Reply) : Type 0 where
  pub earlier : List ℕ
  pub attempt : List ℕ
  pub all : got ≡ earlier ++ attempt
  pub begins : BeginsAttempt plan (Get key) earlier
  pub base : ℕ
  pub kind : Kind
  pub entry : ℕ
  pub enters : Enters plan (Get key) attempt entry base kind
  pub last : (i other : ℕ) (its_kind : Kind) → Enters plan (Get key) attempt i other its_kind → i ≤ entry
  pub check : ℕ
  pub checks : Checks plan (Get key) attempt check base
  pub final : (i word : ℕ) → Reads plan (Get key) attempt i word → i ≤ check
  pub t : ℕ
  pub now : State
  pub at : At plan first schedule t now
  pub n : ℕ
  pub within : HasGot calls (length earlier + n) now p
  pub entered : entry < n
  pub unchecked : n ≤ check
  pub holds : (i word : ℕ) → Reads plan (Get key) attempt i word → entry ≤ i → base ≤ word → word < base + row_words kind
      → slice_index now.words word ≡ slice_index attempt i
  pub still : StandsFrom plan first schedule p calls (length earlier) entry check base kind (row_in now.words base kind)
  pub info : ℕ
  pub goes_by : GoesBy plan (Get key) attempt entry base info
  pub replies : row_reply plan.shape now.words base kind info key ≡ Some reply

-- An answered get of the optimistic tree has such a moment, whatever schedule gives it.
abbrev pub GetsHaveOneMoment : Type 0
GetsHaveOneMoment =
    (plan : Plan) (start : Contents) (words schedule : List ℕ) (s : State) (p key : ℕ) (q : Process) (reply : Reply)
    → IsRun plan start words schedule s → plan.variant ≡ Optimistic
    → slice_get s.processes p ≡ Some q → q.call ≡ Some (Get key) → known_reply plan q.got q.call ≡ Some reply
    → HasMomentOfLastRow plan (opened_on plan words) schedule p (length (begun q)) key q.got reply
