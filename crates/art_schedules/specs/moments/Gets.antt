-- What an answered get has read and checked: a law of its steps alone, whatever words it got.
use Rattle.std.specs.Prelude.{◌≡◌, ◌⊎◌, ℕ, ◌+◌, ◌<◌, ◌≤◌, List, ◌++◌, slice_index, Some}
use Rattle.events.specs.declared.event.Call.{Call}
use Rattle.events.specs.declared.event.Call.TheVariants.{Get}
use Rattle.events.specs.declared.event.Reply.{Reply}
use Rattle.art_rows.specs.declared.table.Kind.{Kind}
use Rattle.art_rows.specs.Table.{row_words, root_base, info_at}
use Rattle.art_core.specs.Core.{Plan}
use Rattle.art_core.specs.Moments.{BeginsAttempt, Reads, Enters, Checks}
use Rattle.art_schedules.specs.moments.RowReplies.{row_reply}

-- The info word that directs a get at the row that it entered there: the one that it read after
-- that entry. The root is entered first, and no info of it is read: there it is the word of a root.
abbrev pub GoesBy : Plan → Call → List ℕ → ℕ → ℕ → ℕ → Type 0
GoesBy plan call attempt entry base info =
    ((base ≡ root_base plan.shape) × (info ≡ 3) × ((i other : ℕ) (kind : Kind) → Enters plan call attempt i other kind → entry ≤ i))
    ⊎ ((i : ℕ) × (entry ≤ i) × Reads plan call attempt i (info_at base) × (slice_index attempt i ≡ info))

-- these words have what was read of the row after that entry
abbrev pub HasRead : Plan → Call → List ℕ → ℕ → ℕ → Kind → List ℕ → Type 0
HasRead plan call attempt entry base kind words =
    (i word : ℕ) → Reads plan call attempt i word → entry ≤ i → base < word → word < base + row_words kind
    → slice_index words word ≡ slice_index attempt i

-- The attempt that answers: after it had entered its last row, it checked that row, found the
-- version with which it had entered, and read nothing more. Its reply is that of any words which
-- have what it read of the row.
pub record IsCheckedGet (plan : Plan) (key : ℕ) (got : List ℕ) (reply : Reply) : Type 0 where
  pub earlier : List ℕ
  pub attempt : List ℕ
  pub all : got ≡ earlier ++ attempt
  pub begins : BeginsAttempt plan (Get key) earlier
  pub base : ℕ
  pub kind : Kind
  pub entry : ℕ
  pub enters : Enters plan (Get key) attempt entry base kind
  pub last : (i other : ℕ) (its_kind : Kind) → Enters plan (Get key) attempt i other its_kind → i ≤ entry
  pub check : ℕ
  pub checks : Checks plan (Get key) attempt check base
  pub behind : entry < check
  pub same : slice_index attempt check ≡ slice_index attempt entry
  pub final : (i word : ℕ) → Reads plan (Get key) attempt i word → i ≤ check
  pub info : ℕ
  pub goes_by : GoesBy plan (Get key) attempt entry base info
  pub replies : (words : List ℕ) → HasRead plan (Get key) attempt entry base kind words
      → row_reply plan.shape words base kind info key ≡ Some reply
