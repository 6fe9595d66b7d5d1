-- What an answered scan has read and checked: a law of the scan's steps alone, whatever words it got.
use Rattle.std.specs.Prelude.{◌≡◌, ◌≢◌, ◌⊎◌, ℕ, ◌+◌, ◌%◌, ◌<◌, ◌≤◌, List, ◌++◌, length, slice_index, Some}
use Rattle.events.specs.declared.event.Call.{Call}
use Rattle.art_rows.specs.declared.table.Kind.{Kind}
use Rattle.art_rows.specs.Table.{row_words}
use Rattle.art_rows.specs.declared.access.Point.TheVariants as point
use Rattle.art_core.specs.Core.{Plan}
use Rattle.art_core.specs.Moments.{BeginsAttempt, Reads, Enters, Checks}

-- The word that the i-th access read is of a row that the attempt had entered by then, with a
-- version that was neither locked nor obsolete. It entered the row before its m-th word. It checked
-- the row after that, and not before this read, and the version was the one with which it had
-- entered.
pub record IsOfCheckedRow (plan : Plan) (call : Call) (attempt : List ℕ) (m i word : ℕ) : Type 0 where
  pub base : ℕ
  pub kind : Kind
  pub entry : ℕ
  pub enters : Enters plan call attempt entry base kind
  pub by_then : entry ≤ i
  pub before : entry < m
  pub free : slice_index attempt entry % 4 ≡ 0
  pub from : base ≤ word
  pub below : word < base + row_words kind
  pub check : ℕ
  pub checks : Checks plan call attempt check base
  pub behind : m ≤ check
  pub no_sooner : i ≤ check
  pub same : slice_index attempt check ≡ slice_index attempt entry

-- The attempt that answers: its first m words are those of the walk, and the others those of its checks.
pub record IsValidated (plan : Plan) (call : Call) (got : List ℕ) : Type 0 where
  pub earlier : List ℕ
  pub attempt : List ℕ
  pub all : got ≡ earlier ++ attempt
  pub begins : BeginsAttempt plan call earlier
  pub m : ℕ
  pub most : m ≤ length attempt
  pub reads : (i word : ℕ) → Reads plan call attempt i word → IsOfCheckedRow plan call attempt m i word
  pub parts : (i word : ℕ) (r : Reads plan call attempt i word) → ((i < m) × (r.mark ≢ Some point.Check))
      ⊎ ((m ≤ i) × (r.mark ≡ Some point.Check))
