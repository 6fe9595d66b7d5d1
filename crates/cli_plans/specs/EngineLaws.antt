-- The answers of `judge` to what `replay` and `drive` write of the full trees, from bytes to bytes.
use Rattle.std.specs.Prelude.{◌≡◌, ℕ, List, Some}
use Rattle.art_rows.specs.declared.table.Shape.{Shape}
use Rattle.art_rows.specs.declared.variant.Variant.{Variant}
use Rattle.cli_outcome.specs.declared.outcome.CommandOutcome.{CommandOutcome}
use Rattle.cli_outcome.specs.Ends.{Change, IsSound}
use Rattle.cli_outcome.specs.Outcomes.{IsTextOutcome}
use Rattle.cli_outcome.specs.Runs.{IsRun}
use Rattle.cli_plans.specs.Answers.{IsReplayAnswer, IsReplayRefusal}
use Rattle.cli_plans.specs.Drives.{IsTreeDriveAnswer, IsDriveRefusal}
use Rattle.cli_plans.specs.Outcomes.{IsReplayOutcome, IsTreeDriveOutcome}
use Rattle.cli_plans.specs.Writes.{IsFull, SpellsFullReplay, output_of, AreNeverRefuted, AreRefutedByNoRun, WasWritten}

-- What `replay_outcome` writes to the output is never refuted, if the text spells a replay of a
-- full tree. If the schedule stops, the text is refused, or memory runs out, nothing is written;
-- that is not a history.
abbrev pub ReplaysAreNeverRefuted : Type 0
ReplaysAreNeverRefuted =
    (text : List ℕ) (recorded : CommandOutcome) → SpellsFullReplay text → IsTextOutcome IsReplayAnswer IsReplayRefusal (Some text) recorded
    → AreNeverRefuted (output_of recorded)

-- What `run_replay` writes of such a text is never refuted, unless its output fails.
abbrev pub ReplayRunsAreNeverRefuted : Type 0
ReplayRunsAreNeverRefuted =
    (text bytes : List ℕ) (source output faults hints : Change) (status : ℕ) → SpellsFullReplay text → source.old.bytes ≡ Some text
    → WasWritten output bytes → IsSound output → IsRun (IsReplayOutcome source) output faults hints status → AreRefutedByNoRun bytes

-- What `tree_drive_outcome` writes to the output of a full tree is never refuted, whatever the
-- text.
abbrev pub DrivesAreNeverRefuted : Type 0
DrivesAreNeverRefuted =
    (shape : Shape) (variant : Variant) (limit : ℕ) (text : List ℕ) (recorded : CommandOutcome) → IsFull variant
    → IsTextOutcome (IsTreeDriveAnswer shape variant limit) IsDriveRefusal (Some text) recorded → AreNeverRefuted (output_of recorded)

-- What `run_tree_drive` writes is never refuted, unless its output fails.
abbrev pub DriveRunsAreNeverRefuted : Type 0
DriveRunsAreNeverRefuted =
    (shape : Shape) (variant : Variant) (limit : ℕ) (text bytes : List ℕ) (source output faults hints : Change) (status : ℕ) → IsFull variant
    → source.old.bytes ≡ Some text → WasWritten output bytes → IsSound output
    → IsRun (IsTreeDriveOutcome shape variant limit source) output faults hints status → AreRefutedByNoRun bytes
