-- The outcome of a run, by the command line and the text on the source.
use Rattle.std.specs.Prelude.{ℕ, Option, Some, None}
use Rattle.art_rows.specs.declared.table.Shape.{Shape}
use Rattle.art_rows.specs.declared.variant.Variant.{Variant}
use Rattle.art_rows.specs.declared.variant.Variant.TheVariants as variants
use Rattle.command_line.specs.declared.line.Tree.{Tree}
use Rattle.command_line.specs.declared.line.Tree.TheVariants as trees
use Rattle.command_line.specs.declared.line.Line.{Line}
use Rattle.command_line.specs.declared.line.Rows.{Rows}
use Rattle.command_line.specs.declared.line.Line.TheVariants.{Generate, Schedule, Replay, Drive}
use Rattle.recorder.specs.Answers.{IsAnswerOf}
use Rattle.cli_outcome.specs.declared.outcome.CommandOutcome.{CommandOutcome}
use Rattle.cli_outcome.specs.Ends.{Change, IsUnused}
use Rattle.cli_dispatch.specs.Outcomes.{IsJudgeLineOutcome}
use Rattle.cli_plans.specs.Outcomes.{IsDriveOutcome, IsGenerateOutcome, IsReplayOutcome, IsScheduleOutcome, IsTreeDriveOutcome}

-- the variant of a tree on shared words; the map under a lock has none
abbrev pub variant_of : Tree → Option Variant
variant_of trees.Locked = None
variant_of trees.Coupled = Some variants.Coupled
variant_of trees.Optimistic = Some variants.Optimistic
variant_of trees.ReadUnchecked = Some variants.ReadUnchecked
variant_of trees.ScanUnvalidated = Some variants.ScanUnvalidated
variant_of trees.LockUnchecked = Some variants.LockUnchecked
variant_of trees.EarlyRelease = Some variants.EarlyRelease

-- the shape of a table with these rows
abbrev pub shape_of : Rows → Shape
shape_of rows = record { rows4 = rows.rows4; rows16 = rows.rows16; rows48 = rows.rows48; rows256 = rows.rows256 }

-- the outcome of a drive: on a tree of this shape, with at most this many steps of each call after
-- its invocation; or at a subject that may answer as the map under a lock
abbrev pub IsDrivenOutcome : Option Variant → Shape → ℕ → Change → CommandOutcome → Type 0
IsDrivenOutcome (Some variant) shape limit source outcome = IsTreeDriveOutcome shape variant limit source outcome
IsDrivenOutcome None shape limit source outcome = IsDriveOutcome IsAnswerOf source outcome

-- the outcome of a schedule of at most this many turns, on a tree of this shape; the map under a
-- lock has none
abbrev pub IsScheduledOutcome : Option Variant → Shape → ℕ → Change → CommandOutcome → Type 0
IsScheduledOutcome (Some variant) shape limit source outcome = IsScheduleOutcome shape variant limit source outcome
IsScheduledOutcome None shape limit source outcome = ⊥

-- the outcome of what a line asks for, whatever the number of workers
abbrev pub IsLineOutcome : Line → Change → CommandOutcome → Type 0
IsLineOutcome (Generate seed processes calls get insert remove scan lo hi) source outcome = IsUnused source
    × IsGenerateOutcome seed (record { get = get; insert = insert; remove = remove; scan = scan; lo = lo; hi = hi }) processes calls outcome
IsLineOutcome (Schedule asked) source outcome = IsScheduledOutcome (variant_of asked.tree) (shape_of asked.rows) asked.limit source outcome
IsLineOutcome Replay source outcome = IsReplayOutcome source outcome
IsLineOutcome (Drive asked) source outcome = IsDrivenOutcome (variant_of asked.tree) (shape_of asked.rows) asked.limit source outcome
IsLineOutcome line source outcome = IsJudgeLineOutcome line source outcome
