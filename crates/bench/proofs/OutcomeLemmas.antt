-- The outcome of a line that reads nothing is an outcome of the words that ask for it. The outcome
-- of a line that asks for neither a plan nor a tree is the judge's.
use Rattle.std.proofs.Common.{◌≡◌, ◌<◌, ℕ, List, Option, Some, None, refl, arith}
use Rattle.clap.specs.Words.{Text}
use Rattle.command_line.specs.declared.line.Line.{Line}
use Rattle.command_line.specs.declared.line.Line.TheVariants.{Check, Judge, Locate, Explain, Draw, Page, Follow, Generate, Schedule, Replay, Drive}
use Rattle.command_line.specs.Trees.{scheduled_place_of}
use Rattle.command_line.specs.declared.line.DriveLine.{DriveLine}
use Rattle.command_line.specs.declared.line.ScheduleLine.{ScheduleLine}
use Rattle.command_line.specs.declared.line.Tree.{Tree}
use Rattle.command_line.specs.declared.line.Tree.TheVariants as trees
use Rattle.workload.specs.declared.mix.Mix.{Mix}
use Rattle.cli_outcome.specs.declared.outcome.CommandOutcome.{CommandOutcome}
use Rattle.cli_outcome.specs.declared.outcome.CommandOutcome.TheVariants.{Answered, Noted, Refused, Memory, Words, Failed}
use Rattle.cli_outcome.specs.Ends.{Change, IsSound}
use Rattle.art_rows.specs.declared.table.Shape.{Shape}
use Rattle.art_rows.specs.declared.variant.Variant.{Variant}
use Rattle.recorder.specs.Answers.{IsAnswerOf}
use Rattle.cli_plans.specs.Drives.{IsDriveAnswer, IsDriveRefusal, IsTreeDriveAnswer}
use Rattle.cli_plans.specs.Outcomes.{IsGenerateOutcome}
use Rattle.cli_plans.specs.Schedules.{IsScheduleAnswer, IsScheduleRefusal}
use Rattle.cli_words.specs.Outcomes.{IsAskedOutcome, IsWordsOutcome}
use Rattle.cli_words.proofs.OutcomeLemmas.{read-words}
use Rattle.cli_dispatch.specs.Outcomes.{AsksForTrees, IsJudgeLineOutcome}
use Rattle.bench.specs.Outcomes.{IsDrivenOutcome, IsLineOutcome, IsScheduledOutcome, variant_of}

pub drawn-words : (seed : ℕ) (mix : Mix) (processes calls : ℕ) (words : List Text) (source : Change) (outcome : CommandOutcome)
    → (IsGenerateOutcome seed mix processes calls outcome → IsAskedOutcome IsLineOutcome words source outcome) → IsSound source
    → IsGenerateOutcome seed mix processes calls outcome → IsWordsOutcome IsLineOutcome words source outcome
drawn-words seed mix processes calls words source (Answered answer bytes) ask sound comes = ask comes
drawn-words seed mix processes calls words source (Noted answer bytes note) ask sound comes = ask comes
drawn-words seed mix processes calls words source (Refused bytes hint) ask sound comes = ask comes
drawn-words seed mix processes calls words source Memory ask sound comes = sound
drawn-words seed mix processes calls words source (Words text) ask sound comes = absurd comes
drawn-words seed mix processes calls words source Failed ask sound comes = absurd comes

-- the outcome of a schedule, and of a drive, is one of the words too
pub scheduled-words : (variant : Option Variant) (shape : Shape) (limit : ℕ) (words : List Text) (source : Change) (outcome : CommandOutcome)
    → (IsScheduledOutcome variant shape limit source outcome → IsAskedOutcome IsLineOutcome words source outcome)
    → IsScheduledOutcome variant shape limit source outcome → IsWordsOutcome IsLineOutcome words source outcome
scheduled-words (Some variant) shape limit words source outcome ask comes =
    read-words IsLineOutcome (IsScheduleAnswer shape variant limit) (IsScheduleRefusal shape variant limit) words source outcome ask comes
scheduled-words None shape limit words source outcome ask comes = absurd comes

pub driven-words : (variant : Option Variant) (shape : Shape) (limit : ℕ) (words : List Text) (source : Change) (outcome : CommandOutcome)
    → (IsDrivenOutcome variant shape limit source outcome → IsAskedOutcome IsLineOutcome words source outcome)
    → IsDrivenOutcome variant shape limit source outcome → IsWordsOutcome IsLineOutcome words source outcome
driven-words (Some variant) shape limit words source outcome ask comes =
    read-words IsLineOutcome (IsTreeDriveAnswer shape variant limit) IsDriveRefusal words source outcome ask comes
driven-words None shape limit words source outcome ask comes =
    read-words IsLineOutcome (IsDriveAnswer IsAnswerOf) IsDriveRefusal words source outcome ask comes

-- a line that is none of four asks for neither a plan nor a tree
pub not-trees : (line : Line)
    → ((seed processes calls get insert remove scan lo hi : ℕ) → line ≡ Generate seed processes calls get insert remove scan lo hi → ⊥)
    → ((asked : ScheduleLine) → line ≡ Schedule asked → ⊥) → (line ≡ Replay → ⊥) → ((asked : DriveLine) → line ≡ Drive asked → ⊥)
    → ¬ (AsksForTrees line)
not-trees (Check order) draws schedules replays drives asks = asks
not-trees (Judge budget workers) draws schedules replays drives asks = asks
not-trees (Locate budget order) draws schedules replays drives asks = asks
not-trees (Explain budget) draws schedules replays drives asks = asks
not-trees (Draw budget workers around calls) draws schedules replays drives asks = asks
not-trees (Page budget workers) draws schedules replays drives asks = asks
not-trees (Follow budget) draws schedules replays drives asks = asks
not-trees (Generate seed processes calls get insert remove scan lo hi) draws schedules replays drives asks =
    draws seed processes calls get insert remove scan lo hi refl
not-trees (Schedule asked) draws schedules replays drives asks = schedules asked refl
not-trees Replay draws schedules replays drives asks = replays refl
not-trees (Drive asked) draws schedules replays drives asks = drives asked refl

-- the outcome of a line of the judge is the judge's
pub judged-line : (line : Line) (source : Change) (outcome : CommandOutcome) → ¬ (AsksForTrees line) → IsJudgeLineOutcome line source outcome
    → IsLineOutcome line source outcome
judged-line (Check order) source outcome here comes = comes
judged-line (Judge budget workers) source outcome here comes = comes
judged-line (Locate budget order) source outcome here comes = comes
judged-line (Explain budget) source outcome here comes = comes
judged-line (Draw budget workers around calls) source outcome here comes = comes
judged-line (Page budget workers) source outcome here comes = comes
judged-line (Follow budget) source outcome here comes = comes
judged-line (Generate seed processes calls get insert remove scan lo hi) source outcome here comes = absurd (here tt)
judged-line (Schedule asked) source outcome here comes = absurd (here tt)
judged-line Replay source outcome here comes = absurd (here tt)
judged-line (Drive asked) source outcome here comes = absurd (here tt)

-- a tree that schedules run has a variant
pub has-variant : (tree : Tree) → scheduled_place_of tree < 6 → variant_of tree ≡ None → ⊥
has-variant trees.Locked few none = omega (arith, few)
has-variant trees.Coupled few none = cc
has-variant trees.Optimistic few none = cc
has-variant trees.ReadUnchecked few none = cc
has-variant trees.ScanUnvalidated few none = cc
has-variant trees.LockUnchecked few none = cc
has-variant trees.EarlyRelease few none = cc
