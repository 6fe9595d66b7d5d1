-- What an engine writes of the run of a full tree, and the answers that it never gets.
use Rattle.std.specs.Prelude.{◌≡◌, ◌≢◌, ◌⊎◌, ℕ, List, [], ◌++◌, Some, string_bytes}
use Rattle.art_rows.specs.declared.variant.Variant.{Variant}
use Rattle.art_rows.specs.declared.variant.Variant.TheVariants.{Coupled, Optimistic}
use Rattle.plan_text.specs.Replays.{ReplayView}
use Rattle.plan_text.specs.ReplayTexts.{SpellsReplay}
use Rattle.cli_outcome.specs.declared.outcome.Answer.{Answer}
use Rattle.cli_outcome.specs.declared.outcome.Answer.TheVariants.{No}
use Rattle.cli_outcome.specs.declared.outcome.CommandOutcome.{CommandOutcome}
use Rattle.cli_outcome.specs.declared.outcome.CommandOutcome.TheVariants.{Answered, Noted, Refused, Memory, Words, Failed}
use Rattle.cli_outcome.specs.Ends.{Change}
use Rattle.cli_outcome.specs.Runs.{IsRun}
use Rattle.cli_outcome.specs.Statuses.{answer_status}
use Rattle.cli_judge.specs.Answers.{IsJudgeAnswer}
use Rattle.cli_judge.specs.Outcomes.{IsJudgeOutcome}
use Rattle.history_text.specs.WhiteSpace.{AreWhiteSpace}

-- a variant is that of a full tree
abbrev pub IsFull : Variant → Type 0
IsFull variant = (variant ≡ Coupled) ⊎ (variant ≡ Optimistic)

-- the text spells a replay of a full tree
abbrev pub SpellsFullReplay : List ℕ → Type 0
SpellsFullReplay text = (r : ReplayView) × SpellsReplay text r × IsFull r.variant

-- what an outcome writes to the output: its answer, with the line feed at the end; nothing if it is
-- not an answer
abbrev pub output_of : CommandOutcome → List ℕ
output_of (Answered answer bytes) = string_bytes bytes
output_of (Noted answer bytes note) = string_bytes bytes
output_of (Refused bytes hint) = []
output_of Memory = []
output_of (Words bytes) = []
output_of Failed = []

-- No answer of `judge` to these bytes, with any white space around them, and at whatever budget, is
-- No.
abbrev pub AreNeverRefuted : List ℕ → Type 0
AreNeverRefuted bytes =
    (before behind : List ℕ) → AreWhiteSpace before → AreWhiteSpace behind → (budget : ℕ) (answer : Answer) (report : List ℕ)
    → IsJudgeAnswer budget (before ++ (bytes ++ behind)) answer report → answer ≢ No

-- No run of `judge` that reads them so ends with the status of No.
abbrev pub AreRefutedByNoRun : List ℕ → Type 0
AreRefutedByNoRun bytes =
    (before behind : List ℕ) → AreWhiteSpace before → AreWhiteSpace behind → (budget : ℕ) (source output faults hints : Change) (status : ℕ)
    → source.old.bytes ≡ Some (before ++ (bytes ++ behind)) → IsRun (IsJudgeOutcome budget source) output faults hints status
    → status ≢ answer_status No

-- these bytes were written to the output, after what was in it
pub record WasWritten (output : Change) (bytes : List ℕ) : Type 0 where
  pub first : List ℕ
  pub old : output.old.bytes ≡ Some first
  pub new : output.new.bytes ≡ Some (first ++ bytes)
