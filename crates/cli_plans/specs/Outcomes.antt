-- How a run comes out that draws a plan, or that reads a plan or a replay.
use Rattle.std.specs.Prelude.{◌≡◌, ⊤, ℕ, ◌≤◌, List, length, string_bytes}
use Rattle.events.specs.declared.event.Call.{Call}
use Rattle.events.specs.declared.event.Reply.{Reply}
use Rattle.events.specs.HistoryView.{HistoryView}
use Rattle.history_text.specs.Limits.{text_limit}
use Rattle.history_text.specs.Texts.{history_data, Spells}
use Rattle.serde_json.specs.Written.{compact_text}
use Rattle.art_rows.specs.declared.table.Shape.{Shape}
use Rattle.art_rows.specs.declared.variant.Variant.{Variant}
use Rattle.workload.specs.declared.mix.Mix.{Mix}
use Rattle.cli_outcome.specs.declared.outcome.CommandOutcome.{CommandOutcome}
use Rattle.cli_outcome.specs.declared.outcome.CommandOutcome.TheVariants.{Answered, Refused, Memory}
use Rattle.cli_outcome.specs.declared.outcome.Answer.TheVariants.{Yes}
use Rattle.cli_outcome.specs.Ends.{Change}
use Rattle.cli_outcome.specs.Lines.{line}
use Rattle.cli_outcome.specs.Outcomes.{IsReadOutcome}
use Rattle.cli_plans.specs.Answers.{IsGenerateAnswer, IsGenerateRefusal, IsReplayAnswer, IsReplayRefusal}
use Rattle.cli_plans.specs.Schedules.{IsScheduleAnswer, IsScheduleRefusal}
use Rattle.plan_text.specs.Replays.{ReplayView}
use Rattle.plan_text.specs.ReplayTexts.{SpellsReplay}
use Rattle.plan_text.specs.WrittenReplays.{written_data}
use Rattle.cli_plans.specs.Drives.{IsDriveAnswer, IsTreeDriveAnswer, IsDriveRefusal}

-- the outcome of `generate` from this seed, mix and numbers of processes and calls
abbrev pub IsGenerateOutcome : ℕ → Mix → ℕ → ℕ → CommandOutcome → Type 0
IsGenerateOutcome seed mix processes calls (Answered answer bytes) = IsGenerateAnswer seed mix processes calls answer (string_bytes bytes)
IsGenerateOutcome seed mix processes calls (Refused bytes hint) =
    IsGenerateRefusal mix processes calls (string_bytes bytes) (string_bytes hint)
IsGenerateOutcome seed mix processes calls Memory = ⊤
IsGenerateOutcome seed mix processes calls outcome = ⊥

-- the outcome of `replay`
abbrev pub IsReplayOutcome : Change → CommandOutcome → Type 0
IsReplayOutcome source outcome = IsReadOutcome IsReplayAnswer IsReplayRefusal source outcome

-- the outcome of `drive`, at a subject that may answer so
abbrev pub IsDriveOutcome : (Call → Reply → Type 0) → Change → CommandOutcome → Type 0
IsDriveOutcome may_answer source outcome = IsReadOutcome (IsDriveAnswer may_answer) IsDriveRefusal source outcome

-- the outcome of `drive` on a tree
abbrev pub IsTreeDriveOutcome : Shape → Variant → ℕ → Change → CommandOutcome → Type 0
IsTreeDriveOutcome shape variant limit source outcome = IsReadOutcome (IsTreeDriveAnswer shape variant limit) IsDriveRefusal source outcome

-- how it comes out where a text spells no plan that can be driven
abbrev pub IsUndrivenOutcome : List ℕ → CommandOutcome → Type 0
IsUndrivenOutcome text (Refused bytes hint) = IsDriveRefusal text (string_bytes bytes) (string_bytes hint)
IsUndrivenOutcome text Memory = ⊤
IsUndrivenOutcome text outcome = ⊥

-- how it comes out where there is a history
abbrev pub IsHistoryOutcome : HistoryView → CommandOutcome → Type 0
IsHistoryOutcome history (Answered answer bytes) = (answer ≡ Yes) × (string_bytes bytes ≡ line (compact_text (history_data history)))
    × (length (string_bytes bytes) ≤ text_limit → Spells (string_bytes bytes) history)
IsHistoryOutcome history Memory = ⊤
IsHistoryOutcome history outcome = ⊥

-- the outcome of `schedule` for a tree of this shape and variant, with at most this many turns
abbrev pub IsScheduleOutcome : Shape → Variant → ℕ → Change → CommandOutcome → Type 0
IsScheduleOutcome shape variant limit source outcome =
    IsReadOutcome (IsScheduleAnswer shape variant limit) (IsScheduleRefusal shape variant limit) source outcome

-- the outcome of a drawn replay: its text, or out of memory
abbrev pub IsReplayLineOutcome : ReplayView → CommandOutcome → Type 0
IsReplayLineOutcome replay (Answered answer bytes) = (answer ≡ Yes) × (string_bytes bytes ≡ line (compact_text (written_data replay)))
    × SpellsReplay (string_bytes bytes) replay
IsReplayLineOutcome replay Memory = ⊤
IsReplayLineOutcome replay outcome = ⊥
