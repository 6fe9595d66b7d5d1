-- The names that most proofs of this crate cite, passed on from one place. Declares nothing.
pub use Rattle.std.proofs.Common.{Bool, IsTrue, List, Some, [], ap, append-nil, arith, drop, false, inl, inr, length, length-append, length-take}
pub use Rattle.std.proofs.Common.{refl, rules, string_bytes, subst, sym, take, true, ℕ, ⊎_elim, ◌++◌, ◌+◌, ◌<◌, ◌↔◌, ◌∙◌, ◌∷◌, ◌≡◌, ◌≢◌, ◌≤◌}
pub use Rattle.art_rows.specs.declared.table.Shape.{Shape}
pub use Rattle.art_rows.specs.declared.variant.Variant.{Variant}
pub use Rattle.running.specs.Drives.{IsDrivable, IsDriveOf}
pub use Rattle.events.specs.HistoryView.{HistoryView}
pub use Rattle.events.specs.Operations.{operations}
pub use Rattle.events.specs.declared.event.Call.{Call}
pub use Rattle.history_text.specs.Limits.{text_limit}
pub use Rattle.history_text.specs.Texts.{Spells}
pub use Rattle.history_text.specs.WhiteSpaceLaws.{SpellsBetweenWhiteSpace, WhiteSpaceTellsNothing}
pub use Rattle.judge.specs.Shown.{IsShown}
pub use Rattle.judge.specs.declared.verdict.Verdict.{Verdict}
pub use Rattle.judge.specs.declared.verdict.Verdict.TheVariants.{No, Undecided, Yes}
pub use Rattle.orders.specs.Orders.{IsLinearizable, IsLinearizableHistory}
pub use Rattle.cli_outcome.proofs.ReadText.{IsRun-read}
pub use Rattle.cli_outcome.proofs.WholeText.{same_text}
pub use Rattle.cli_outcome.specs.Lines.{line}
pub use Rattle.cli_outcome.specs.declared.outcome.Answer.{Answer}
pub use Rattle.cli_outcome.specs.declared.outcome.CommandOutcome.{CommandOutcome}
pub use Rattle.cli_outcome.specs.declared.outcome.CommandOutcome.TheVariants.{Answered, Failed, Memory, Noted, Refused, Words}
pub use Rattle.plan_text.specs.PlanTexts.{SpellsPlan}
pub use Rattle.plan_text.specs.ReplayTexts.{SpellsReplay}
pub use Rattle.plan_text.specs.Replays.{ReplayView}
pub use Rattle.plans.specs.declared.fault.PlanFault.{PlanFault}
pub use Rattle.cli_plans.specs.Answers.{IsReplayAnswer, IsReplayRefusal}
pub use Rattle.cli_plans.specs.Drives.{IsDriveAnswer, IsDriveRefusal, IsDriven, IsDrivenAnswer, IsTreeDriveAnswer, IsUndriven, SpellsDrivable}
pub use Rattle.cli_plans.specs.Drives.{WasPassedForPlan}
pub use Rattle.cli_plans.specs.Schedules.{IsNoPlan, IsOverlong, IsScheduleAnswer, IsScheduleRefusal, SpellsScriptsOf}
pub use Rattle.cli_plans.specs.VerdictLaws.{IsNoRefutation, LinearizableTextsAreNeverRefuted}
pub use Rattle.cli_plans.specs.Writes.{AreNeverRefuted, AreRefutedByNoRun, IsFull, SpellsFullReplay, WasWritten, output_of}
