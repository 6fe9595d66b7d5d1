-- What the program answers to what a plan is drawn from, and to the text of a replay.
use Rattle.std.specs.Prelude.{◌≡◌, ◌≢◌, ℕ, ◌≤◌, List, length}
use Rattle.events.specs.HistoryView.{HistoryView}
use Rattle.history_text.specs.Limits.{text_limit}
use Rattle.history_text.specs.Texts.{history_data, Spells}
use Rattle.serde_json.specs.Written.{compact_text}
use Rattle.plans.specs.declared.fault.PlanFault.{PlanFault}
use Rattle.plans.specs.declared.fault.PlanFault.TheVariants as plans
use Rattle.plan_text.specs.PlanTexts.{written_data}
use Rattle.workload.specs.declared.mix.Mix.{Mix}
use Rattle.workload.specs.Mixes.{IsWholeMix, HasKeys, AreWithin}
use Rattle.workload.specs.Workloads.{scripts_of, IsDrawFault}
use Rattle.replays.specs.declared.fault.ReplayFault.{ReplayFault}
use Rattle.replays.specs.declared.fault.ReplayFault.TheVariants as replays
use Rattle.replays.specs.Played.{IsPlayed, IsUnplayed}
use Rattle.cli_outcome.specs.declared.outcome.Answer.{Answer}
use Rattle.cli_outcome.specs.declared.outcome.Answer.TheVariants.{Yes}
use Rattle.cli_outcome.specs.Lines.{line}
use Rattle.cli_outcome.specs.Wanted.{expected_hint}
use Rattle.cli_plans.specs.Faults.{plan_fault_line, replay_fault_line}
use Rattle.cli_plans.specs.Wanted.{plan_expected, replay_expected}

-- `generate` answers so: yes, with the compact text of the plan that is drawn
pub record IsGenerateAnswer (seed : ℕ) (mix : Mix) (processes calls : ℕ) (answer : Answer) (bytes : List ℕ) : Type 0 where
  pub whole : IsWholeMix mix
  pub keys : HasKeys mix
  pub within : AreWithin processes calls
  pub answer_is : answer ≡ Yes
  pub bytes_are : bytes ≡ line (compact_text (written_data (scripts_of seed mix processes calls)))

-- what no plan is drawn from is refused with this line and this hint, those of its first fault
pub record IsGenerateRefusal (mix : Mix) (processes calls : ℕ) (bytes hint : List ℕ) : Type 0 where
  pub fault : PlanFault
  pub refused : IsDrawFault mix processes calls fault
  pub not_memory : fault ≢ plans.Memory
  pub bytes_are : bytes ≡ plan_fault_line fault
  pub hint_is : hint ≡ expected_hint (plan_expected fault)

-- `replay` answers the text so: yes, with the text of the history that its run records. With the
-- line feed after it the text spells this history, if it is no longer than a text may be.
pub record IsReplayAnswer (text : List ℕ) (answer : Answer) (bytes : List ℕ) : Type 0 where
  pub history : HistoryView
  pub played : IsPlayed text history
  pub answer_is : answer ≡ Yes
  pub bytes_are : bytes ≡ line (compact_text (history_data history))
  pub spelled : length bytes ≤ text_limit → Spells bytes history

-- a text that gives no history of a replay is refused with this line and this hint
pub record IsReplayRefusal (text bytes hint : List ℕ) : Type 0 where
  pub fault : ReplayFault
  pub refused : IsUnplayed text fault
  pub not_memory : fault ≢ replays.Memory
  pub bytes_are : bytes ≡ replay_fault_line fault
  pub hint_is : hint ≡ expected_hint (replay_expected fault)
