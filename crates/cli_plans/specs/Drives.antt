-- What the program answers to the text of a plan that is to be done.
use Rattle.std.specs.Prelude.{◌≡◌, ◌≢◌, ◌⊎◌, ℕ, ◌≤◌, List, length, EachIndex}
use Rattle.serde_json.specs.Written.{compact_text}
use Rattle.events.specs.declared.event.Call.{Call}
use Rattle.events.specs.declared.event.Reply.{Reply}
use Rattle.events.specs.HistoryView.{HistoryView}
use Rattle.history_text.specs.Limits.{text_limit}
use Rattle.history_text.specs.Texts.{history_data, Spells}
use Rattle.plans.specs.declared.fault.PlanFault.{PlanFault}
use Rattle.plans.specs.declared.fault.PlanFault.TheVariants as plans
use Rattle.plans.specs.Plans.{AreScripts}
use Rattle.plan_text.specs.PlanTexts.{SpellsPlan}
use Rattle.plan_text.specs.PlanTextFaults.{IsPlanTextFault}
use Rattle.running.specs.Drives.{IsDrivable, IsDriveOf}
use Rattle.art_rows.specs.declared.table.Shape.{Shape}
use Rattle.art_rows.specs.declared.variant.Variant.{Variant}
use Rattle.running.specs.ArenaDrives.{IsArenaDriveOf}
use Rattle.cli_outcome.specs.declared.outcome.Answer.{Answer}
use Rattle.cli_outcome.specs.declared.outcome.Answer.TheVariants.{Yes}
use Rattle.cli_outcome.specs.Lines.{line}
use Rattle.cli_outcome.specs.Wanted.{expected_hint}
use Rattle.cli_plans.specs.Faults.{plan_fault_line}
use Rattle.cli_plans.specs.Wanted.{plan_expected}

-- the text spells a plan for which there is room
pub record SpellsDrivable (text : List ℕ) (scripts : List (List Call)) : Type 0 where
  pub spelled : SpellsPlan text scripts
  pub are_scripts : AreScripts scripts
  pub drivable : IsDrivable scripts

-- it spells such a plan, and the gate was passed on the way to the script of each of its processes
pub record WasPassedForPlan (WasPassed : ℕ → Type 0) (text : List ℕ) : Type 0 where
  pub scripts : List (List Call)
  pub plan : SpellsDrivable text scripts
  pub each : EachIndex scripts WasPassed

-- it spells such a plan, and the history is one of its scripts, by what they are done on
pub record IsDriven (IsHistoryOf : List (List Call) → HistoryView → Type 0) (text : List ℕ) (history : HistoryView) : Type 0 where
  pub scripts : List (List Call)
  pub plan : SpellsDrivable text scripts
  pub driven : IsHistoryOf scripts history

-- the text spells a plan for which there is no room: its number of scripts times the length of the longest one is too great
abbrev pub SpellsUndrivable : List ℕ → Type 0
SpellsUndrivable text = (scripts : List (List Call)) × SpellsPlan text scripts × AreScripts scripts × (IsDrivable scripts → ⊥)

-- why a text gives no history: the text's own first fault, or that its scripts are too many to be done
abbrev pub IsUndriven : List ℕ → PlanFault → Type 0
IsUndriven text fault = IsPlanTextFault text fault ⊎ ((fault ≡ plans.TooMany) × SpellsUndrivable text)

-- `drive` answers the text so: yes, with the text of a history of the plan. With the line feed
-- after it the text spells this history, if it is no longer than a text may be.
pub record IsDrivenAnswer (IsHistoryOf : List (List Call) → HistoryView → Type 0) (text : List ℕ) (answer : Answer)
    (bytes : List ℕ) : Type 0 where
  pub history : HistoryView
  pub driven : IsDriven IsHistoryOf text history
  pub answer_is : answer ≡ Yes
  pub bytes_are : bytes ≡ line (compact_text (history_data history))
  pub spelled : length bytes ≤ text_limit → Spells bytes history

-- that history is one at a subject that may answer so, each process with its whole script,
abbrev pub IsDriveAnswer : (Call → Reply → Type 0) → List ℕ → Answer → List ℕ → Type 0
IsDriveAnswer may_answer = IsDrivenAnswer (IsDriveOf may_answer)

-- or one on a tree of this shape and variant, with at most this many steps of each call in addition
-- to that of its invocation
abbrev pub IsTreeDriveAnswer : Shape → Variant → ℕ → List ℕ → Answer → List ℕ → Type 0
IsTreeDriveAnswer shape variant limit = IsDrivenAnswer (IsArenaDriveOf shape variant limit)

-- a text that gives no history of a plan is refused with this line and this hint
pub record IsDriveRefusal (text bytes hint : List ℕ) : Type 0 where
  pub fault : PlanFault
  pub refused : IsUndriven text fault
  pub not_memory : fault ≢ plans.Memory
  pub bytes_are : bytes ≡ plan_fault_line fault
  pub hint_is : hint ≡ expected_hint (plan_expected fault)
