-- What the program answers to the text of a plan for which a schedule is to be drawn.
use Rattle.std.specs.Prelude.{◌≡◌, ◌≢◌, ◌⊎◌, ℕ, List}
use Rattle.serde_json.specs.Written.{compact_text}
use Rattle.events.specs.declared.event.Call.{Call}
use Rattle.art_rows.specs.declared.table.Shape.{Shape}
use Rattle.art_rows.specs.declared.variant.Variant.{Variant}
use Rattle.plans.specs.declared.fault.PlanFault.{PlanFault}
use Rattle.plans.specs.declared.fault.PlanFault.TheVariants as plans
use Rattle.plans.specs.Plans.{AreScripts}
use Rattle.plan_text.specs.PlanTexts.{SpellsPlan}
use Rattle.plan_text.specs.PlanTextFaults.{IsPlanTextFault}
use Rattle.plan_text.specs.Replays.{ReplayView}
use Rattle.plan_text.specs.ReplayTexts.{SpellsReplay}
use Rattle.plan_text.specs.WrittenReplays.{written_data}
use Rattle.replays.specs.Drawn.{IsDrawnReplay, IsTooLong}
use Rattle.cli_outcome.specs.declared.outcome.Answer.{Answer}
use Rattle.cli_outcome.specs.declared.outcome.Answer.TheVariants.{Yes}
use Rattle.cli_outcome.specs.Lines.{line}
use Rattle.cli_outcome.specs.Wanted.{expected_hint}
use Rattle.cli_plans.specs.Faults.{plan_fault_line, too_long_line}
use Rattle.cli_plans.specs.Wanted.{plan_expected, too_long_expected}

-- the text spells the scripts of a plan
pub record SpellsScriptsOf (text : List ℕ) (scripts : List (List Call)) : Type 0 where
  pub spelled : SpellsPlan text scripts
  pub are_scripts : AreScripts scripts

-- The answer of `schedule` to the text of a plan: the compact text of a drawn replay of the plan's scripts, and a line feed. These bytes spell the
-- replay.
pub record IsScheduleAnswer (shape : Shape) (variant : Variant) (limit : ℕ) (text : List ℕ) (answer : Answer)
    (bytes : List ℕ) : Type 0 where
  pub scripts : List (List Call)
  pub plan : SpellsScriptsOf text scripts
  pub replay : ReplayView
  pub drawn : IsDrawnReplay shape variant limit scripts replay
  pub answer_is : answer ≡ Yes
  pub bytes_are : bytes ≡ line (compact_text (written_data replay))
  pub spelled : SpellsReplay bytes replay

-- the text spells no plan: this line and this hint report its first fault
pub record IsNoPlan (text bytes hint : List ℕ) : Type 0 where
  pub fault : PlanFault
  pub refused : IsPlanTextFault text fault
  pub not_memory : fault ≢ plans.Memory
  pub bytes_are : bytes ≡ plan_fault_line fault
  pub hint_is : hint ≡ expected_hint (plan_expected fault)

-- the text spells a plan that has a schedule with more items than a replay may have: this line and this hint report that
pub record IsOverlong (shape : Shape) (variant : Variant) (limit : ℕ) (text bytes hint : List ℕ) : Type 0 where
  pub scripts : List (List Call)
  pub plan : SpellsScriptsOf text scripts
  pub long : IsTooLong shape variant limit scripts
  pub bytes_are : bytes ≡ too_long_line
  pub hint_is : hint ≡ expected_hint too_long_expected

-- the refusals of `schedule`
abbrev pub IsScheduleRefusal : Shape → Variant → ℕ → List ℕ → List ℕ → List ℕ → Type 0
IsScheduleRefusal shape variant limit text bytes hint = IsNoPlan text bytes hint ⊎ IsOverlong shape variant limit text bytes hint
