-- The first fault of a text that spells no plan.
use Rattle.plans.specs.declared.fault.PlanFault.TheVariants as faults
use Rattle.std.specs.Prelude.{ℕ, List, ⊤}
use Rattle.serde_json.specs.Data.{Data}
use Rattle.events.specs.declared.event.Call.{Call}
use Rattle.history_text.specs.Texts.{IsJson}
use Rattle.history_text.specs.JsonFaults.{IsTooLong, IsNoJson}
use Rattle.plans.specs.declared.fault.PlanFault.{PlanFault}
use Rattle.plans.specs.Plans.{AreFew}
use Rattle.plan_text.specs.PlanTexts.{SpellsPlanAs, SpellsPlan}

-- the value spells no scripts, of any number
abbrev pub SpellsNoPlan : Data → Type 0
SpellsNoPlan d = (scripts : List (List Call)) → SpellsPlanAs d scripts → ⊥

-- why a value was refused as that of a plan's text: its form, unless memory ran out
abbrev pub IsPlanFormFault : Data → PlanFault → Type 0
IsPlanFormFault d faults.Shape = SpellsNoPlan d
IsPlanFormFault d faults.Memory = ⊤
IsPlanFormFault d fault = ⊥

-- the text spells no script at all, or more scripts than a plan has, or scripts with more calls
abbrev pub SpellsTooMany : List ℕ → Type 0
SpellsTooMany text = (scripts : List (List Call)) × SpellsPlan text scripts × (AreFew scripts → ⊥)

-- why a text was refused: its length, then that it is no JSON, then its form, then how many its scripts and calls are; or memory ran out
abbrev pub IsPlanTextFault : List ℕ → PlanFault → Type 0
IsPlanTextFault text faults.TooLong = IsTooLong text
IsPlanTextFault text faults.NotJson = IsNoJson text
IsPlanTextFault text faults.Shape = (d : Data) × IsJson text d × SpellsNoPlan d
IsPlanTextFault text faults.TooMany = SpellsTooMany text
IsPlanTextFault text faults.Memory = ⊤
IsPlanTextFault text fault = ⊥
