-- Laws of the texts of plans.
use Rattle.plans.specs.declared.fault.PlanFault.TheVariants as faults
use Rattle.std.specs.Prelude.{◌≡◌, ◌≢◌, ℕ, List}
use Rattle.events.specs.declared.event.Call.{Call}
use Rattle.plans.specs.declared.fault.PlanFault.{PlanFault}
use Rattle.plans.specs.Plans.{AreFew}
use Rattle.plan_text.specs.PlanTexts.{SpellsPlan}
use Rattle.plan_text.specs.PlanTextFaults.{IsPlanTextFault}

-- a text spells one plan only
abbrev pub SpellsOnePlan : Type 0
SpellsOnePlan = (text : List ℕ) (a b : List (List Call)) → SpellsPlan text a → SpellsPlan text b → a ≡ b

-- a text has only one fault, apart from `Memory`, which any text may have
abbrev pub HasOnePlanFault : Type 0
HasOnePlanFault =
    (text : List ℕ) (f g : PlanFault) → IsPlanTextFault text f → IsPlanTextFault text g → f ≢ faults.Memory → g ≢ faults.Memory → f ≡ g

-- a text with a fault spells no plan within the limits
abbrev pub FaultySpellsNoPlan : Type 0
FaultySpellsNoPlan =
    (text : List ℕ) (f : PlanFault) (scripts : List (List Call)) → IsPlanTextFault text f → f ≢ faults.Memory → SpellsPlan text scripts
    → AreFew scripts → ⊥
