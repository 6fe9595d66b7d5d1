use Rattle.cli_plans.proofs.Common.{◌≡◌, ◌↔◌, ℕ, Bool, true, false, IsTrue, List, inr, refl, Call, PlanFault, SpellsPlan, IsDrivable, CommandOutcome}
use Rattle.cli_plans.proofs.Common.{Answered, Noted, Refused, Memory, Words, Failed, IsUndriven}
use Rattle.plans.specs.Plans.{AreScripts}
use Rattle.cli_plans.specs.Faults.{IsPlanFaultOutcome}
use Rattle.cli_plans.specs.Outcomes.{IsUndrivenOutcome}
use Rattle.plans.specs.declared.fault.PlanFault.TheVariants as plans
use Rattle.cli_plans.proofs.drivable.drivable_plan.Goals as goal

-- what a test denies does not hold
denied : (b : Bool) (P : Type 0) → (IsTrue b ↔ P) → b ≡ false → P → ⊥
denied true P same is p = cc
denied false P same is p = let yes = same.1 p in cc

-- for a fault for which no plan is driven
undriven : (text : List ℕ) (fault : PlanFault) (outcome : CommandOutcome) → IsUndriven text fault → IsPlanFaultOutcome fault outcome
    → IsUndrivenOutcome text outcome
undriven text fault (Answered answer bytes) is h = h
undriven text fault (Noted answer bytes note) is h = h
undriven text fault (Refused bytes hint) is h =
    record { fault = fault; refused = is; not_memory = h.0; bytes_are = h.1; hint_is = h.2 }
undriven text fault Memory is h = tt
undriven text fault (Words bytes) is h = h
undriven text fault Failed is h = h

-- a plan for which there is no room is not driven
undrivable : (text : List ℕ) (scripts : List (List Call)) → SpellsPlan text scripts → AreScripts scripts → (IsDrivable scripts → ⊥)
    → IsUndriven text plans.TooMany
undrivable text scripts spelled are many = inr (refl, (scripts, spelled, are, many))

pub returns-then-not-is_drivable-clause-refused : goal.returns-then-not-is_drivable-clause-refused
returns-then-not-is_drivable-clause-refused c =
    undriven c.args.text.now plans.TooMany c.plan_fault_outcome-then-not-is_drivable.result
    (undrivable c.args.text.now c.in-Ok.plan c.in-Ok.ensures.spelled c.in-Ok.ensures.within
    (denied c.is_drivable.result _ c.is_drivable.ensures c.if-not-is_drivable.true)) c.plan_fault_outcome-then-not-is_drivable.ensures
