use Rattle.plan_text.proofs.PlanTextLemmas.{one_fault, no_plan}
use Rattle.plan_text.proofs.plan_laws.one_plan_fault.Goals as goal

pub returns-clause-one : goal.returns-clause-one
returns-clause-one c = one_fault

pub returns-clause-no_plan : goal.returns-clause-no_plan
returns-clause-no_plan c = no_plan
