use Rattle.plan_text.proofs.PlanTextLemmas.{one_plan}
use Rattle.plan_text.proofs.plan_laws.one_plan.Goals as goal

pub returns : goal.returns
returns c = one_plan
