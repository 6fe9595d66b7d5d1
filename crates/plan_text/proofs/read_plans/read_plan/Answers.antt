use Rattle.std.proofs.lemmas.Result.{err_from_is_err_and}
use Rattle.plan_text.proofs.PlanTextLemmas.{memory_alone, fault_of_form, never_many, spelled_in}
use Rattle.plan_text.proofs.read_plans.read_plan.Goals as goal

pub returns-in_err-value-clause-accepted : goal.returns-in_err-value-clause-accepted
returns-in_err-value-clause-accepted c = λ scripts spelled few.
    let p = err_from_is_err_and c.from_residual.result c.from_residual.ensures.1 in
    rw (p.1, p.2) (memory_alone c.args.text.now scripts _ spelled few c.in_err-value.ensures.refused)

pub returns-in_err-scripts-clause-accepted : goal.returns-in_err-scripts-clause-accepted
returns-in_err-scripts-clause-accepted c = λ scripts spelled few.
    let p = err_from_is_err_and c.from_residual-in_err-scripts.result c.from_residual-in_err-scripts.ensures.1 in
    rw (p.1, p.2)
    (memory_alone c.args.text.now scripts _ spelled few
    (fault_of_form c.args.text.now _ _ c.in_ok-value.ensures.ok c.in_err-scripts.ensures.refused))

pub returns-clause-accepted : goal.returns-clause-accepted
returns-clause-accepted c = λ scripts spelled few.
    never_many c.args.text.now scripts _ c.from_scripts.result spelled few
    (spelled_in c.args.text.now _ _ c.in_ok-value.ensures.ok c.in_ok-scripts.ensures.spelled) c.from_scripts.ensures.many
