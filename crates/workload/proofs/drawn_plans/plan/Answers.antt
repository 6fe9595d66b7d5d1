use Rattle.std.proofs.Common.{Result, Ok, Err, IfErr, OnErr, map, subst, sym}
use Rattle.plans.specs.Plans.{AreFew, AreTreeCalls}
use Rattle.workload.specs.Workloads.{IsDrawFault}
use Rattle.workload.proofs.DrawnLemmas.{scripts_of-are_scripts}
use Rattle.workload.proofs.drawn_plans.plan.Goals as goal

pub from_scripts-requires : goal.from_scripts-requires
from_scripts-requires c =
    let sound = c.in_ok-test_arguments.ensures.sound in
    subst AreTreeCalls (sym c.in_ok-scripts.ensures.drawn)
    (scripts_of-are_scripts c.args.seed c.args.processes c.args.calls c.args.mix.now c.in_ok-test_arguments.ensures.small
    sound.1 sound.2).calls

-- a result that fails only if a statement is false does not fail, since the statement is true
IfErr-never : {A E : Type 0} (result : Result A E) (P : E → Type 0) (Q : Type 0) → Q → OnErr result (Q → ⊥) → IfErr result P
IfErr-never (Ok a) P Q q never = tt
IfErr-never (Err e) P Q q never = absurd (never q)

pub returns-clause-refused : goal.returns-clause-refused
returns-clause-refused c =
    let sound = c.in_ok-test_arguments.ensures.sound in
    IfErr-never c.from_scripts.result (IsDrawFault c.args.mix.now c.args.processes c.args.calls)
    (AreFew (map (λ script. script.items) c.in_ok-scripts.scripts.items))
    (subst AreFew (sym c.in_ok-scripts.ensures.drawn)
    (scripts_of-are_scripts c.args.seed c.args.processes c.args.calls c.args.mix.now c.in_ok-test_arguments.ensures.small
    sound.1 sound.2).few)
    c.from_scripts.ensures.many
