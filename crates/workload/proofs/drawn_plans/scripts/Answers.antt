use Rattle.std.proofs.Common.{◌∙◌, ◌-◌, ◌+◌, arith, map}
use Rattle.std.proofs.lemmas.List.{map_push}
use Rattle.workload.specs.Workloads.{script_of}
use Rattle.workload.proofs.DrawnLemmas.{scripts-more}
use Rattle.workload.proofs.drawn_plans.scripts.Goals as goal

pub loop-process-preserved : goal.loop-process-preserved
loop-process-preserved c =
    let p = c.loop-process.process in
    let n = c.args.processes in
    let before = c.loop-process.scripts.items in
    rw (c.in_ok-push.ensures.items, map_push (λ script. script.items) before c.in_ok-script.field-0)
    (scripts-more (script_of c.args.seed c.args.mix.now c.args.calls) (map (λ script. script.items) before) c.in_ok-script.field-0.items p
    (n - (p + 1)) (n - p)
    c.in_ok-script.ensures (omega arith) ∙ c.loop-process.invariant)
