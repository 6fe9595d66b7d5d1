use Rattle.recorder.proofs.Common.{◌≡◌, map, subst, ⊎_elim, arith, rules, Contains, cases_lt, process_number}
use Rattle.recorder.proofs.closing.has_processes.Goals as goal

pub loop-process-preserved : goal.loop-process-preserved
loop-process-preserved c = λ p below.
    ⊎_elim (λ earlier. c.loop-process.invariant p earlier)
    (λ last. let same : c.loop-process.process ≡ p =
    omega arith in subst (Contains (map process_number c.args.passes.now)) same (search rules))
    (cases_lt p c.loop-process.process)
