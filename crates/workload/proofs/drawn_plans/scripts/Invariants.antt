use Rattle.std.proofs.Common.{◌≡◌, ◌++◌, ◌-◌, map}
use Rattle.std.specs.List.{range_with_len}
use Rattle.workload.specs.Workloads.{script_of, scripts_of}
use Rattle.workload.proofs.drawn_plans.scripts.Given as goal

abbrev pub invariant-loop-process : goal.invariant-loop-process
invariant-loop-process l = map (λ script. script.items) l.scripts.items
    ++ map (script_of l.seed l.mix l.calls) (range_with_len l.process (l.processes - l.process)) ≡ scripts_of l.seed l.mix
    l.processes l.calls
