use Rattle.std.proofs.Common.{◌≡◌, ◌++◌, ◌-◌}
use Rattle.workload.specs.Drawn.{generator_of, calls_drawn}
use Rattle.workload.proofs.drawn.script.Given as goal

abbrev pub invariant-loop : goal.invariant-loop
invariant-loop l = l.script.items ++ calls_drawn l.mix (l.calls - l.counter) l.generator
    ≡ calls_drawn l.mix l.calls (generator_of l.seed l.process)
