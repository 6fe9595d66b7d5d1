use Rattle.std.proofs.Common.{◌≡◌, ◌++◌, drop, map}
use Rattle.events.specs.declared.operation.Operation.{Operation}
use Rattle.explain_reads_from.specs.Writers.{writers_of}
use Rattle.explain_reads_from.proofs.writing.writers_of.Given as goal

-- what was found so far, with what is to come, is all
abbrev pub invariant-loop-call : goal.invariant-loop-call
invariant-loop-call l =
    l.places.items ++ map (λ (a : Operation). a.inv) (writers_of l.pair (drop l.call-index l.calls))
    ≡ map (λ (a : Operation). a.inv) (writers_of l.pair l.calls)
