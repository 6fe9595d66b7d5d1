-- Calls that put values.
use Rattle.std.specs.Prelude.{◌≡◌, true}
use Rattle.events.specs.declared.operation.Operation.{Operation}
use Rattle.explain_reads_from.specs.Writers.{writes}
use Rattle.follow_violations.specs.declared.puts.Put.{Put}

-- a call puts this value at this key, and its answer does not say that it was not done
pub record IsPutOf (o : Operation) (p : Put) : Type 0 where
  pub event_is : p.event ≡ o.inv
  pub writes_it : writes (p.key, p.value) o ≡ true
