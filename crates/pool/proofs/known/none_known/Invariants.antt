use Rattle.std.proofs.Common.{◌≡◌, replicate}
use Rattle.std.specs.declared.option.Option.TheVariants.{None}
use Rattle.pool.proofs.known.none_known.Given as goal

abbrev pub invariant-loop : goal.invariant-loop
invariant-loop l = l.known.items ≡ replicate l.counter None
