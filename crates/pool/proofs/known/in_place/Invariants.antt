use Rattle.pool.proofs.Common.{replicate, into_iter_items}
use Rattle.std.specs.declared.option.Option.TheVariants.{None}
use Rattle.pool.proofs.KnownLemmas.{IsStillToPut}
use Rattle.pool.proofs.known.in_place.Given as goal

abbrev pub invariant-loop-segment : goal.invariant-loop-segment
invariant-loop-segment l =
    IsStillToPut (replicate l.segments None) l.fn.answers.items l.known.items (into_iter_items l.segment-iterator)
