use Rattle.std.proofs.Common.{◌-◌, ◌%◌, arith}
use Rattle.art_rows.proofs.WriterLemmas.{byte_fits, byte_below}
use Rattle.art_rows.proofs.writers.+low.Goals as goal

pub overflow_mul-result : goal.overflow_mul-result
overflow_mul-result t c = omega (arith, byte_fits (c.args.count - 1) c.low.result 0 (omega arith) (omega arith) c.low.ensures.below)

pub overflow_add-result : goal.overflow_add-result
overflow_add-result t c = omega (
  arith,
  byte_fits (c.args.count - 1) c.low.result (c.args.bytes % 256) (omega arith) (omega arith)
      c.low.ensures.below,
)

pub returns-else-count-eq0-clause-below : goal.returns-else-count-eq0-clause-below
returns-else-count-eq0-clause-below t c = byte_below c.args.count c.low.result (c.args.bytes % 256) c.if-count-eq0.false (omega arith)
    c.low.ensures.below
