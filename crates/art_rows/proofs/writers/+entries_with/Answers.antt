use Rattle.std.proofs.Common.{◌-◌, arith}
use Rattle.art_rows.proofs.WriterLemmas.{byte_fits, byte_below}
use Rattle.art_rows.proofs.writers.+entries_with.Goals as goal

pub overflow_mul-result : goal.overflow_mul-result
overflow_mul-result t c = omega (arith, byte_fits (c.args.count - 1) c.entries.result 0 (omega arith) (omega arith) c.entries.ensures.below)

pub overflow_add-result : goal.overflow_add-result
overflow_add-result t c = omega (
  arith,
  byte_fits (c.args.count - 1) c.entries.result (c.from.result) (omega arith) (omega arith)
      c.entries.ensures.below,
)

pub overflow_mul-result-else-place-eq0 : goal.overflow_mul-result-else-place-eq0
overflow_mul-result-else-place-eq0 t c =
    omega (arith, byte_fits (c.args.count - 1) c.entries_with.result 0 (omega arith) (omega arith) c.entries_with.ensures.below)

pub overflow_add-result-else-place-eq0 : goal.overflow_add-result-else-place-eq0
overflow_add-result-else-place-eq0 t c =
    omega (
      arith,
      byte_fits (c.args.count - 1) c.entries_with.result (c.from-else-place-eq0.result) (omega arith) (omega arith)
          c.entries_with.ensures.below,
    )

pub returns-then-place-eq0-clause-below : goal.returns-then-place-eq0-clause-below
returns-then-place-eq0-clause-below t c = byte_below c.args.count c.entries.result (c.from.result) c.if-count-eq0.false (omega arith)
    c.entries.ensures.below

pub returns-else-place-eq0-clause-below : goal.returns-else-place-eq0-clause-below
returns-else-place-eq0-clause-below t c =
    byte_below c.args.count c.entries_with.result (c.from-else-place-eq0.result) c.if-count-eq0.false (omega arith)
    c.entries_with.ensures.below
