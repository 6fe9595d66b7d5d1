use Rattle.std.proofs.Common.{arith}
use Rattle.art_rows.proofs.WriterLemmas.{small}
use Rattle.art_rows.proofs.writers.moved_info.Goals as goal

pub overflow_mul-result-2 : goal.overflow_mul-result-2
overflow_mul-result-2 c = omega (arith, small c.info_level-level.result c.low.result (omega arith) c.low.ensures.below)

pub overflow_add-result-2 : goal.overflow_add-result-2
overflow_add-result-2 c = omega (arith, small c.info_level-level.result c.low.result (omega arith) c.low.ensures.below)
