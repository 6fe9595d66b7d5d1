use Rattle.std.proofs.Common.{◌-◌, arith}
use Rattle.art_rows.proofs.WriterLemmas.{byte_fits, byte_below}
use Rattle.art_control_states.proofs.setting.Setting.+index_from.Goals as goal

pub overflow_mul-result : goal.overflow_mul-result
overflow_mul-result t c = omega (
  arith,
  byte_fits (c.args.left - 1) c.index_from.result 0 (omega arith) (omega arith)
      c.index_from.ensures.below,
)

pub overflow_add-result : goal.overflow_add-result
overflow_add-result t c = omega (
  arith,
  byte_fits (c.args.left - 1) c.index_from.result c.from.result (omega arith) (omega arith)
      c.index_from.ensures.below,
)

pub returns-else-left-eq0-clause-below : goal.returns-else-left-eq0-clause-below
returns-else-left-eq0-clause-below t c = byte_below c.args.left c.index_from.result c.from.result c.if-left-eq0.false (omega arith)
    c.index_from.ensures.below
