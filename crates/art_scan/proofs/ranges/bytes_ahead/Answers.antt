use Rattle.std.proofs.Common.{◌^◌, ◌-◌, ap, arith}
use Rattle.art_scan.proofs.RangeLemmas.{all_ahead}
use Rattle.art_scan.proofs.ranges.bytes_ahead.Goals as goal

pub overflow_mul-prefix : goal.overflow_mul-prefix
overflow_mul-prefix c = omega (arith, c.path_number.ensures.most)

pub overflow_add-prefix : goal.overflow_add-prefix
overflow_add-prefix c = omega (arith, c.path_number.ensures.most, c.from.ensures, c.requires)

pub returns-then-first-prefix-2-clause-passed : goal.returns-then-first-prefix-2-clause-passed
returns-then-first-prefix-2-clause-passed c = λ high y from below.
    all_ahead c.args.row c.path_number.result (256 ^ (3 - c.info_level.result)) c.path_number.ensures.path
    (ap (λ l. 256 ^ (3 - l)) c.info_level.ensures.level)
    c.args.low high y c.paths_below-first.result
    (omega (arith, below, c.from.ensures, c.if-first-prefix.false, c.if-first-prefix-2.true)) c.paths_below-first.ensures.least

pub returns-else-first-prefix-2-clause-passed : goal.returns-else-first-prefix-2-clause-passed
returns-else-first-prefix-2-clause-passed c = λ high y from below.
    all_ahead c.args.row c.path_number.result (256 ^ (3 - c.info_level.result)) c.path_number.ensures.path
    (ap (λ l. 256 ^ (3 - l)) c.info_level.ensures.level)
    c.args.low high y c.paths_below-first.result
    (omega (arith, below, c.from.ensures, c.if-first-prefix.false, c.if-first-prefix-2.false)) c.paths_below-first.ensures.least
