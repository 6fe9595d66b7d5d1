use Rattle.std.proofs.Common.{◌<◌, ◌≤◌, ◌^◌, ◌*◌, ◌+◌, subst, sym, arith}
use Rattle.art_scan.proofs.RangeLemmas.{reach}
use Rattle.art_scan.proofs.ranges.can_lie.Goals as goal

pub overflow_mul-prefix : goal.overflow_mul-prefix
overflow_mul-prefix c = omega (arith, c.path_number.ensures.most)

pub overflow_add-prefix : goal.overflow_add-prefix
overflow_add-prefix c = omega (arith, c.path_number.ensures.most, c.from.ensures, c.requires)

pub overflow_mul-prefix-2 : goal.overflow_mul-prefix-2
overflow_mul-prefix-2 c =
    let most : (256 * c.path_number.result + c.from.result) * c.keys_below-keys.result ≤ 4294967296 =
    subst (λ k. (256 * c.path_number.result + c.from.result) * k ≤ 4294967296) (sym c.keys_below-keys.ensures)
    (reach c.info_level.result c.path_number.result c.from.result c.info_level.ensures.most
    (subst (λ l. c.path_number.result < 256 ^ l) (sym c.info_level.ensures.level) c.path_number.ensures.below)
    (omega (arith, c.from.ensures, c.requires))) in
    omega (arith, most)

pub overflow_add-result : goal.overflow_add-result
overflow_add-result c = omega (arith, c.path_number.ensures.most, c.from.ensures, c.requires)

pub overflow_mul-result : goal.overflow_mul-result
overflow_mul-result c =
    let most : (256 * c.path_number.result + (c.from.result + 1)) * c.keys_below-keys.result ≤ 4294967296 =
    subst (λ k. (256 * c.path_number.result + (c.from.result + 1)) * k ≤ 4294967296) (sym c.keys_below-keys.ensures)
    (reach c.info_level.result c.path_number.result (c.from.result + 1) c.info_level.ensures.most
    (subst (λ l. c.path_number.result < 256 ^ l) (sym c.info_level.ensures.level) c.path_number.ensures.below)
    (omega (arith, c.from.ensures, c.requires))) in
    omega (arith, most)
