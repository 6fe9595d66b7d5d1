use Rattle.art_scan.proofs.Common.{◌<◌, ◌≤◌, ◌^◌, ◌*◌, ◌+◌, ◌-◌, subst, sym, ap, ◌∙◌, arith, ltb-true}
use Rattle.art_scan.proofs.RangeLemmas.{reach, all_behind}
use Rattle.art_scan.proofs.ranges.all_are_after.Goals as goal

pub overflow_mul-prefix : goal.overflow_mul-prefix
overflow_mul-prefix c = omega (arith, c.path_number.ensures.most)

pub overflow_add-prefix : goal.overflow_add-prefix
overflow_add-prefix c = omega (arith, c.path_number.ensures.most, c.from.ensures, c.requires)

pub overflow_mul-result : goal.overflow_mul-result
overflow_mul-result c =
    let most : (256 * c.path_number.result + c.from.result) * c.keys_below.result ≤ 4294967296 =
    subst (λ k. (256 * c.path_number.result + c.from.result) * k ≤ 4294967296) (sym c.keys_below.ensures)
    (reach c.info_level.result c.path_number.result c.from.result c.info_level.ensures.most
    (subst (λ l. c.path_number.result < 256 ^ l) (sym c.info_level.ensures.level) c.path_number.ensures.below)
    (omega (arith, c.from.ensures, c.requires))) in
    omega (arith, most)

pub returns-clause-behind : goal.returns-clause-behind
returns-clause-behind c = λ e low y m.
    all_behind c.args.row c.path_number.result c.keys_below.result c.path_number.ensures.path
    (c.keys_below.ensures ∙ ap (λ l. 256 ^ (3 - l)) c.info_level.ensures.level)
    low c.args.high c.from.result y (omega (arith, m, c.from.ensures)) (ltb-true _ _ e)
