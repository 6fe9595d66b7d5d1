use Rattle.std.proofs.Common.{sym, arith}
use Rattle.art_rows.proofs.ReaderLemmas.{few_keys, many_keys_first, many_keys_second, many_keys_none}
use Rattle.art_rows.proofs.readers.key_place16.Goals as goal

pub returns-then-count-le8-clause-place : goal.returns-then-count-le8-clause-place
returns-then-count-le8-clause-place c =
    sym (few_keys c.args.x c.args.count c.args.first c.args.second c.key_count-count.result c.place_among.result
    (sym c.key_count-count.ensures.count)
    (grind (arith, c.if-count-le8.true)) (sym c.place_among.ensures.place))

pub returns-in-Some-clause-place : goal.returns-in-Some-clause-place
returns-in-Some-clause-place c =
    sym (many_keys_first c.args.x c.args.count c.args.first c.args.second c.key_count-count.result c.in-Some.i
    (sym c.key_count-count.ensures.count)
    (grind (arith, c.if-count-le8.false)) (sym c.in-Some.ensures.place))

pub returns-in-Some-place_among-clause-place : goal.returns-in-Some-place_among-clause-place
returns-in-Some-place_among-clause-place c =
    sym (many_keys_second c.args.x c.args.count c.args.first c.args.second c.key_count-count.result c.in-Some-place_among.i
    (sym c.key_count-count.ensures.count) (grind (arith, c.if-count-le8.false)) (sym c.in-None.ensures.place)
    (sym c.in-Some-place_among.ensures.place))

pub returns-in-None-place_among-clause-place : goal.returns-in-None-place_among-clause-place
returns-in-None-place_among-clause-place c =
    sym (many_keys_none c.args.x c.args.count c.args.first c.args.second c.key_count-count.result (sym c.key_count-count.ensures.count)
    (grind (arith, c.if-count-le8.false)) (sym c.in-None.ensures.place) (sym c.in-None-place_among.ensures.place))
