use Rattle.art_scan.proofs.Common.{◌≡◌, ◌-◌, Some, ap, sym, subst, ◌∙◌, ⊎_elim, arith, cases_lt, place_of, keys16_of}
use Rattle.std.proofs.Common.{None}
use Rattle.art_rows.proofs.ReaderLemmas.{few_keys, many_keys_first, many_keys_second, many_keys_none}
use Rattle.art_scan.proofs.next_keys.next_key16.Goals as goal

pub returns-then-count-le8-clause-place : goal.returns-then-count-le8-clause-place
returns-then-count-le8-clause-place c = λ less.
    few_keys c.least_among.result.byte c.args.count c.args.first c.args.second c.key_count-count.result (Some c.least_among.result.place)
    (sym c.key_count-count.ensures.count) (grind (arith, c.if-count-le8.true))
    (c.least_among.ensures.place less ∙ ap (λ i. Some i) (omega arith))

pub returns-then-count-le8-clause-bare : goal.returns-then-count-le8-clause-bare
returns-then-count-le8-clause-bare c = λ y from below.
    few_keys y c.args.count c.args.first c.args.second c.key_count-count.result None (sym c.key_count-count.ensures.count)
    (grind (arith, c.if-count-le8.true)) (c.least_among.ensures.bare y from below)

pub returns-else-count-le8-clause-place : goal.returns-else-count-le8-clause-place
returns-else-count-le8-clause-place c = λ less.
    ⊎_elim (λ nearer. many_keys_second c.least_among-else-count-le8.result.byte c.args.count c.args.first c.args.second
    c.key_count-count.result (c.least_among-else-count-le8.result.place - 8) (sym c.key_count-count.ensures.count)
    (grind (arith, c.if-count-le8.false))
    (c.least_among-low.ensures.bare c.least_among-else-count-le8.result.byte (c.least_among-else-count-le8.ensures.from nearer) nearer)
    (c.least_among-else-count-le8.ensures.place nearer)
    ∙ ap (λ i. Some i) (omega (arith, c.least_among-else-count-le8.ensures.later nearer)))
    (λ kept. subst (λ k. place_of k.byte (keys16_of c.args.count c.args.first c.args.second) ≡ Some k.place)
    (sym (c.least_among-else-count-le8.ensures.same kept))
    (many_keys_first c.least_among-low.result.byte c.args.count c.args.first c.args.second c.key_count-count.result
    c.least_among-low.result.place (sym c.key_count-count.ensures.count) (grind (arith, c.if-count-le8.false))
    (c.least_among-low.ensures.place (omega (arith, less, kept)) ∙ ap (λ i. Some i) (omega arith))))
    (cases_lt c.least_among-else-count-le8.result.byte c.least_among-low.result.byte)

pub returns-else-count-le8-clause-bare : goal.returns-else-count-le8-clause-bare
returns-else-count-le8-clause-bare c = λ y from below.
    many_keys_none y c.args.count c.args.first c.args.second c.key_count-count.result (sym c.key_count-count.ensures.count)
    (grind (arith, c.if-count-le8.false))
    (c.least_among-low.ensures.bare y from (omega (arith, below, c.least_among-else-count-le8.ensures.most)))
    (c.least_among-else-count-le8.ensures.bare y from below)
