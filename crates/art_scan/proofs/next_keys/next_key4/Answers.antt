use Rattle.art_scan.proofs.Common.{Some, ap, sym, ◌/◌, ◌∙◌, arith, low_bytes, place_of}
use Rattle.art_scan.proofs.KeyByteLemmas.{keys4_bytes}
use Rattle.art_scan.proofs.next_keys.next_key4.Goals as goal

pub returns-clause-place : goal.returns-clause-place
returns-clause-place c = λ less.
    ap (place_of c.least_among.result.byte) (keys4_bytes c.args.keys)
    ∙ (ap (λ n. place_of c.least_among.result.byte (low_bytes n (c.args.keys / 256))) (sym c.keys_count.ensures.count)
    ∙ (c.least_among.ensures.place less ∙ ap (λ i. Some i) (omega arith)))

pub returns-clause-bare : goal.returns-clause-bare
returns-clause-bare c = λ y from below.
    ap (place_of y) (keys4_bytes c.args.keys)
    ∙ (ap (λ n. place_of y (low_bytes n (c.args.keys / 256))) (sym c.keys_count.ensures.count) ∙ c.least_among.ensures.bare y from below)
