use Rattle.search_choices.proofs.Common.{ℕ, sym, ap, ◌∙◌, subst, Contains, same_Some, Response, Contents, OneDiffers}
use Rattle.std.specs.Prelude.{◌≤◌}
use Rattle.search_choices.proofs.FirstKeyLemmas.{scan_misses_one}
use Rattle.search_choices.proofs.first_keys.is_tied.Goals as goal

pub returns-in-Scan-Pairs : goal.returns-in-Scan-Pairs
returns-in-Scan-Pairs c = λ no r is over.
    let m = c.args.map.now in
    let keys = c.args.keys.now in
    let low = c.in-Scan-Pairs.low in
    let high = c.in-Scan-Pairs.high in
    let same = same_Some r c.in-Some.response (sym is ∙ c.in-Some.is) in
    scan_misses_one m keys c.args.call.now.call r.reply low high c.in-Scan-Pairs.pairs c.in-Scan-Pairs.is-0
    (ap (λ (s : Response). s.reply) same ∙ c.in-Scan-Pairs.is-1)
    (subst (λ (pairs : Contents). (key : ℕ) → Contains keys key → low ≤ key → key ≤ high → OneDiffers m low high pairs keys)
    c.as_slice.ensures (c.agrees.ensures no))
    over
