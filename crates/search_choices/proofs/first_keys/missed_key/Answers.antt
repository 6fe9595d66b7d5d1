use Rattle.search_choices.proofs.Common.{◌≡◌, ℕ, Some, sym, ap, ◌∙◌, subst, same_Some, Response, Contents, IsMissed, Differs}
use Rattle.search_choices.proofs.FirstKeyLemmas.{some_more, scan_missed}
use Rattle.search_choices.proofs.first_keys.missed_key.Goals as goal

pub returns-in-Scan-Pairs : goal.returns-in-Scan-Pairs
returns-in-Scan-Pairs c =
    let m = c.args.map.now in
    let a = c.args.call.now in
    let low = c.in-Scan-Pairs.low in
    let high = c.in-Scan-Pairs.high in
    some_more c.differing_key.result (Differs m low high c.as_slice.result.now)
    (λ (key : ℕ). (r : Response) → a.response ≡ Some r → IsMissed m key a.call r.reply)
    (λ key differs r is. scan_missed m a.call r.reply low high key c.in-Scan-Pairs.pairs c.in-Scan-Pairs.is-0
    (ap (λ (s : Response). s.reply) (same_Some r c.in-Some.response (sym is ∙ c.in-Some.is)) ∙ c.in-Scan-Pairs.is-1)
    (subst (λ (pairs : Contents). Differs m low high pairs key) c.as_slice.ensures differs))
    c.differing_key.ensures
