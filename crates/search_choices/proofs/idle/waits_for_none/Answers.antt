use Rattle.search_choices.proofs.Common.{sym, ◌∙◌, subst, Contents, IsRising, calls_at, rising_after, MissesPair, places}
use Rattle.search_choices.proofs.IdleLemmas.{waits-missing}
use Rattle.search_choices.proofs.idle.waits_for_none.Goals as goal

pub returns-in-Scan-Pairs : goal.returns-in-Scan-Pairs
returns-in-Scan-Pairs g c = λ yes a response call_is response_is reply_is.
    let calls = c.args.calls.now in
    let m = c.args.standing.now.map in
    let path = places c.args.standing.now.levels.items in
    let answered = c.args.answered in
    let low = c.in-Scan-Pairs.low in
    let high = c.in-Scan-Pairs.high in
    let rises : IsRising m = subst IsRising (sym c.requires.1.1.holds) (rising_after (calls_at calls path) g.start c.requires.1.0) in
    waits-missing calls path answered m low high c.in-Scan-Pairs.pairs a response rises (call_is ∙ c.in-Scan-Pairs.is-0) response_is
    (reply_is ∙ c.in-Scan-Pairs.is-1)
    (subst (λ (pairs : Contents). MissesPair m calls path answered low high pairs) c.as_slice.ensures (c.misses_pair.ensures yes))
