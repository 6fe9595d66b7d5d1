use Rattle.search_choices.proofs.Common.{◌≡◌, Some, length, refl, sym, ap, ◌∙◌, slice_get, not-true, slice_get_read, Contents, value_at, pairs_after}
use Rattle.search_choices.proofs.Common.{places}
use Rattle.search_choices.proofs.DeadLemmas.{futile_dead}
use Rattle.search_choices.proofs.dead.is_futile.Goals as goal

pub returns : goal.returns
returns g c = λ yes.
    let calls = c.args.calls.now in
    let path = places c.args.standing.now.levels.items in
    let a = c.index-calls-place.result in
    let key = c.in-Some.key in
    let value = c.value-value.result in
    let here : slice_get calls c.args.place ≡ Some a =
    slice_get_read calls (length calls) c.args.place a refl c.requires.1.1.1.1.1 c.index-calls-place.is in
    let was : value_at (pairs_after g.start calls path) key ≡ value =
    ap (λ (m : Contents). value_at m key) (sym c.requires.1.1.0.holds) ∙ sym c.value-value.ensures.value in
    futile_dead g.start calls path c.args.place a key value c.in-Some-first_report.last c.requires.1.0 here c.in-Some.ensures was
    (c.keeps.ensures c.if-keeps.false) c.in-Some-first_report.ensures (c.may_be_put.ensures (not-true c.may_be_put.result yes))
