use Rattle.search_choices.proofs.Common.{◌≡◌, ℕ, Some, [], ◌∷◌, length, refl, ◌⊎◌, slice_get, both_ways, slice_get_read, Response, IsCallOf, IsMissed}
use Rattle.search_choices.proofs.Common.{HasAnswered, places}
use Rattle.search_choices.proofs.FirstKeyLemmas.{some_more, answered-first}
use Rattle.search_choices.proofs.first_keys.first_key.Goals as goal

pub returns-then-not-is_taken : goal.returns-then-not-is_taken
returns-then-not-is_taken g c =
    let calls = c.args.calls.now in
    let path = places c.args.standing.now.levels.items in
    let m = c.args.standing.now.map in
    let i = c.loop-place.place in
    let a = c.index-calls-place.result in
    let here : slice_get calls i ≡ Some a = slice_get_read calls (length calls) i a refl c.loop-place-test.true c.index-calls-place.is in
    let (r, is, at) = c.is_answered_at.ensures c.if-is_answered_at.true in
    some_more c.concerned_key.result
    (λ (key : ℕ). (s : Response) → a.response ≡ Some s → IsCallOf key a.call ⊎ IsMissed m key a.call s.reply)
    (λ (key : ℕ). HasAnswered m calls path c.args.answered (key ∷ []))
    (λ key concerned. answered-first m calls path c.args.answered i a r key here
    (λ h. both_ways c.is_taken.result c.if-not-is_taken.true (c.is_taken.ensures.1 h)) is at (concerned r is))
    c.concerned_key.ensures
