use Rattle.follow_repairs.proofs.Common.{◌≡◌, ◌<◌, ◌∙◌, ◌++◌, ◌∷◌, [], List, Some, length, get_or, refl, sym, ap₂, slice_get, slice_get_read, Operation}
use Rattle.follow_repairs.proofs.Common.{calls_at-more}
use Rattle.follow_repairs.proofs.windows.copies_of.Goals as goal

pub loop-place-preserved : goal.loop-place-preserved
loop-place-preserved c =
    let calls = c.args.calls.now in
    let places = c.args.places.now in
    let i = c.loop-place.place-index in
    let n = get_or places i 0 in
    let a = c.index-calls-place.result in
    let within : n < length calls = c.requires i 0 c.loop-place-test.true in
    let here : slice_get calls n ≡ Some a = slice_get_read calls (length calls) n a refl within c.index-calls-place.is in
    c.in_ok-push.ensures.items
    ∙ (ap₂ (λ (l : List Operation) (x : Operation). l ++ x ∷ []) c.loop-place.invariant c.in_ok-copy.ensures
    ∙ sym (calls_at-more calls places i 0 a c.loop-place-test.true here))
