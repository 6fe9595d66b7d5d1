use Rattle.follow_fronts.proofs.Common.{◌≡◌, ◌-◌, ◌<◌, Some, List, length, refl, sym, ap, ◌∙◌, subst, slice_get, both_ways, slice_get_read, same_Some}
use Rattle.follow_fronts.proofs.Common.{Operation, is_before, precedes, All-at, places, Level}
use Rattle.follow_fronts.proofs.MendLemmas.{last-place}
use Rattle.follow_fronts.proofs.mending.is_after_last.Goals as goal

pub returns-in-Some : goal.returns-in-Some
returns-in-Some c = λ no path last path_is before.
    let calls = c.args.calls.now in
    let levels = c.args.front.now.levels.items in
    let level = c.in-Some.level.now in
    let last_is : slice_get levels (length levels - 1) ≡ Some level =
    subst (λ (xs : List Level). slice_get xs (length xs - 1) ≡ Some level) c.deref.ensures.value (sym c.in-Some.ensures.value) in
    let (there, same) = last-place levels level path last last_is path_is in
    let within : level.place < length calls =
    All-at (λ n. n < length calls) (places levels) (length levels - 1) level.place c.requires.stands.is_front.known there in
    let a = c.index-calls-level.result in
    let b = c.index-calls-place.result in
    let a_here : slice_get calls level.place ≡ Some a =
    slice_get_read calls (length calls) level.place a refl within c.index-calls-level.is in
    let b_here : slice_get calls c.args.place ≡ Some b =
    slice_get_read calls (length calls) c.args.place b refl c.requires.known c.index-calls-place.is in
    let a_is = same_Some before.0 a (sym before.2 ∙ ap (slice_get calls) (sym same) ∙ a_here) in
    let b_is = same_Some before.1 b (sym before.3 ∙ b_here) in
    both_ways (precedes a b)
    (ap (λ (x : Operation). is_before a.response x.inv) c.index-calls-place.is ∙ sym c.is_ended.ensures ∙ no)
    (ap (λ (x : Operation). precedes x b) (sym a_is) ∙ ap (λ (x : Operation). precedes before.0 x) (sym b_is) ∙ before.4)
