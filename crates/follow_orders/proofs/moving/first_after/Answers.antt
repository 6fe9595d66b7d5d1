use Rattle.follow_orders.proofs.Common.{◌≡◌, ◌-◌, ◌<◌, Some, None, List, length, get_or, take, refl, sym, ap, ◌∙◌, subst, arith, slice_get, All}
use Rattle.follow_orders.proofs.Common.{slice_get_read, slice_get-get_or, All-at, places, Level}
use Rattle.follow_orders.proofs.RoomLemmas.{below_ended, levels_below, place_at}
use Rattle.follow_orders.proofs.moving.first_after.Goals as goal

pub returns-then-is_ended-clause-before : goal.returns-then-is_ended-clause-before
returns-then-is_ended-clause-before c = λ p greater.
    let levels = c.args.front.now.levels.items in
    let calls = c.args.calls.now in
    let f = c.requires.is_front in
    let k = c.loop-at.at - 1 in
    let level = get_or levels k (record { place = 0; undo = None }) in
    let a = c.index-calls-place.result in
    let level_here : slice_get levels k ≡ Some level = slice_get-get_or levels k (record { place = 0; undo = None }) (omega arith) in
    let there = place_at levels k level level_here in
    let within = All-at (λ n. n < length calls) (places levels) k level.place f.known there in
    let a_here : slice_get calls level.place ≡ Some a = slice_get_read calls (length calls) level.place a refl within
    (c.index-calls-place.is ∙ ap (λ (xs : List Level). get_or calls (get_or xs k (record { place = 0; undo = None })).place a) c.as_slice-levels.ensures.value) in
    let below = below_ended c.args.front.now.start calls (places levels) f p c.args.inv greater k level.place a there a_here
    (sym c.is_ended.ensures ∙ c.if-is_ended.true) in
    subst (λ n. All (λ (l : Level). l.place < p) (take n levels)) (omega arith) (levels_below levels k p below)

pub bounds-calls-place : goal.bounds-calls-place
bounds-calls-place c =
    let levels = c.args.front.now.levels.items in
    let k = c.loop-at.at - 1 in
    let level = get_or levels k (record { place = 0; undo = None }) in
    let level_here : slice_get levels k ≡ Some level = slice_get-get_or levels k (record { place = 0; undo = None }) (omega arith) in
    subst (λ (xs : List Level). (get_or xs k (record { place = 0; undo = None })).place < length c.args.calls.now) (sym c.as_slice-levels.ensures.value)
    (All-at (λ n. n < length c.args.calls.now) (places levels) k level.place c.requires.is_front.known (place_at levels k level level_here))
