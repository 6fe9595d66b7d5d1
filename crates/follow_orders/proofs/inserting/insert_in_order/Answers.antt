use Rattle.follow_orders.proofs.Common.{◌≤◌, ◌<◌, ◌++◌, ◌∷◌, [], false, List, length, map, take, drop, min, sym, ap, ◌∙◌, subst, All, insert, Operation}
use Rattle.follow_orders.proofs.Common.{IsClosed, HasCompleted, moved, places, Stands, AreCalls, IsClosed-from_front}
use Rattle.follow_orders.proofs.MoveLemmas.{places_moved, stands_moved, closed_last, complete_last}
use Rattle.follow_orders.proofs.InsertLemmas.{few_places, came, are_calls_with}
use Rattle.follow_fronts.proofs.StandingLemmas.{stands-as}
use Rattle.follow_orders.proofs.inserting.insert_in_order.Goals as goal

pub make_room-requires-clause-few : goal.make_room-requires-clause-few
make_room-requires-clause-few c =
    few_places c.args.front.now.levels.items (length c.args.calls.now.items) c.requires.room c.requires.stands.is_front.known

pub make_room-requires-clause-stands : goal.make_room-requires-clause-stands
make_room-requires-clause-stands c =
    subst (λ (xs : List Operation). Stands xs c.args.front.now) (sym c.deref-2.ensures.value) c.requires.stands

pub make_room-requires-clause-greater : goal.make_room-requires-clause-greater
make_room-requires-clause-greater c =
    let p = c.place_for-place.result in
    let op = c.args.operation in
    subst (λ (xs : List Operation). All (λ (a : Operation). op.inv < a.inv) (drop p xs)) (c.deref.ensures.value ∙ sym c.deref-2.ensures.value)
    c.place_for-place.ensures.greater

pub mend-requires-clause-stands : goal.mend-requires-clause-stands
mend-requires-clause-stands c =
    let calls = c.args.calls.now.items in
    let op = c.args.operation in
    let w = c.args.front.now in
    let n = c.make_room.new.front in
    let p = c.place_for-place.result in
    let is = c.in_ok-make_room.ensures in
    let within : p ≤ length calls = subst (λ (xs : List Operation). p ≤ length xs) c.deref.ensures.value c.place_for-place.ensures.within in
    subst (λ (xs : List Operation). Stands xs n) (sym (c.deref-3.ensures.value ∙ c.in_ok-insert.ensures.items))
    (stands-as (insert calls p op) w.start n.start (map (moved p) w.levels.items) n.levels.items w.map n.map (insert w.taken.items p false)
    n.taken.items (min w.low p) n.low is.start is.levels is.map is.taken is.low
    (stands_moved calls op p within c.requires.comes w.start w.levels.items w.map w.taken.items w.low c.requires.stands))

pub mend-requires-clause-closed : goal.mend-requires-clause-closed
mend-requires-clause-closed c =
    let calls = c.args.calls.now.items in
    let op = c.args.operation in
    let w = c.args.front.now in
    let p = c.place_for-place.result in
    let order = places w.levels.items in
    let within : p ≤ length calls = subst (λ (xs : List Operation). p ≤ length xs) c.deref.ensures.value c.place_for-place.ensures.within in
    let path_is = ap places c.in_ok-make_room.ensures.levels ∙ places_moved p w.levels.items in
    subst (λ (xs : List Operation). IsClosed xs (places c.make_room.new.front.levels.items ++ p ∷ []))
    (sym (c.deref-3.ensures.value ∙ c.in_ok-insert.ensures.items))
    (subst (λ path. IsClosed (insert calls p op) (path ++ p ∷ [])) (sym path_is)
    (closed_last calls op p within c.requires.comes order c.requires.whole.complete
    (IsClosed-from_front w.start calls order c.requires.stands.is_front)))

pub mend-requires-clause-complete : goal.mend-requires-clause-complete
mend-requires-clause-complete c =
    let calls = c.args.calls.now.items in
    let op = c.args.operation in
    let w = c.args.front.now in
    let p = c.place_for-place.result in
    let order = places w.levels.items in
    let within : p ≤ length calls = subst (λ (xs : List Operation). p ≤ length xs) c.deref.ensures.value c.place_for-place.ensures.within in
    let path_is = ap places c.in_ok-make_room.ensures.levels ∙ places_moved p w.levels.items in
    subst (λ (xs : List Operation). HasCompleted xs (places c.make_room.new.front.levels.items ++ p ∷ []))
    (sym (c.deref-3.ensures.value ∙ c.in_ok-insert.ensures.items))
    (subst (λ path. HasCompleted (insert calls p op) (path ++ p ∷ [])) (sym path_is)
    (complete_last calls op p within c.requires.comes order c.requires.whole.complete))

pub returns-clause-are_calls : goal.returns-clause-are_calls
returns-clause-are_calls c =
    let calls = c.args.calls.now.items in
    let op = c.args.operation in
    let p = c.place_for-place.result in
    let at = c.place_for-place.ensures in
    let value = c.deref.ensures.value in
    let within : p ≤ length calls = subst (λ (xs : List Operation). p ≤ length xs) value at.within in
    subst AreCalls (sym c.in_ok-insert.ensures.items)
    (are_calls_with op calls p within c.requires.room
    (came op calls p (subst (λ (xs : List Operation). All (λ (a : Operation). a.inv < op.inv) (take p xs)) value at.less)
    (subst (λ (xs : List Operation). All (λ (a : Operation). op.inv < a.inv) (drop p xs)) value at.greater))
    c.requires.comes.apart c.requires.calls)
