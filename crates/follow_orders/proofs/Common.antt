-- The names that most proofs of this crate cite, passed on from one place. Declares nothing.
pub use Rattle.std.proofs.Common.{Bool, List, None, Option, Result, Some, [], ap, arith, drop, false, get_or, inl, inr, length, map, min, nat_eq}
pub use Rattle.std.proofs.Common.{nat_lt, refl, set, subst, sym, take, true, ℕ, ⊎_elim, ◌++◌, ◌+◌, ◌-◌, ◌<◌, ◌∙◌, ◌∷◌, ◌≡◌, ◌≤◌}
pub use Rattle.std.proofs.lemmas.Bool.{both_ways, cases_lt, cases_order, false_from_ne_true, le-ltb, lt-ltb, ltb-false, ltb-true}
pub use Rattle.std.proofs.lemmas.List.{append-nil, drop_all, get_or-drop, get_or-set_other, get_or-set_same, get_or-take, get_or_default}
pub use Rattle.std.proofs.lemmas.List.{length-append, length-drop, length-map, length-set, length-take, map-append, take-append-drop, take-append-le}
pub use Rattle.std.proofs.lemmas.List.{take-map, take_all, take_at}
pub use Rattle.std.proofs.lemmas.List.Edits.{get_or-insert_above, get_or-insert_at, get_or-insert_below, length-insert, map_over_more}
pub use Rattle.std.proofs.lemmas.List.Elements.{All-contains, All-head, All-map, All-push, All-tail, All-weaker, Contains-append_left}
pub use Rattle.std.proofs.lemmas.List.Elements.{Contains-append_right, Contains-push, Contains-push_cases}
pub use Rattle.std.proofs.lemmas.List.Quantifiers.{all_pairs_push}
pub use Rattle.std.proofs.lemmas.Option.{get_or_from_slice_get, same_Some, slice_get-get_or, slice_get-map, slice_get_past, slice_get_read}
pub use Rattle.std.proofs.lemmas.Option.{slice_get_within}
pub use Rattle.std.specs.List.{AllWithin, cons_option, insert}
pub use Rattle.std.specs.Prelude.{All, AllPairs, Contains, IfOk, IsSomeAnd, IsTrue, cond, is_some, option_map, slice_get, ◌^◌, ◌≢◌, ◌⊎◌}
pub use Rattle.search_choices.specs.Standing.{AreMarked}
pub use Rattle.memo.proofs.FrontLemmas.{IsCompletedAt-from_PrecedesAt, IsFront-from_order, IsOrder-from_front, completed}
pub use Rattle.memo.specs.Fronts.{IsFront, PrecedesAt}
pub use Rattle.events.specs.Precedence.{NonePrecedesItself, is_before, is_completed, precedes}
pub use Rattle.events.specs.declared.operation.Operation.{Operation}
pub use Rattle.events.specs.declared.operation.Response.{Response}
pub use Rattle.follow_fronts.proofs.ClosedLemmas.{IsClosed-from_front}
pub use Rattle.follow_fronts.specs.Closed.{IsClosed}
pub use Rattle.follow_fronts.specs.Mending.{HasCompleted}
pub use Rattle.follow_fronts.specs.Standing.{IsFromOn, IsUndone, IsWhole, Stands, IsStateBut, again_or, places}
pub use Rattle.follow_fronts.specs.declared.front.Front.{Front}
pub use Rattle.follow_fronts.specs.declared.front.Level.{Level}
pub use Rattle.follow_repairs.specs.Searching.{AreCalls}
pub use Rattle.events.proofs.FilterLemmas.{AllPairs-map, AllPairs-weaker, Contains-from_map, Contains-map}
pub use Rattle.events.proofs.Lists.{All-at, All-back, All-from_contains, All-front, AllPairs-at, AllPairs-from_at, Contains-at, Contains-first}
pub use Rattle.events.proofs.Lists.{Contains-later, place-push, place_before-Contains, place_of-Contains, slice_get-append_left, slice_get-middle}
pub use Rattle.events.proofs.Lists.{slice_get-take}
pub use Rattle.events.proofs.NumberLemmas.{has_number-Contains, has_number-from_Contains, slice_get-below, some_at}
pub use Rattle.events.specs.Lists.{has_number}
pub use Rattle.map_object.specs.MapObject.{Contents}
pub use Rattle.orders.specs.Orders.{IsCompletedAt, IsLegal, IsLinearizable, IsOrder, after_calls, calls_at}
pub use Rattle.search.specs.Undo.{undone}
pub use Rattle.follow_orders.specs.Answers.{IsAnswer, IsAnswerWith, Keeps}
pub use Rattle.follow_orders.specs.Keeping.{IsKept, view_of}
pub use Rattle.follow_orders.specs.Moving.{moved, moved_up}
pub use Rattle.follow_orders.specs.Views.{HasCome, StoredOrderView, MayBeAnswered, MayCome, answered, answered_call, set_answer}
