-- The names that most proofs of this crate cite, passed on from one place. Declares nothing.
pub use Rattle.std.proofs.Common.{Bool, Err, List, None, Ok, Option, Result, Some, [], ap, arith, drop, false, get_or, inl, inr, length, not, refl}
pub use Rattle.std.proofs.Common.{replicate, reverse, set, subst, suc, sym, take, true, zero, ℕ, ⊎_elim, ◌++◌, ◌+◌, ◌-◌, ◌<◌, ◌==◌, ◌||◌, ◌∙◌, ◌∷◌}
pub use Rattle.std.proofs.Common.{◌≡◌, ◌≤◌}
pub use Rattle.std.proofs.lemmas.Bool.{both_ways, cases_Bool, cases_lt, cases_order, eq-eqb, false_from_ne_true, false≢true, iff_false, le-ltb}
pub use Rattle.std.proofs.lemmas.Bool.{lt-ltb, ltb-true, ne_eqb}
pub use Rattle.std.proofs.lemmas.List.{append-nil, append_assoc, get_or-map, get_or-replicate, get_or-set_other, get_or-set_same, get_or_default}
pub use Rattle.std.proofs.lemmas.List.{length-append, length-map, length-replicate, length-set, map-append, reverse-append, set-get_or}
pub use Rattle.std.proofs.lemmas.List.{take-append-drop, take-append-le, take_all, take_at, take_more}
pub use Rattle.std.proofs.lemmas.List.Elements.{All-append, All-cons, All-contains, All-contains_itself, All-head, All-nil, All-push, All-tail}
pub use Rattle.std.proofs.lemmas.List.Elements.{All-take, All-weaker, Contains-append_cases, Contains-append_left, Contains-append_right}
pub use Rattle.std.proofs.lemmas.List.Elements.{Contains-get_or, Contains-push, Contains-push_cases, filter-append}
pub use Rattle.std.proofs.lemmas.List.Kept.{AllPairs-cons, AllPairs-filter, AllPairs-from_increasing}
pub use Rattle.std.proofs.lemmas.List.Quantifiers.{all_pairs_push}
pub use Rattle.std.proofs.lemmas.Option.{none-some, same_Some, slice_get_read, slice_get_within}
pub use Rattle.std.specs.List.{range_with_len}
pub use Rattle.std.specs.List.Sorted.{IsStrictlyIncreasing}
pub use Rattle.std.specs.Prelude.{All, AllPairs, Contains, IfOk, IsTrue, OnOk, filter, if◌then◌else◌, is_some, map, min, slice_get, slice_index}
pub use Rattle.std.specs.Prelude.{vec_len, ◌↔◌, ◌≢◌, ◌⊎◌}
pub use Rattle.memo.proofs.ConfigurationLemmas.{LeadsTo-exists, LeadsTo-nil, LeadsTo-push, configuration_of, configuration_unique}
pub use Rattle.memo.proofs.FrontLemmas.{IsFront-from_order, IsFront-front, IsFront-next, IsFront-nil, IsFront-push, IsNext}
pub use Rattle.memo.proofs.FrontLemmas.{IsNext-from_front, IsOrder-from_front, length-front_le}
pub use Rattle.memo.specs.Configurations.{Configuration, IsReachable, LeadsTo}
pub use Rattle.memo.specs.Counts.{AreDistinct, ReachesMoreThan}
pub use Rattle.memo.specs.Fronts.{IsFront, PrecedesAt}
pub use Rattle.events.specs.Precedence.{NonePrecedesItself, is_before, is_completed, precedes}
pub use Rattle.events.specs.declared.event.Call.{Call}
pub use Rattle.events.specs.declared.operation.Operation.{Operation}
pub use Rattle.events.specs.declared.operation.Response.{Response}
pub use Rattle.events.proofs.Lists.{All-back, All-from_contains, All-front, AllPairs-across, AllPairs-append, AllPairs-at, AllPairs-back}
pub use Rattle.events.proofs.Lists.{AllPairs-front, AllPairs-head, AllPairs-nil, AllPairs-tail, Contains-at, Contains-cases, Contains-filter}
pub use Rattle.events.proofs.Lists.{Contains-first, Contains-from_filter, Contains-later, Contains-nil, Contains-range, Contains-split, filter_all}
pub use Rattle.events.proofs.Lists.{length-distinct, place-push, slice_get-append_left, slice_get-middle}
pub use Rattle.events.proofs.NumberLemmas.{has_number-Contains, has_number-from_Contains, slice_get-below}
pub use Rattle.events.proofs.RisingLemmas.{IsStrictlyIncreasing-range}
pub use Rattle.events.specs.Lists.{has_number}
pub use Rattle.map_object.specs.MapObject.{Contents, IsLegalReply, IsRising, IsAllOrPartOf, above, after, below, is_just, is_value, misses, put, reply_to}
pub use Rattle.map_object.specs.MapObject.{value_at}
pub use Rattle.memo.specs.Equality.{Decides-is_same, is_same}
pub use Rattle.orders.proofs.OrderLemmas.{IsCompletedAt-below, after_calls-append, after_calls-push, calls_at-append}
pub use Rattle.orders.specs.Orders.{IsCompletedAt, IsLegalCall, IsLinearizable, IsOrder, after_call, after_calls, calls_at}
pub use Rattle.orders.specs.SegmentOrders.{numbers_at}
pub use Rattle.orders.specs.SegmentView.{SegmentView}
pub use Rattle.search.specs.Cursor.{ComesBefore, IsBehind, StandsAtCursor, cursor}
pub use Rattle.search.specs.Exact.{AreSameAnswer, IsExactAnswer, IsLeastWholeFront}
pub use Rattle.search.specs.LeastCounts.{CountIsAbove, CountIsWithin, HasCount, IsCounted}
pub use Rattle.search.specs.LeastOrder.{IsLeastOrder, is_at_or_before}
pub use Rattle.search.specs.Links.{AreLeft, AreWithin, IsChain, LinksView, linked_last, no_links, put_back, unlinked, without}
pub use Rattle.search.specs.LongestFront.{HasMetEnough, IsLongestFront, IsMetInTurn}
pub use Rattle.search.specs.Remaining.{IsEarliestAnswer, RemainsBefore}
pub use Rattle.search.specs.Standing.{AreLinksOf, HasMoved, IsAnsweredBefore, IsByAnswer, IsConfigurationAt, IsExhausted, IsLinkedByAnswer, IsNoLater}
pub use Rattle.search.specs.Standing.{IsPushed, Remembers, Stands, IsStateBut, first_pairs, pairs_after, places, untried}
pub use Rattle.search.specs.Undo.{restoring, undone}
pub use Rattle.search.specs.Walk.{GoesOn, rest_of, walk_at}
pub use Rattle.search.specs.declared.standing.Level.{Level}
pub use Rattle.search.specs.declared.standing.Standing.{Standing}
