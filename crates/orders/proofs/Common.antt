-- The names that most proofs of this crate cite, passed on from one place. Declares nothing.
pub use Rattle.std.proofs.Common.{Bool, List, None, Option, Some, [], ap, ap₂, arith, cond, false, filter, get_or, inl, inr, length, nat_le, nat_lt}
pub use Rattle.std.proofs.Common.{refl, subst, suc, sym, take, true, zero, ℕ, ⊎_elim, ◌&&◌, ◌++◌, ◌+◌, ◌<◌, ◌==◌, ◌∙◌, ◌∷◌, ◌≡◌, ◌≤◌}
pub use Rattle.std.proofs.lemmas.Bool.{and_from, and_left, and_parts, and_right, both_ways, cases_Bool, cases_eq, cases_order, eqb-true, false≢true}
pub use Rattle.std.proofs.lemmas.Bool.{le-leb, le-ltb, leb-true, lt-leb, lt-ltb, not-true, or_parts, true≢false}
pub use Rattle.std.proofs.lemmas.List.{append-nil, get_or_default, take_more}
pub use Rattle.std.proofs.lemmas.List.Elements.{All-cons, All-contains, All-filter, All-head, All-map, All-nil, All-tail, All-weaker}
pub use Rattle.std.proofs.lemmas.List.Elements.{Contains-append_left, Contains-get_or, Contains-push, Contains-push_cases, filter-append}
pub use Rattle.std.proofs.lemmas.List.Elements.{filter_map-append, filter_more, filter_passes}
pub use Rattle.std.proofs.lemmas.List.Kept.{AllPairs-filter, AllPairs-from_increasing}
pub use Rattle.std.proofs.lemmas.Option.{none-some, same_Some, slice_get-get_or, slice_get_read, slice_get_within}
pub use Rattle.std.specs.List.{cons_option, list_all}
pub use Rattle.std.specs.List.Sorted.{IsStrictlyIncreasing}
pub use Rattle.std.specs.Prelude.{All, AllPairs, Contains, IfSome, IsSomeAnd, IsTrue, MatchBool, map, slice_get, slice_index, ⊤, ◌↔◌, ◌≢◌, ◌⊎◌}
pub use Rattle.events.proofs.FilterLemmas.{AllPairs-filter_map, AllPairs-from_filter_map, AllPairs-from_map, AllPairs-map, AllPairs-weaker}
pub use Rattle.events.proofs.FilterLemmas.{AreRelatedAs, Contains-filter, Contains-filter_map, Contains-from_filter, Contains-from_filter_map}
pub use Rattle.events.proofs.FilterLemmas.{Contains-from_map, Contains-map, filter_comm, filter_excluded, filter_implied}
pub use Rattle.events.proofs.Lists.{All-from_contains, AllPairs-at, AllPairs-from_at, Contains-at, length-distinct_below, place_of-Contains}
pub use Rattle.events.proofs.NumberLemmas.{IsSomeAnd-within, greatest_bound, greatest_more, has_number-Contains, has_number-from_Contains}
pub use Rattle.events.proofs.NumberLemmas.{least_bound, least_first, least_more, slice_get-below, some_at}
pub use Rattle.events.proofs.OperationLemmas.{length-operations_le}
pub use Rattle.events.specs.Keys.{high_key, low_key, may_change}
pub use Rattle.events.specs.Lists.{greatest, has_number, least}
pub use Rattle.events.specs.Operations.{operation_of, operations, operations_from, response_from}
pub use Rattle.events.specs.Precedence.{belongs, is_completed, precedes}
pub use Rattle.events.specs.declared.event.Call.{Call}
pub use Rattle.events.specs.declared.event.Call.TheVariants.{Get, Insert, Remove, Replace, Scan}
pub use Rattle.events.specs.declared.event.Event.{Event}
pub use Rattle.events.specs.declared.event.Event.TheVariants.{Answer, Invoke}
pub use Rattle.events.specs.declared.event.Reply.{Reply}
pub use Rattle.events.specs.declared.operation.Operation.{Operation}
pub use Rattle.events.specs.declared.operation.Response.{Response}
pub use Rattle.map_object.proofs.TellLemmas.{after_reply-answer, reply_to_answers, tells_all, tells_answers, whole_from_tells}
pub use Rattle.map_object.specs.MapObject.{Contents, IsAllOrPartOf, above, after, after_reply, below, is_just, put, reply_to, value_at, value_reply}
pub use Rattle.map_object.specs.MapObject.{within}
pub use Rattle.orders.specs.Leads.{DoesCall, Leads}
pub use Rattle.orders.specs.Orders.{IsCompletedAt, IsLegal, IsLegalCall, IsLegalOrder, IsLinearizable, IsOrder, KeepsPrecedence, after_call}
pub use Rattle.orders.specs.Orders.{after_calls, calls_at}
pub use Rattle.orders.specs.SegmentView.{IsSegmentView, NamesKeysWithin, SegmentView, segment_of}
pub use Rattle.orders.specs.Segments.{AreSegments, IsSegment}
