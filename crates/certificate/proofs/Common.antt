-- The names that most proofs of this crate cite, passed on from one place. Declares nothing.
pub use Rattle.std.proofs.Common.{Bool, IsTrue, List, None, Option, Some, [], ap, arith, below_more, cond, drop, false, filter, get_or}
pub use Rattle.std.proofs.Common.{get_or-set_other, get_or-set_same, inl, inr, is_some, length, nat_le, nat_lt, not, refl, rules, set, subst, suc}
pub use Rattle.std.proofs.Common.{sym, take, true, zero, ℕ, ⊎_elim, ◌&&◌, ◌++◌, ◌+◌, ◌-◌, ◌<◌, ◌==◌, ◌↔◌, ◌∙◌, ◌∷◌, ◌≡◌, ◌≤◌}
pub use Rattle.std.proofs.lemmas.Bool.{and_from, and_parts, cases_Bool, cases_lt, cases_order, eq-eqb, eqb-false, eqb-true, false_from_ne_true}
pub use Rattle.std.proofs.lemmas.Bool.{false≢true, le-leb, le-ltb, leb-true, lt-ltb, ltb-true, ne_eqb, or_right}
pub use Rattle.std.proofs.lemmas.Grind.{common_steps}
pub use Rattle.std.proofs.lemmas.List.{get_or_default, length-append, length-map, length-set, map-append, take-append-drop, take-take, take_all}
pub use Rattle.std.proofs.lemmas.List.{take_more}
pub use Rattle.std.proofs.lemmas.List.Elements.{All-append, All-cons, All-contains, All-head, All-nil, All-push, All-tail, All-weaker}
pub use Rattle.std.proofs.lemmas.List.Elements.{Contains-append_left, Contains-append_right, filter-append, length_all_zip}
pub use Rattle.std.proofs.lemmas.List.FromFn.{get_or-range_with_len, length-range_with_len}
pub use Rattle.std.proofs.lemmas.List.Kept.{AllPairs-cons, AllPairs-filter, AllPairs-from_increasing}
pub use Rattle.std.proofs.lemmas.Option.{get_or_from_slice_get, none-some, same_Some, slice_get-get_or, slice_get_read, slice_get_within}
pub use Rattle.std.specs.List.{AllZip, list_all, range_with_len}
pub use Rattle.std.specs.Prelude.{All, AllPairs, Any, Contains, IfSome, map, max, slice_get, ⊤, ◌%◌, ◌/◌, ◌≢◌, ◌⊎◌}
pub use Rattle.events.proofs.FilterLemmas.{AllPairs-filter_map, AllPairs-from_filter_map, AllPairs-weaker, AreRelatedAs}
pub use Rattle.events.proofs.Lists.{All-at, All-back, All-from_contains, All-front, AllPairs-across, AllPairs-append, AllPairs-front, AllPairs-head}
pub use Rattle.events.proofs.Lists.{AllPairs-nil, AllPairs-tail, Any-first, Any-later, Contains-at, Contains-cases, Contains-filter, Contains-first}
pub use Rattle.events.proofs.Lists.{Contains-from_filter, Contains-later, Contains-nil, Contains-range, place_of-Contains, slice_get-append_left}
pub use Rattle.events.proofs.NumberLemmas.{greatest-push, greatest_bound, has_number-Contains, has_number-from_Contains, has_number-push}
pub use Rattle.events.proofs.NumberLemmas.{slice_get-below, some_at}
pub use Rattle.events.proofs.RisingLemmas.{IsStrictlyIncreasing-range, rising_unique}
pub use Rattle.events.specs.Events.{IsWellFormed, events_alternate, events_of, is_invocation, process_of}
pub use Rattle.events.specs.Histories.{IsHistory, is_small, pair_count}
pub use Rattle.events.specs.HistoryView.{HistoryView}
pub use Rattle.events.specs.Keys.{low_key}
pub use Rattle.events.specs.Lists.{greatest, has_number}
pub use Rattle.events.specs.Operations.{operation_of, operations, operations_from, response_from}
pub use Rattle.events.specs.Precedence.{NonePrecedesItself, is_before, is_completed, precedes}
pub use Rattle.events.specs.declared.event.Call.{Call}
pub use Rattle.events.specs.declared.event.Call.TheVariants.{Get, Insert, Remove, Replace, Scan}
pub use Rattle.events.specs.declared.event.Event.{Event}
pub use Rattle.events.specs.declared.event.Event.TheVariants.{Answer, Invoke}
pub use Rattle.events.specs.declared.event.Reply.{Reply}
pub use Rattle.events.specs.declared.operation.Operation.{Operation}
pub use Rattle.events.specs.declared.operation.Response.{Response}
pub use Rattle.map_object.proofs.TellLemmas.{after_reply-answer, reply_to_answers, reply_to_told, tells_all, tells_answers, whole_from_tells}
pub use Rattle.map_object.specs.MapObject.{Contents, IsAllOrPartOf, IsLegalReply, IsRising, above, after, after_reply, below, is_just}
pub use Rattle.map_object.specs.MapObject.{is_none_or_other, is_value, misses, put, reply_to, value_at, value_reply, within}
pub use Rattle.orders.proofs.OrderLemmas.{IsCompletedAt-below, IsLegal-append, IsLegal-back, IsLegal-front, after_calls-append, calls_at-append}
pub use Rattle.orders.proofs.OrderLemmas.{calls_at-push}
pub use Rattle.orders.specs.Orders.{IsCompletedAt, IsLegal, IsLegalCall, IsLegalOrder, IsOrder, KeepsPrecedence, after_call, after_calls, calls_at}
pub use Rattle.certificate.specs.CacheLaws.{EvictedKeysAreNoLostWrites, HistoriesOfCachesHaveRecordings, LostWritesAreRefuted}
pub use Rattle.certificate.specs.CacheLaws.{RecordedCachesAreLossyMaps}
pub use Rattle.certificate.specs.CacheRecordings.{answer_to_come, helper, is_missed, last_after, missed_keys, recorded_answer, recorded_event}
pub use Rattle.certificate.specs.CacheRecordings.{recorded_events, recorded_invocation, recording_of}
pub use Rattle.certificate.specs.CacheRecords.{AreRecordedAs, IsAnswered, IsHelperOf, IsRecordOf, MissesKey, recorded_call, recorded_reply}
pub use Rattle.certificate.specs.CacheValues.{AreAllKeys, AreBelow, CallBelow, NoneFoundWhereOther, PutsWithin, ReplyBelow, ResponseBelow}
pub use Rattle.certificate.specs.Faults.{IsFirstFault, IsRefusedFor}
pub use Rattle.certificate.specs.Lossy.{IsLossyLegal, IsLossyOrder, left}
pub use Rattle.certificate.specs.OrderFaults.{BreaksPrecedenceAt, IsIllegalAt, IsLeastMissing, IsNewAt, IsNextAt, IsRepeatedAt, IsUnknownAt}
pub use Rattle.certificate.specs.OrderFaults.{PrecedesSome}
pub use Rattle.certificate.specs.PartialLaws.{AnswersDoCalls, OrdersAreThoseOfToldCalls, PartialAnswers}
pub use Rattle.certificate.specs.Prefix.{IsPrefixOf}
