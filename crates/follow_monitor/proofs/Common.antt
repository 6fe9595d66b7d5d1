-- The names that most proofs of this crate cite, passed on from one place. Declares nothing.
pub use Rattle.std.proofs.Common.{Bool, IsTrue, List, None, Option, Some, [], ap, append-nil, arith, cond, drop, eqb, false, get_or, inl, inr}
pub use Rattle.std.proofs.Common.{is_some, length, map, not, refl, rules, subst, suc, sym, take, true, zero, ℕ, ⊎_elim, ◌&&◌, ◌*◌, ◌++◌, ◌+◌, ◌-◌}
pub use Rattle.std.proofs.Common.{◌<◌, ◌==◌, ◌^◌, ◌||◌, ◌∙◌, ◌∷◌, ◌≡◌, ◌≢◌, ◌≤◌}
pub use Rattle.std.proofs.lemmas.Bool.{and_parts, cases_Bool, cases_order, eq-eqb, eqb-false, eqb-true, false_from_ne_true, false≢true, le-leb}
pub use Rattle.std.proofs.lemmas.Bool.{le-ltb, lt-leb, lt-ltb, ltb-true, ne_eqb, or_cases}
pub use Rattle.std.proofs.lemmas.List.{append_assoc, get_or_default, length-append, length-drop, length-map, length-take, length_push, map-append}
pub use Rattle.std.proofs.lemmas.List.{take-append-drop, take-take, take_at, take_more}
pub use Rattle.std.proofs.lemmas.List.Elements.{All-append, All-cons, All-contains, All-head, All-nil, All-tail, All-weaker, Contains-append_cases}
pub use Rattle.std.proofs.lemmas.List.Elements.{Contains-append_left, Contains-append_right, Contains-get_or, Contains-push_cases, filter-append}
pub use Rattle.std.proofs.lemmas.List.Folds.{list_all-append, map_fixed}
pub use Rattle.std.proofs.lemmas.List.Sorted.{Contains-permutation, IsNonDecreasingBy-from_sort_by_key, IsPermutation-sym}
pub use Rattle.std.proofs.lemmas.List.Sums.{sum_by-append, sum_by-cons}
pub use Rattle.std.proofs.lemmas.Option.{get_or_from_slice_get, none-some, same_Some, slice_get-map, slice_get_within}
pub use Rattle.std.specs.List.{AllZip, IsDistinct, list_all}
pub use Rattle.std.specs.Map.Iter.{deref_pair}
pub use Rattle.std.specs.Option.{option_map}
pub use Rattle.std.specs.Ordering.{is_eq, nat_cmp}
pub use Rattle.std.specs.Prelude.{All, AllPairs, Any, Contains, Err, IfOk, IsSomeAnd, Ok, Result, slice_get, ◌↔◌, ◌⊎◌}
pub use Rattle.call_effects.proofs.ContinueLemmas.{completed_at, completed_stays, invoked_before, invoked_from}
pub use Rattle.call_effects.proofs.EventLemmas.{none_of, operations-answer, operations-invoke, response_found, turns_later}
pub use Rattle.call_effects.proofs.SetLemmas.{same_call}
pub use Rattle.call_effects.specs.KeptCalls.{answered_at, begun_at}
pub use Rattle.circular_buffer.specs.Buffer.{Buffer, keep_last}
pub use Rattle.events.proofs.ExtensionLemmas.{IsExtended, IsExtendedResponse, extended_at}
pub use Rattle.events.proofs.FilterLemmas.{AllPairs-filter_map, AllPairs-from_filter_map, AllPairs-from_map, AllPairs-weaker, AreRelatedAs}
pub use Rattle.events.proofs.FilterLemmas.{Contains-from_map, Contains-map}
pub use Rattle.events.proofs.HistoryLemmas.{IsWellFormed-push}
pub use Rattle.events.proofs.Lists.{All-back, All-from_contains, All-front, AllPairs-across, AllPairs-append, AllPairs-back, AllPairs-front}
pub use Rattle.events.proofs.Lists.{AllPairs-head, AllPairs-nil, AllPairs-tail, Contains-around, Contains-at, Contains-cases, Contains-first}
pub use Rattle.events.proofs.Lists.{Contains-later, Contains-nil, Contains-split, place-push, slice_get-append_left, slice_get-middle}
pub use Rattle.events.proofs.NumberLemmas.{slice_get-below, some_at}
pub use Rattle.events.proofs.TimeLemmas.{inv-at_least, inv_rises}
pub use Rattle.events.specs.Events.{IsWellFormed, events_alternate, events_of, is_invocation, process_of}
pub use Rattle.events.specs.Histories.{AreHistoryEvents, IsHistory, call_count, is_shaped, is_small}
pub use Rattle.events.specs.HistoryFaults.{ends_waiting, has_open_call}
pub use Rattle.events.specs.HistoryView.{HistoryView}
pub use Rattle.events.specs.Keys.{high_key, low_key, may_change}
pub use Rattle.events.specs.Operations.{operation_of, operations, operations_from, response_from}
pub use Rattle.events.specs.Precedence.{is_before, is_completed, precedes}
pub use Rattle.events.specs.declared.event.Call.{Call}
pub use Rattle.events.specs.declared.event.Call.TheVariants.{Get, Insert, Remove, Replace, Scan}
pub use Rattle.events.specs.declared.event.Event.{Event}
pub use Rattle.events.specs.declared.event.Event.TheVariants.{Answer, Invoke}
pub use Rattle.events.specs.declared.event.Reply.{Reply}
pub use Rattle.events.specs.declared.operation.Operation.{Operation}
pub use Rattle.events.specs.declared.operation.Response.{Response}
pub use Rattle.explain_reads_from.specs.Writers.{is_undone, writes}
pub use Rattle.follow_laws.proofs.KeptPartLemmas.{IsKeptFirst, first_of}
pub use Rattle.follow_laws.specs.EffectLaws.{OrdersAreKeyedOrders}
pub use Rattle.follow_laws.specs.Events.{IsWithRead}
pub use Rattle.follow_laws.specs.Forms.{ArePairsOf, HasForm}
pub use Rattle.follow_laws.specs.KeptParts.{AreKept, IsOwn, KeptPart}
pub use Rattle.follow_laws.specs.KeptSteps.{KeptPartsDecide, PartGoesOn}
pub use Rattle.follow_laws.specs.KeyedCalls.{concerns_key, is_refusal}
pub use Rattle.follow_laws.specs.Left.{HasKeysIn, answered}
pub use Rattle.follow_laws.specs.Pasts.{KeptPast}
pub use Rattle.follow_parts.specs.Keeping.{HasEndedBy, IsAnswered, IsCounted, IsEndedBy, IsKeptBeside, IsStateOf, begun, is_reported, pasts_of}
pub use Rattle.follow_parts.specs.Keeping.{reported, response_at}
pub use Rattle.follow_parts.specs.Views.{PartsView, kept_parts}
pub use Rattle.follow_parts.specs.declared.state.EndedPart.{EndedPart}
pub use Rattle.follow_pasts.specs.Pasts.{AreDoubtful, IsDead}
pub use Rattle.follow_pasts.specs.Ranges.{covered}
pub use Rattle.follow_violations.proofs.AnyLemmas.{any_from_map, any_of, any_weaker}
pub use Rattle.follow_violations.specs.Puts.{IsPutOf}
pub use Rattle.follow_violations.specs.declared.loss.Violation.{Violation}
pub use Rattle.follow_violations.specs.declared.puts.Put.{Put}
pub use Rattle.map_object.specs.MapObject.{Contents, IsRising, after, after_reply}
pub use Rattle.orders.specs.Orders.{IsCompletedAt, IsLegal, IsLegalCall, IsLinearizable, IsLinearizableHistory, IsOrder, KeepsPrecedence, after_call}
pub use Rattle.orders.specs.Orders.{calls_at}
pub use Rattle.follow_monitor.specs.Answering.{AreAnswered, IsLostPart, IsPartEndedBy, IsPendingIn}
pub use Rattle.follow_monitor.specs.Calls.{MayReply}
pub use Rattle.follow_monitor.specs.Faults.{answer_fault, event_limit, invocation_fault}
pub use Rattle.follow_monitor.specs.Following.{IsCallOf, IsFollowing, IsOpenCall}
pub use Rattle.follow_monitor.specs.Laws.{DoubtsAreReached, LossesAreReached, MayBeSo, NoDoubtWithoutOverlap, NothingIsMissed, read_after}
pub use Rattle.follow_monitor.specs.LossAt.{IsLossAt}
pub use Rattle.follow_monitor.specs.MonitorView.{MonitorView, known_call, parts_of}
pub use Rattle.follow_monitor.specs.OpenPuts.{AreAllPuts, AreOpenPuts, ArePutsOfEntries, HaveOwnEvents, IsOpenPut}
pub use Rattle.follow_monitor.specs.Outcomes.{IsKeptWith, IsLost, IsOfAnswer, IsSpent}
pub use Rattle.follow_monitor.specs.PrefixLaws.{InvocationsKeepOrders, PrefixesHaveOrders}
pub use Rattle.follow_monitor.specs.Prefixes.{GoesWrongAt, IsAnswerOf, prefix_of}
pub use Rattle.follow_monitor.specs.Puts.{AreLastPuts, ArePutsOf, AreRecentPuts, BecomeWithAnswer, IsAnsweredBefore, IsAnsweredPut, put_limit}
pub use Rattle.follow_monitor.specs.declared.monitor.Kept.{Kept}
pub use Rattle.follow_monitor.specs.declared.open_calls.OpenCall.{OpenCall}
