-- The names that most proofs of this crate cite, passed on from one place. Declares nothing.
pub use Rattle.std.proofs.Common.{Bool, IfOk, IsTrue, List, None, Option, Some, [], add-one, ap, append_assoc, arith, cond, drop, drop-cons, false}
pub use Rattle.std.proofs.Common.{filter, get_or, get_or-set_other, get_or-set_same, inl, inr, length, ltb-true, map, nat_lt, not, refl, rules, set}
pub use Rattle.std.proofs.Common.{subst, suc, sym, take, take-append-drop, true, zero, ℕ, ⊎_elim, ◌&&◌, ◌++◌, ◌+◌, ◌-◌, ◌<◌, ◌==◌, ◌∙◌, ◌∷◌, ◌≡◌, ◌≤◌}
pub use Rattle.std.proofs.lemmas.Bool.{and_parts, cases_lt, cases_order, cond_both, eq-eqb, eqb-true, false≢true, le-leb, le-ltb, leb-false, leb-true}
pub use Rattle.std.proofs.lemmas.Bool.{lt-leb, lt-ltb, ne_eqb, or_cases, or_left, or_right}
pub use Rattle.std.proofs.lemmas.Bool.Decides.{eqb_tells, nat_tests}
pub use Rattle.std.proofs.lemmas.List.{append-nil, drop_all, get_or-replicate, get_or_default, length-append, length-map, length-take, length-take-le}
pub use Rattle.std.proofs.lemmas.List.{map_more, take_all, take_more}
pub use Rattle.std.proofs.lemmas.List.Elements.{All-append, All-cons, All-contains, All-head, All-map, All-nil, All-tail, All-weaker}
pub use Rattle.std.proofs.lemmas.List.Elements.{Contains-append_cases, Contains-append_left, Contains-append_right, Contains-get_or, filter-append}
pub use Rattle.std.proofs.lemmas.List.Elements.{filter_agree}
pub use Rattle.std.proofs.lemmas.List.Folds.{list_all-append, list_all_at, list_any-append}
pub use Rattle.std.proofs.lemmas.List.FromFn.{get_or-range_with_len, length-range_with_len}
pub use Rattle.std.proofs.lemmas.List.Kept.{AllPairs-cons, AllPairs-from_increasing}
pub use Rattle.std.proofs.lemmas.List.Sorted.{IsNonDecreasingBy-from_sort, answers_always}
pub use Rattle.std.proofs.lemmas.List.Sums.{AllPass-from_list_all, sum_by-append, sum_by-cons}
pub use Rattle.std.proofs.lemmas.Option.{IfSome_then, get_or_from_slice_get, none-some, same_Some, slice_get-get_or, slice_get_within}
pub use Rattle.std.proofs.lemmas.Result.{err_from_is_err_and}
pub use Rattle.std.specs.List.{AllZip, cons_option, list_all, range_with_len}
pub use Rattle.std.specs.List.Sorted.{IsNonDecreasingBy, IsSortedByKey, IsStableByKey, IsStrictlyIncreasing}
pub use Rattle.std.specs.Ordering.{is_lt, nat_cmp}
pub use Rattle.std.specs.Prelude.{All, AllPairs, Any, Contains, IfSome, IsSomeAnd, filter_map, flat_map, if◌then◌else◌, max, min, nat_le, slice_get}
pub use Rattle.std.specs.Prelude.{slice_set, sum_by, ⊤, ◌||◌, ◌↔◌, ◌≢◌, ◌⊎◌}
pub use Rattle.events.specs.Events.{IsWellFormed, events_alternate, events_of, is_invocation, process_of}
pub use Rattle.events.specs.Histories.{AreHistoryEvents, call_count, is_shaped, is_small}
pub use Rattle.events.specs.HistoryFaults.{IsFirstEventFault, IsFirstFault, IsFirstFaultOf, IsFirstPairFault, IsPairRefusedAfter, IsRefusedAfter}
pub use Rattle.events.specs.HistoryFaults.{IsRefusedFor, ends_waiting, event_fault, fault_after, has_open_call, is_above, is_call_too_many}
pub use Rattle.events.specs.HistoryFaults.{is_out_of_turn, pair_fault_after}
pub use Rattle.events.specs.HistoryView.{HistoryView}
pub use Rattle.events.specs.Limits.{call_limit, process_limit, start_limit}
pub use Rattle.events.specs.Logs.{Stamped, by_stamp, events_by_stamp, history_of_logs, placed}
pub use Rattle.events.specs.OpenCalls.{AreOpenAfter}
pub use Rattle.events.specs.Operations.{operation_of, operations, operations_from, response_from}
pub use Rattle.events.specs.Starts.{IsStart, KeysRise}
pub use Rattle.events.specs.declared.event.Event.{Event}
pub use Rattle.events.specs.declared.event.Event.TheVariants.{Answer, Invoke}
pub use Rattle.events.specs.declared.fault.HistoryFault.{HistoryFault}
pub use Rattle.events.specs.declared.operation.Operation.{Operation}
pub use Rattle.events.specs.declared.operation.Response.{Response}
