-- The names that most proofs of this crate cite, passed on from one place. Declares nothing.
pub use Rattle.std.proofs.Common.{Bool, IfOk, List, None, [], ap, append_assoc, arith, cond, drop, false, filter, inl, inr, length, map, ne_eqb, not}
pub use Rattle.std.proofs.Common.{refl, rules, subst, suc, sym, take, true, zero, ℕ, ⊎_elim, ◌&&◌, ◌*◌, ◌++◌, ◌+◌, ◌<◌, ◌==◌, ◌∙◌, ◌∷◌, ◌≡◌, ◌≢◌, ◌≤◌}
pub use Rattle.std.proofs.Math.Nat.{mul-le-mul_right}
pub use Rattle.std.proofs.lemmas.Bool.{cases_lt, cases_order, eq-eqb}
pub use Rattle.std.proofs.lemmas.List.{append-nil, length-append, length-map, map-append, nil_from_length, take_all}
pub use Rattle.std.proofs.lemmas.List.Concat.{flat_map-cons}
pub use Rattle.std.proofs.lemmas.List.Elements.{All-cons, All-contains, All-head, All-nil, All-push, All-rest, All-tail, All-weaker}
pub use Rattle.std.proofs.lemmas.List.Elements.{Contains-append_left, filter-append}
pub use Rattle.std.proofs.lemmas.List.Sums.{get_or-le-sum_by, sum_by-append, sum_by-cons}
pub use Rattle.std.specs.List.{list_all, range_with_len}
pub use Rattle.std.specs.Prelude.{All, AllPairs, Contains, Some, flat_map, slice_get, sum_by, ◌⊎◌}
pub use Rattle.std.specs.Vec.Iter.{into_iter_items}
pub use Rattle.events.specs.Events.{IsWellFormed, events_of, is_invocation, process_of, events_alternate}
pub use Rattle.events.specs.Histories.{AreHistoryEvents, call_count, is_shaped, is_small}
pub use Rattle.events.specs.declared.event.Event.{Event}
pub use Rattle.events.proofs.FilterLemmas.{AllPairs-from_map, Contains-from_map}
pub use Rattle.events.proofs.Lists.{All-from_contains, AllPairs-append, AllPairs-from_at, AllPairs-head, AllPairs-nil, AllPairs-tail}
pub use Rattle.events.proofs.Lists.{Contains-around, Contains-cases, Contains-nil, Contains-take, filter_all, filter_none, length-distinct}
pub use Rattle.events.specs.Logs.{Stamped, by_stamp, events_by_stamp}
pub use Rattle.tickets.specs.Hands.{counter, counter_of, drawn_by, left_of, share_of}
pub use Rattle.recorder.specs.Passes.{calls_of, draws_of, events_by, log_of, process_number, source_of, stamps_of}
pub use Rattle.recorder.specs.Recorders.{AreAll, HasOwnEvents, HasProcesses, IsPassOf, all_stamps, calls_for_each, history_of, processes_of}
pub use Rattle.recorder.specs.Records.{IsRecord, StampsRise, events_in, stamps_in}
pub use Rattle.recorder.specs.declared.pass.Pass.{Pass}
