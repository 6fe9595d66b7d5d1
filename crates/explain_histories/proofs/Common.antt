-- The names that most proofs of this crate cite, passed on from one place. Declares nothing.
pub use Rattle.std.proofs.Common.{Bool, IsTrue, List, None, Option, Some, [], ap, append_assoc, ap₂, arith, cond, drop, false, get_or, inl, inr}
pub use Rattle.std.proofs.Common.{length, map, max, not, refl, subst, suc, sym, take, true, zero, ℕ, ⊎_elim, ◌++◌, ◌+◌, ◌<◌, ◌==◌, ◌∙◌, ◌∷◌, ◌≡◌, ◌≢◌}
pub use Rattle.std.proofs.Common.{◌≤◌}
pub use Rattle.std.proofs.lemmas.Bool.{MatchBool-at_true, and_from, and_parts, cases_eq, cases_lt, cases_order, eq-eqb, false≢true, le-leb, le-ltb}
pub use Rattle.std.proofs.lemmas.Bool.{leb-true, lt-ltb, ltb-true, ne_eqb}
pub use Rattle.std.proofs.lemmas.List.{length-append, length-map, length_push, nil_from_length, take_all}
pub use Rattle.std.proofs.lemmas.List.Elements.{All-cons, All-contains, All-head, All-map, All-more, All-nil, All-push, All-tail, All-weaker}
pub use Rattle.std.proofs.lemmas.List.Elements.{Contains-append_cases, Contains-append_left, Contains-append_right, filter-append}
pub use Rattle.std.proofs.lemmas.List.Quantifiers.{all_pairs_push}
pub use Rattle.std.proofs.lemmas.Option.{IfSome_then, get_or_from_slice_get, none-some, same_Some, slice_get-get_or, slice_get-map, slice_get_within}
pub use Rattle.std.specs.Prelude.{All, AllPairs, Contains, IfSome, IsSomeAnd, MatchOption, is_some, nat_le, nat_lt, option_map, slice_get, ◌↔◌, ◌⊎◌}
pub use Rattle.events.proofs.HistoryLemmas.{IsWellFormed-push, has_open_call-push}
pub use Rattle.events.proofs.OperationLemmas.{length-operations_from, length-operations_le}
pub use Rattle.events.proofs.TimeLemmas.{inv_rises, response_later}
pub use Rattle.events.specs.Events.{events_of, is_invocation, process_of, events_alternate}
pub use Rattle.events.specs.Histories.{AreHistoryEvents, has_range, is_shaped, is_small, pair_count}
pub use Rattle.events.specs.HistoryFaults.{has_open_call}
pub use Rattle.events.specs.Limits.{call_limit, pair_limit, process_limit}
pub use Rattle.events.specs.Operations.{operation_of, operations, operations_from, response_from}
pub use Rattle.events.specs.Precedence.{is_before, precedes}
pub use Rattle.events.specs.declared.event.Event.{Event}
pub use Rattle.events.specs.declared.event.Event.TheVariants.{Answer, Invoke}
pub use Rattle.events.specs.declared.event.Reply.{Reply}
pub use Rattle.events.specs.declared.operation.Operation.{Operation}
pub use Rattle.events.specs.declared.operation.Response.{Response}
pub use Rattle.events.proofs.FilterLemmas.{AllPairs-map, AllPairs-weaker, Contains-from_map}
pub use Rattle.events.proofs.Lists.{All-back, All-from_contains, All-front, AllPairs-across, AllPairs-append, AllPairs-at, AllPairs-back}
pub use Rattle.events.proofs.Lists.{AllPairs-front, AllPairs-head, AllPairs-tail, Contains-around, Contains-at, Contains-cases, Contains-first}
pub use Rattle.events.proofs.Lists.{Contains-later, Contains-nil, Contains-take, length-distinct_below, place-push, place_before-Contains}
pub use Rattle.events.proofs.Lists.{place_of-Contains, slice_get-append_left, slice_get-middle}
pub use Rattle.events.proofs.NumberLemmas.{greatest_bound, greatest_is, greatest_more, slice_get-below, some_at}
pub use Rattle.call_effects.proofs.ContinueLemmas.{completed_at, invoked_before, invoked_from}
pub use Rattle.call_effects.proofs.EventLemmas.{operations-answer, operations-invoke}
pub use Rattle.call_effects.specs.Groups.{AreAlike, PlacesDoNotMatter, reply_in}
pub use Rattle.call_effects.specs.KeptCalls.{answered_at, begun_at}
pub use Rattle.explain_histories.specs.Seats.{AreEventsWith, AreSeated, AreSeatedAs, EndsOutside, IsAnsweredAs, IsEventOf, IsFirstAmong, IsOpenAt}
pub use Rattle.explain_histories.specs.Seats.{IsOpenOrAnswered, IsSeat, MayFollow, NoEventsHave, NoneEndsBefore, begun_of, place_in, reply_at}
pub use Rattle.explain_histories.specs.declared.seats.Seat.{Seat}
