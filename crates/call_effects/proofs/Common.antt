-- The names that most proofs of this crate cite, passed on from one place. Declares nothing.
pub use Rattle.std.proofs.Common.{Bool, IsTrue, List, None, Option, Some, [], ap, ap₂, arith, cond, false, get_or, inl, inr, length, map, not, refl}
pub use Rattle.std.proofs.Common.{subst, suc, sym, true, ℕ, ⊎_elim, ◌++◌, ◌+◌, ◌<◌, ◌==◌, ◌||◌, ◌∙◌, ◌∷◌, ◌≡◌, ◌≤◌}
pub use Rattle.std.proofs.lemmas.Bool.{and_parts, cases_order, eq-eqb, eqb-true, false_from_ne_true, false≢true, lt-ltb, ne_eqb, not-true, or_right}
pub use Rattle.std.proofs.lemmas.List.Elements.{All-append, All-cons, All-contains, All-head, All-nil, All-tail, All-weaker, Contains-append_cases}
pub use Rattle.std.proofs.lemmas.List.Elements.{Contains-append_left, Contains-append_right}
pub use Rattle.std.proofs.lemmas.List.Kept.{AllPairs-cons, AllPairs-filter}
pub use Rattle.std.proofs.lemmas.Option.{none-some, same_Some, slice_get_within}
pub use Rattle.std.specs.Prelude.{All, AllPairs, Contains, IsSomeAnd, if◌then◌else◌, is_some, slice_get, ◌↔◌, ◌≢◌, ◌⊎◌}
pub use Rattle.events.proofs.TimeLemmas.{inv-at_least, same_number}
pub use Rattle.events.specs.Keys.{high_key, low_key}
pub use Rattle.events.specs.Operations.{operation_of, operations, operations_from, response_from}
pub use Rattle.events.specs.Precedence.{is_before, is_completed, precedes}
pub use Rattle.events.specs.declared.event.Call.{Call}
pub use Rattle.events.specs.declared.event.Call.TheVariants.{Get, Insert, Remove, Replace, Scan}
pub use Rattle.events.specs.declared.event.Event.{Event}
pub use Rattle.events.specs.declared.event.Event.TheVariants.{Answer, Invoke}
pub use Rattle.events.specs.declared.event.Reply.{Reply}
pub use Rattle.events.specs.declared.operation.Operation.{Operation}
pub use Rattle.events.specs.declared.operation.Response.{Response}
pub use Rattle.events.proofs.FilterLemmas.{AllPairs-filter_map, AllPairs-from_filter_map, AllPairs-weaker, AreRelatedAs, Contains-filter_map}
pub use Rattle.events.proofs.FilterLemmas.{Contains-from_filter_map, filter_excluded}
pub use Rattle.events.proofs.Lists.{All-at, All-back, All-from_contains, All-front, AllPairs-across, AllPairs-append, AllPairs-back}
pub use Rattle.events.proofs.Lists.{AllPairs-front, AllPairs-head, AllPairs-tail, Contains-at, Contains-cases, Contains-first, Contains-later}
pub use Rattle.events.proofs.Lists.{Contains-nil, place_of-Contains}
pub use Rattle.events.proofs.NumberLemmas.{slice_get-below, some_at}
pub use Rattle.map_object.proofs.MapLemmas.{AreAbove-above, AreBelow-below, IsRising-insert, IsRising-remove, value_at_found, value_at_gap}
pub use Rattle.map_object.specs.MapObject.{Contents, IsLegalReply, IsRising, above, after, after_reply, below, is_just, is_none_or_other, misses, put}
pub use Rattle.map_object.specs.MapObject.{reply_to, value_at, value_reply, within}
pub use Rattle.orders.specs.Orders.{IsLegal, IsLegalCall, IsLegalOrder, IsLinearizable, IsOrder, KeepsPrecedence, after_call, after_calls, calls_at}
pub use Rattle.orders.proofs.RangeLemmas.{IsInside, IsLegalCall-within, bounds, in_range, value_at-within, within-after_call, within_left_call}
pub use Rattle.call_effects.specs.KeptCalls.{answered_at, begun_at}
