-- The names that most proofs of this crate cite, passed on from one place. Declares nothing.
pub use Rattle.std.proofs.Common.{Bool, Global, List, None, Option, Some, Vec, [], ap, append_assoc, arith, cond, drop, eqb-true, false, get_or, inl}
pub use Rattle.std.proofs.Common.{inr, length, nat_le, not, refl, replicate, set, subst, sym, take, true, ℕ, ⊎_elim, ◌++◌, ◌+◌, ◌<◌, ◌==◌, ◌∙◌, ◌∷◌}
pub use Rattle.std.proofs.Common.{◌≡◌, ◌≤◌}
pub use Rattle.std.proofs.lemmas.Bool.{both_ways, cases_Bool, cases_lt, cases_order, eq-eqb, false_from_ne_true, false≢true, leb-false, lt-ltb}
pub use Rattle.std.proofs.lemmas.Bool.{ltb-false, ltb-true, ne_eqb, not-false, not-true}
pub use Rattle.std.proofs.lemmas.List.{append-nil, get_or-replicate, get_or-set_other, get_or-set_same, get_or_default, length-append, length-map}
pub use Rattle.std.proofs.lemmas.List.{length-replicate, length-set, map-append, take-append-le, take_all, take_more}
pub use Rattle.std.proofs.lemmas.List.Elements.{All-append, All-contains, All-head, All-tail, Contains-append_cases, Contains-append_left}
pub use Rattle.std.proofs.lemmas.List.Elements.{Contains-append_right, Contains-push, Contains-push_cases}
pub use Rattle.std.proofs.lemmas.Option.{none-some, same_Some, slice_get_read, slice_get_within}
pub use Rattle.std.specs.Prelude.{All, AllPairs, Contains, IfSome, if◌then◌else◌, is_some, min, slice_get, ◌||◌, ◌≢◌, ◌⊎◌}
pub use Rattle.memo.proofs.FrontLemmas.{IsFront-from_order, IsFront-front, IsFront-next, IsFront-nil, IsNext, IsNext-from_front, completed}
pub use Rattle.memo.specs.Fronts.{IsFront}
pub use Rattle.events.specs.Keys.{high_key, low_key, may_change}
pub use Rattle.events.specs.Precedence.{NonePrecedesItself, is_before, is_completed, precedes}
pub use Rattle.events.specs.declared.event.Call.{Call}
pub use Rattle.events.specs.declared.event.Call.TheVariants.{Get, Insert, Remove, Replace, Scan}
pub use Rattle.events.specs.declared.event.Reply.{Reply}
pub use Rattle.events.specs.declared.operation.Operation.{Operation}
pub use Rattle.events.specs.declared.operation.Response.{Response}
pub use Rattle.events.proofs.FilterLemmas.{Contains-filter_map, Contains-from_filter_map}
pub use Rattle.events.proofs.Lists.{All-at, All-back, All-from_contains, All-front, AllPairs-across, AllPairs-at, AllPairs-back, AllPairs-head}
pub use Rattle.events.proofs.Lists.{Contains-around, Contains-at, Contains-cases, Contains-first, Contains-later, Contains-nil, Contains-split}
pub use Rattle.events.proofs.Lists.{place-push, place_before-Contains, place_of-Contains, slice_get-append_left, slice_get-middle}
pub use Rattle.events.proofs.NumberLemmas.{has_number-Contains, has_number-from_Contains, has_number-push, slice_get-below, some_at}
pub use Rattle.events.specs.Lists.{has_number}
pub use Rattle.map_object.proofs.MapLemmas.{AreAbove, AreAbove-above, AreBelow, AreBelow-below, value_at_found, value_at_gap}
pub use Rattle.map_object.specs.MapObject.{Contents, IsLegalReply, IsRising, above, after, after_reply, below, is_just, put, reply_to, value_at}
pub use Rattle.map_object.specs.MapObject.{value_reply, within}
pub use Rattle.orders.proofs.OrderLemmas.{IsLegal-append, IsLegal-back, IsLegal-front, after_calls-push, calls_at-append}
pub use Rattle.orders.specs.Orders.{IsCompletedAt, IsLegal, IsLegalCall, IsLegalOrder, IsLinearizable, IsOrder, KeepsPrecedence, after_call}
pub use Rattle.orders.specs.Orders.{after_calls, calls_at}
pub use Rattle.call_effects.proofs.AroundLemmas.{All-around, All-before, All-behind, All-here, AllPairs-around, AllPairs-before, AllPairs-behind}
pub use Rattle.call_effects.proofs.AroundLemmas.{AllPairs-beside, beside, middle}
pub use Rattle.call_effects.proofs.ReplyLemmas.{read_completed, read_leaves, unchanged}
pub use Rattle.call_effects.proofs.ValueLemmas.{IsOut, after_call_cases, in_or_out, rising_after, rising_kept, same_pairs, value_alone, value_left}
pub use Rattle.call_effects.proofs.ValueLemmas.{within_rises}
pub use Rattle.call_effects.specs.Earliest.{earlier_of}
pub use Rattle.call_effects.specs.Replies.{IsRead, says_unchanged}
pub use Rattle.call_effects.specs.Values.{IsCallOf, value_after, value_after_call, value_after_reply}
pub use Rattle.search.proofs.EarliestLemmas.{IsOrder-from_none, IsOrder-not_yet, preceded_from_earliest}
pub use Rattle.search.specs.Remaining.{IsEarliestAnswer, RemainsBefore}
pub use Rattle.search.specs.Standing.{pairs_after}
pub use Rattle.orders.proofs.RangeLemmas.{IsInside, IsLegalCall-within, IsOutside, value_at-within, within-after_call, within_left_call}
pub use Rattle.search_choices.specs.Dead.{HasListed, IsLeftBy, IsReported, IsStuck, IsUnput, Puts, Reports, StuckCallsAreDeadEnds}
pub use Rattle.search_choices.specs.FirstKeys.{AllMissOne, AreFirstKeys, AreNextOfOne, Differs, FewKeysGoFirst, HasAnswered, IsCallOfOne}
pub use Rattle.search_choices.specs.FirstKeys.{IsMissed, IsScanOfOne, MissesOne, OneDiffers}
pub use Rattle.search_choices.specs.Idle.{AreIdle, IsBarred, IsDoneNext, IsFree, IsOpenNext, IsPassedOver, MissesPair, WaitsForNone}
pub use Rattle.search_choices.specs.Reads.{HasOrderAfter, IsReadNext, ReadsGoFirst, ToldCallsLeaveAll, is_told_response}
pub use Rattle.search_choices.specs.Standing.{AreChoices, AreMarked, AreNext, Closes, HasMoved, IsDead, IsDeadAt, IsLooked, IsNextOf, IsReduced}
pub use Rattle.search_choices.specs.Standing.{IsSettled, IsStep, Remembers, IsStateBut, places, to_try}
