-- The names that most proofs of this crate cite, passed on from one place. Declares nothing.
pub use Rattle.std.proofs.Common.{Bool, Global, List, None, Option, Some, Vec, [], add-one, ap, append-nil, append_assoc, arith, cond, drop, eq-eqb}
pub use Rattle.std.proofs.Common.{eqb-true, false, get_or, inl, inr, length, map, not, refl, set, subst, suc, sym, take, true, zero, ℕ, ⊎_elim, ◌&&◌}
pub use Rattle.std.proofs.Common.{◌++◌, ◌+◌, ◌<◌, ◌==◌, ◌||◌, ◌∙◌, ◌∷◌, ◌≡◌, ◌≢◌, ◌≤◌}
pub use Rattle.std.proofs.lemmas.Bool.{and_from, and_parts, both_ways, cases_eq, cases_lt, false_from_ne_true, false≢true, le-ltb, leb-true}
pub use Rattle.std.proofs.lemmas.Bool.{ltb-false, ne_eqb, not-true, or_cases, or_left, or_right}
pub use Rattle.std.proofs.lemmas.List.{get_or_read, length-set, map-append, map_push, nil_from_length, take_all, take_more}
pub use Rattle.std.proofs.lemmas.List.Elements.{All-append, All-cons, All-contains, All-head, All-nil, All-push, All-tail, Contains-append_cases}
pub use Rattle.std.proofs.lemmas.List.Elements.{Contains-append_left, Contains-append_right, Contains-push, Contains-push_cases}
pub use Rattle.std.proofs.lemmas.Option.{get_or_from_slice_get, none-some, same_Some, slice_get_read, slice_get_within}
pub use Rattle.std.proofs.lemmas.Result.{IfOk-weaker, on_ok_weaker}
pub use Rattle.std.specs.Prelude.{All, AllPairs, Any, Contains, IfSome, IsSomeAnd, MatchOption, is_some, nat_le, slice_get, ◌⊎◌}
pub use Rattle.std.specs.Vec.Iter.{into_iter_items, into_iter_len}
pub use Rattle.events.specs.Keys.{high_key, low_key}
pub use Rattle.events.specs.Precedence.{NonePrecedesItself, is_before, precedes}
pub use Rattle.events.specs.declared.event.Call.{Call}
pub use Rattle.events.specs.declared.event.Call.TheVariants.{Get, Insert, Remove, Replace, Scan}
pub use Rattle.events.specs.declared.operation.Operation.{Operation}
pub use Rattle.events.specs.declared.operation.Response.{Response}
pub use Rattle.follow_laws.specs.Leads.{IsMadeOf, Leads, Setting, Stand}
pub use Rattle.follow_laws.specs.Pasts.{AreKeptAlike, ArePasts, FoundAt, HasInvocation, IsNameKept, IsPast, IsPastAfter, KeptPast, OpenReadsBeganAfter}
pub use Rattle.follow_laws.specs.Pasts.{found_by}
pub use Rattle.follow_laws.specs.Choices.{Choice}
pub use Rattle.follow_laws.specs.KeyedCalls.{KeyedCall, concerns_key, effect_at, effect_of_key, is_answer, is_completed, keyed, no_effect, place_of}
pub use Rattle.follow_laws.specs.KeyedCalls.{point_effect, read_of, told_effect}
pub use Rattle.follow_laws.specs.Operations.{HasSomeKeyIn, OperationMayCome, without_call}
pub use Rattle.follow_laws.specs.Parts.{Represent}
pub use Rattle.events.proofs.FilterLemmas.{Contains-from_map, Contains-map}
pub use Rattle.events.proofs.Lists.{All-at, All-from_contains, AllPairs-at, AllPairs-head, AllPairs-nil, AllPairs-tail, Any-first, Contains-at}
pub use Rattle.events.proofs.Lists.{Contains-cases, Contains-filter, Contains-first, Contains-from_filter, Contains-later, Contains-nil}
pub use Rattle.events.proofs.Lists.{filter_all, place_of-Contains}
pub use Rattle.map_object.specs.MapObject.{Contents, is_just, is_none_or_other, value_at, value_reply}
pub use Rattle.orders.specs.Orders.{IsLegalCall, after_call}
pub use Rattle.call_effects.specs.Replies.{IsRead, says_unchanged}
pub use Rattle.follow_cuts.specs.PartCuts.{AreCut, AreEnough, AreShaped, Becomes, IsCutAt, IsMade, found_at, kept_of}
pub use Rattle.follow_cuts.specs.Positions.{AreAdded, AreBranchKeys, AreEnded, AreMadeOf, AreNexts, ArePositionsAlike, AreTaken, BecomesAfter}
pub use Rattle.follow_cuts.specs.Positions.{DoesNotTie, EndsFirst, HasBranchKey, HasSomeOf, HaveGoneOn, IsAdded, IsAfterTaking, IsAtStart, IsBranchAt, IsBranching}
pub use Rattle.follow_cuts.specs.Positions.{IsCopy, IsFirstEnded, IsFirstEndedIn, IsFrom, IsLeftAt, IsNextAt, IsPastAt, IsReadAt, IsWalkFrom, MayComeAt}
pub use Rattle.follow_cuts.specs.Positions.{calls_of, kept_at, kept_in, left_of}
pub use Rattle.follow_cuts.specs.declared.branching.Branching.{Branching}
pub use Rattle.follow_cuts.specs.declared.past.Found.{Found}
pub use Rattle.follow_cuts.specs.declared.past.Past.{Past}
pub use Rattle.follow_cuts.specs.declared.position.Position.{Position}
