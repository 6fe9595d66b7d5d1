-- The names that most proofs of this crate cite, passed on from one place. Declares nothing.
pub use Rattle.std.proofs.Common.{Bool, List, None, Option, Some, [], add-one, ap, append-nil, arith, cond, drop, false, get_or, inl, inr, length}
pub use Rattle.std.proofs.Common.{map, map-id, nat_lt, not, refl, rules, subst, suc, sym, take, true, zero, ℕ, ⊎_elim, ◌++◌, ◌+◌, ◌-◌, ◌<◌, ◌==◌}
pub use Rattle.std.proofs.Common.{◌||◌, ◌∙◌, ◌∷◌, ◌≡◌, ◌≤◌}
pub use Rattle.std.proofs.Math.ListN.{length-set, set}
pub use Rattle.std.proofs.lemmas.Bool.{and_from, and_parts, cases_Bool, cases_order, eq-eqb, eqb-false, eqb-true, false≢true, le-leb, leb-true}
pub use Rattle.std.proofs.lemmas.Bool.{ltb-false, ltb-true, ne_eqb, or_cases, or_left, or_right}
pub use Rattle.std.proofs.lemmas.Bool.Decides.{nat_tests}
pub use Rattle.std.proofs.lemmas.List.{append_assoc, drop-set, drop_more, get_or-drop, get_or-take, get_or_default, get_or_read, length-drop}
pub use Rattle.std.proofs.lemmas.List.{length-take, map-append, nil_from_length, set-get_or, take-append-drop, take-set, take_all, take_more}
pub use Rattle.std.proofs.lemmas.List.{take_more_set}
pub use Rattle.std.proofs.lemmas.List.Elements.{All-append, All-cons, All-contains, All-contains_itself, All-head, All-more, All-nil, All-tail}
pub use Rattle.std.proofs.lemmas.List.Elements.{All-weaker, Contains-append_cases, Contains-append_left, Contains-append_right, Contains-get_or}
pub use Rattle.std.proofs.lemmas.List.Elements.{Contains-push, Contains-push_cases}
pub use Rattle.std.proofs.lemmas.List.Folds.{Any-from_list_any, list_any-append, list_any_at}
pub use Rattle.std.proofs.lemmas.List.Kept.{AllPairs-cons, AllPairs-filter}
pub use Rattle.std.proofs.lemmas.List.Sorted.{IsPartitionPoint-from_clause, IsPartitionedBy-ltb, list_any-IsPermutation}
pub use Rattle.std.proofs.lemmas.Option.{get_or_from_slice_get, none-some, same_Some, slice_get_read, slice_get_within}
pub use Rattle.std.proofs.lemmas.Result.{IfOk-weaker}
pub use Rattle.std.specs.List.{AllWithin, AllZip, insert, list_any, remove}
pub use Rattle.std.specs.Option.{IsSome, option_copied}
pub use Rattle.std.specs.Prelude.{All, AllPairs, Any, Contains, Err, IfOk, IfSome, IsTrue, MatchOption, Ok, OnOk, Result, filter, if◌then◌else◌, max}
pub use Rattle.std.specs.Prelude.{nat_le, slice_get, slice_set, ◌&&◌, ◌↔◌, ◌≢◌, ◌⊎◌}
pub use Rattle.std.specs.Vec.Iter.{into_iter_items, into_iter_len}
pub use Rattle.events.specs.Keys.{high_key, low_key, may_change}
pub use Rattle.events.specs.Precedence.{NonePrecedesItself, precedes}
pub use Rattle.events.specs.declared.event.Call.{Call}
pub use Rattle.events.specs.declared.event.Call.TheVariants.{Get, Insert, Remove, Replace, Scan}
pub use Rattle.events.specs.declared.operation.Operation.{Operation}
pub use Rattle.events.specs.declared.operation.Response.{Response}
pub use Rattle.follow_orders.specs.Answers.{IsAnswer}
pub use Rattle.follow_orders.specs.declared.kept.Mended.{Mended}
pub use Rattle.follow_orders.specs.declared.kept.Mended.TheVariants.{NoOrder, Order, Spent}
pub use Rattle.follow_laws.specs.Events.{AreAfterAnswer, IsAfterAnswer}
pub use Rattle.follow_laws.specs.KeptParts.{AreKept, IsKeptAs, KeptPart, at_rest}
pub use Rattle.follow_laws.specs.KeptSteps.{IsKnownIn, IsWithinKeys}
pub use Rattle.follow_laws.specs.Pasts.{FoundAt, KeptPast}
pub use Rattle.follow_laws.specs.Cuts.{Keys}
pub use Rattle.follow_laws.specs.KeyedCalls.{concerns_key, effect_at, is_answer, is_refused, is_same_value, no_effect, point_effect}
pub use Rattle.follow_laws.specs.Left.{HasKeysIn, pairs_at}
pub use Rattle.events.proofs.FilterLemmas.{AllPairs-from_map, Contains-from_map, Contains-map}
pub use Rattle.events.proofs.Lists.{All-at, All-back, All-from_contains, All-front, AllPairs-across, AllPairs-append, AllPairs-at, AllPairs-back}
pub use Rattle.events.proofs.Lists.{AllPairs-front, AllPairs-head, AllPairs-nil, AllPairs-tail, Any-first, Any-later, Contains-at, Contains-cases}
pub use Rattle.events.proofs.Lists.{Contains-filter, Contains-first, Contains-from_filter, Contains-later, Contains-nil, place_before-Contains}
pub use Rattle.events.proofs.Lists.{place_of-Contains}
pub use Rattle.events.proofs.NumberLemmas.{has_number-Contains, has_number-from_Contains, has_number-push, slice_get-below, some_at}
pub use Rattle.events.specs.Lists.{has_number}
pub use Rattle.map_object.proofs.MapLemmas.{AreAbove-above, AreAbove-first, AreBelow-below, IsRising-insert, IsRising-rest, value_at_above}
pub use Rattle.map_object.proofs.MapLemmas.{value_at_found}
pub use Rattle.map_object.proofs.ValueLemmas.{same_pairs}
pub use Rattle.map_object.specs.MapObject.{Contents, IsRising, IsAllOrPartOf, above, below, put, value_at, value_reply}
pub use Rattle.follow_cuts.specs.PartCuts.{AreShaped, found_at, kept_of}
pub use Rattle.follow_cuts.specs.declared.past.Found.{Found}
pub use Rattle.follow_cuts.specs.declared.past.Past.{Past}
pub use Rattle.follow_pasts.specs.Moments.{AreBegunAfter, HaveNoRead}
pub use Rattle.follow_pasts.specs.Pasts.{AreAlive, AreDoubtful, AreGoneOn, AreLeftAfter, IsAnswerOf, IsDead, IsLeftKept, IsPlaceFor, kept_if, lefts}
pub use Rattle.follow_pasts.specs.Pasts.{lefts_of, lefts_of_kept}
pub use Rattle.follow_pasts.specs.Ranges.{covered, from_to, or_else}
pub use Rattle.follow_pasts.specs.Resting.{AreBusy, AreOnly, AreResting, HasCalls, HasDiffering, HasFound, IsBusyFor, IsOfKey, IsOnly}
pub use Rattle.follow_pasts.specs.Shapes.{AreBesideEachOther, AreBesidePasts, IsPartShaped, IsPastShaped}
pub use Rattle.follow_pasts.specs.Uniting.{AreAllPairs, AreOne, ArePairsOf, Become, HasRow, IsIn, IsTakenFrom, IsTogetherWith, outside, resting}
pub use Rattle.follow_pasts.specs.Views.{kept_part, past_of}
pub use Rattle.follow_pasts.specs.declared.part.Part.{Part}
pub use Rattle.follow_pasts.specs.declared.ranges.Range.{Range}
pub use Rattle.follow_pasts.specs.declared.uniting.United.{United}
