-- The names that most proofs of this crate cite, passed on from one place. Declares nothing.
pub use Rattle.std.proofs.Common.{Bool, Global, List, None, Option, Some, Vec, [], add-one, ap, append-nil, append_assoc, arith, below_more, cond}
pub use Rattle.std.proofs.Common.{drop, eq-eqb, eqb-true, false, get_or, get_or-set_other, get_or-set_same, inl, inr, length, length-append, map, not}
pub use Rattle.std.proofs.Common.{refl, rules, set, subst, suc, sym, take, true, ℕ, ⊎_elim, ◌&&◌, ◌++◌, ◌+◌, ◌<◌, ◌==◌, ◌||◌, ◌∙◌, ◌∷◌, ◌≡◌, ◌≤◌}
pub use Rattle.std.proofs.lemmas.Bool.{and_from, and_parts, cases_lt, eqb-false, false≢true, le-leb, le-ltb, leb-true}
pub use Rattle.std.proofs.lemmas.Bool.Decides.{nat_tests}
pub use Rattle.std.proofs.lemmas.List.{drop_all, drop_at, drop_more, get_or_default, length-set, length-take-le, map-append, nil_from_length}
pub use Rattle.std.proofs.lemmas.List.{take_all, take_at, take_more}
pub use Rattle.std.proofs.lemmas.List.Elements.{All-append, All-cons, All-contains, All-head, All-map, All-nil, All-push, All-same}
pub use Rattle.std.proofs.lemmas.List.Elements.{All-tail, All-weaker, Contains-append_cases, Contains-append_left, Contains-append_right}
pub use Rattle.std.proofs.lemmas.List.Elements.{Contains-push}
pub use Rattle.std.proofs.lemmas.List.Folds.{list_any-append, list_any_none}
pub use Rattle.std.proofs.lemmas.List.Kept.{AllPairs-cons, AllPairs-filter}
pub use Rattle.std.proofs.lemmas.Option.{get_or_from_slice_get, none-some, same_Some, slice_get_read}
pub use Rattle.std.proofs.lemmas.Option.{slice_get_within}
pub use Rattle.std.specs.List.{AllZip, list_any, remove}
pub use Rattle.std.specs.Prelude.{All, AllPairs, Any, Contains, Err, IfOk, IfSome, IsSome, IsSomeAnd, Ok, OnOk, Result, filter, if◌then◌else◌}
pub use Rattle.std.specs.Prelude.{is_some, nat_le, nat_lt, slice_get, slice_set, ◌≢◌, ◌⊎◌}
pub use Rattle.events.specs.Keys.{high_key, low_key, may_change}
pub use Rattle.events.specs.Precedence.{NonePrecedesItself, is_before, precedes}
pub use Rattle.events.specs.declared.event.Call.{Call}
pub use Rattle.events.specs.declared.event.Call.TheVariants.{Get, Insert, Remove, Replace, Scan}
pub use Rattle.events.specs.declared.operation.Operation.{Operation}
pub use Rattle.events.specs.declared.operation.Response.{Response}
pub use Rattle.follow_orders.specs.Answers.{IsAnswer, IsAnswerWith}
pub use Rattle.follow_orders.specs.Views.{HasCome, IsKeptOrder, StoredOrderView, MayCome}
pub use Rattle.follow_orders.specs.declared.kept.Mended.{Mended}
pub use Rattle.follow_laws.proofs.KeptAnswerLemmas.{changes_are_answered, reads_are_answered}
pub use Rattle.follow_laws.proofs.KeptCallLemmas.{last_or_old}
pub use Rattle.follow_laws.proofs.KeptEventLemmas.{all_is_kept, changes_begin, reads_begin}
pub use Rattle.follow_laws.proofs.PastLemmas.{kept_pasts_are_within, open_changes_are_kept, pasts_in_any_order_are_kept, zip_back, zip_forth}
pub use Rattle.follow_laws.proofs.KeptRestLemmas.{reads_at_rest_are_taken, reads_without_report_are_taken}
pub use Rattle.follow_laws.proofs.KeptStepLemmas.{any_to, dead_pasts_are_lost, parts_move, pasts_move_on}
pub use Rattle.follow_laws.proofs.KeptUniteLemmas.{kept_parts_fall_apart, kept_parts_unite}
pub use Rattle.follow_laws.specs.Events.{AreAfterAnswer, IsAfterAnswer, IsWithRead, with_begun}
pub use Rattle.follow_laws.specs.KeptParts.{AreKept, KeptPart, at_rest}
pub use Rattle.follow_laws.specs.KeptReached.{HasPasts}
pub use Rattle.follow_laws.specs.KeptSteps.{PartGoesOn, IsKnownIn, IsWithinKeys, ReadsBeganAfter}
pub use Rattle.follow_laws.specs.Pasts.{FoundAt, IsPast, KeptPast}
pub use Rattle.follow_laws.specs.Unions.{FallsApart, IsTogether, both_keys}
pub use Rattle.follow_laws.specs.Apart.{AreApart}
pub use Rattle.follow_laws.specs.Cuts.{Keys}
pub use Rattle.follow_laws.specs.Forms.{HasForm}
pub use Rattle.follow_laws.specs.KeyedCalls.{IsNoEffect, concerns_key, effect_at, is_refused, keyed}
pub use Rattle.follow_laws.specs.Left.{HasKeysIn, answered, pairs_at}
pub use Rattle.events.proofs.FilterLemmas.{Contains-from_map, Contains-map}
pub use Rattle.events.proofs.Lists.{All-at, All-back, All-from_contains, All-front, AllPairs-across, AllPairs-append, AllPairs-back}
pub use Rattle.events.proofs.Lists.{AllPairs-front, AllPairs-head, AllPairs-nil, AllPairs-tail, Any-first, Any-later, Contains-around}
pub use Rattle.events.proofs.Lists.{Contains-cases, Contains-first, Contains-later, Contains-nil, filter_all}
pub use Rattle.events.proofs.NumberLemmas.{IsSomeAnd-within, some_at}
pub use Rattle.events.proofs.Places.{parts_at}
pub use Rattle.map_object.proofs.ValueLemmas.{same_pairs}
pub use Rattle.map_object.specs.MapObject.{Contents, IsRising, value_at}
pub use Rattle.orders.specs.Orders.{IsLegalCall, IsLinearizable}
pub use Rattle.packed_map.specs.Entries.{entry_if}
pub use Rattle.follow_cuts.specs.PartCuts.{AreCut, AreShaped, IsMade, found_at, kept_of}
pub use Rattle.follow_cuts.specs.declared.past.Found.{Found}
pub use Rattle.follow_cuts.specs.declared.past.Past.{Past}
pub use Rattle.follow_pasts.proofs.AnswerLemmas.{changes_answered, found_as_answered, found_otherwise, has_found, is_the_call, left_no_more}
pub use Rattle.follow_pasts.proofs.AnswerLemmas.{left_with_answer, not_refused, refused_or_not, remove_parts, rising_without, set_parts}
pub use Rattle.follow_pasts.proofs.LeftLemmas.{AreLeftOf, left_answered, left_kept, left_removed, left_same}
pub use Rattle.follow_pasts.proofs.PairLemmas.{more_pairs, packed_same}
pub use Rattle.follow_pasts.proofs.TogetherLemmas.{IsShapedPast}
pub use Rattle.follow_pasts.proofs.UnionLemmas.{IsOfParts, any_here, kept_apart, pairs_rise, same_keys, values_at_some}
pub use Rattle.follow_pasts.specs.Moments.{AreBegunAfter}
pub use Rattle.follow_pasts.specs.Pasts.{AreAlive, AreDoubtful, AreGoneOn, AreLeftAfter, IsAnswerOf, IsDead, IsLeftKept, lefts, lefts_of, lefts_of_kept}
pub use Rattle.follow_pasts.specs.Ranges.{covered, from_to, or_else}
pub use Rattle.follow_pasts.specs.Resting.{AreBusy, AreOnly, AreResting, IsBusyFor, IsOfKey, IsOnly}
pub use Rattle.follow_pasts.specs.Shapes.{AreBesideEachOther, AreBesidePasts, IsPartShaped, IsPastShaped}
pub use Rattle.follow_pasts.specs.Uniting.{Become, IsIn, outside, resting}
pub use Rattle.follow_pasts.specs.Views.{kept_part, past_of}
pub use Rattle.follow_pasts.specs.declared.moments.OpenRead.{OpenRead}
pub use Rattle.follow_pasts.specs.declared.part.Part.{Part}
pub use Rattle.follow_pasts.specs.declared.pasts.GoneOn.{GoneOn}
pub use Rattle.follow_pasts.specs.declared.ranges.Range.{Range}
pub use Rattle.follow_parts.specs.Answering.{HaveGoneOnWith, IsFirst, IsLeftFirst, IsLeftOfOne}
pub use Rattle.follow_parts.specs.Going.{AreEnded, HasOwnPlace, MayBeLeft, MayStand, kept_with}
pub use Rattle.follow_parts.specs.Keeping.{AreReadsOf, AreWithAnswer, HasEndedBy, IsAnswered, IsEndedBy, IsKeptBeside, IsStateOf, begun, is_reported}
pub use Rattle.follow_parts.specs.Keeping.{pasts_of, response_at}
pub use Rattle.follow_parts.specs.Settled.{AreOfLeft, AreThen, AreThoseAlive, IsAliveOrDead, IsKeptSo, IsOfLeft, IsPartFrom, IsParted, IsSettled}
pub use Rattle.follow_parts.specs.Settled.{IsLeftPut, IsSettledWith, IsWithPairs, MayBePut, MovesOn, kept_moved, with_parts}
pub use Rattle.follow_parts.specs.Shapes.{IsBesideReads, IsCallBefore, IsPartBefore, IsPastBefore, IsShaped, MayComeTo}
pub use Rattle.follow_parts.specs.Steps.{AreMet, AreParted, HasGoneIn, IsBegunIn, IsPartOf, IsPartWith, IsReadIn, IsReportedAt, IsTakenOut}
pub use Rattle.follow_pasts.specs.Moments.{HasEnded}
pub use Rattle.follow_pasts.specs.Lists.{AreListed, IsPut, things_of}
pub use Rattle.follow_parts.specs.Table.{IsTakenWith, part_place}
pub use Rattle.follow_parts.specs.Steps.{ReportsNothing}
pub use Rattle.follow_parts.specs.Views.{PartsView, is_at_rest, kept_parts, kept_rest}
pub use Rattle.follow_parts.specs.declared.reading.Read.{Read}
pub use Rattle.follow_parts.specs.declared.settling.Moved.{Moved}
pub use Rattle.follow_parts.specs.declared.state.Answered.{Answered}
pub use Rattle.follow_parts.specs.declared.state.EndedPart.{EndedPart}
