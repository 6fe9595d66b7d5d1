-- The names that most proofs of this crate cite, passed on from one place. Declares nothing.
pub use Rattle.std.proofs.Common.{Bool, List, None, Option, Some, [], ap, append-nil, arith, cond, false, inl, inr, length, map, nat_le, nat_lt, not}
pub use Rattle.std.proofs.Common.{refl, subst, suc, sym, true, zero, ℕ, ⊎_elim, ◌&&◌, ◌++◌, ◌+◌, ◌<◌, ◌==◌, ◌||◌, ◌∙◌, ◌∷◌, ◌≡◌, ◌≤◌}
pub use Rattle.std.proofs.lemmas.Bool.{and_from, and_parts, cases_eq, eq-eqb, eqb-true, false_from_ne_true, false≢true, le-leb, leb-true, lt-ltb}
pub use Rattle.std.proofs.lemmas.Bool.{ltb-false, ltb-true, ne_eqb, not-false, not-true, not_from_false, not_from_true, or_cases, or_from, or_left}
pub use Rattle.std.proofs.lemmas.Bool.{or_right}
pub use Rattle.std.proofs.lemmas.List.{append_assoc, map-append}
pub use Rattle.std.proofs.lemmas.List.Elements.{All-append, All-cons, All-contains, All-head, All-map, All-nil, All-tail, All-weaker}
pub use Rattle.std.proofs.lemmas.List.Elements.{Contains-append_cases, Contains-append_left, Contains-append_right}
pub use Rattle.std.proofs.lemmas.List.Kept.{AllPairs-cons, AllPairs-filter}
pub use Rattle.std.proofs.lemmas.Option.{none-some, same_Some}
pub use Rattle.std.specs.List.{AllZip, list_any}
pub use Rattle.std.specs.Prelude.{All, AllPairs, Any, Contains, IsTrue, filter, is_some, slice_get, ⊤, ◌↔◌, ◌≢◌, ◌⊎◌}
pub use Rattle.call_effects.proofs.ValueLemmas.{IsOut, after_call_cases, rising_kept, same_within, value_left, within_bounds, within_rises}
pub use Rattle.call_effects.specs.Values.{value_after, value_after_reply}
pub use Rattle.events.proofs.FilterLemmas.{AllPairs-filter_map, AllPairs-from_filter_map, AllPairs-from_map, AllPairs-map, AllPairs-weaker}
pub use Rattle.events.proofs.FilterLemmas.{AreRelatedAs, Contains-filter_map, Contains-from_filter_map, Contains-from_map, Contains-map}
pub use Rattle.events.proofs.Lists.{All-back, All-from_contains, All-front, AllPairs-across, AllPairs-append, AllPairs-back, AllPairs-front}
pub use Rattle.events.proofs.Lists.{AllPairs-head, AllPairs-nil, AllPairs-tail, Contains-around, Contains-at, Contains-cases, Contains-filter}
pub use Rattle.events.proofs.Lists.{Contains-first, Contains-from_filter, Contains-later, Contains-nil, Contains-split, filter_all, filter_none}
pub use Rattle.events.proofs.Lists.{place_of-Contains}
pub use Rattle.events.proofs.TimeLemmas.{NonePrecedesItself-operations, inv-at_least, inv_rises, same_number}
pub use Rattle.events.specs.Keys.{high_key, low_key, may_change}
pub use Rattle.events.specs.Operations.{operation_of, operations, operations_from, response_from}
pub use Rattle.events.specs.Precedence.{is_before}
pub use Rattle.events.specs.declared.event.Call.{Call}
pub use Rattle.events.specs.declared.event.Call.TheVariants.{Get, Insert, Remove, Replace, Scan}
pub use Rattle.events.specs.declared.event.Reply.{Reply}
pub use Rattle.events.specs.declared.operation.Operation.{Operation}
pub use Rattle.events.specs.declared.operation.Response.{Response}
pub use Rattle.map_object.specs.MapObject.{Contents, IsAllOrPartOf, IsLegalReply, IsRising, above, after, after_reply, below, is_just, put, reply_to}
pub use Rattle.map_object.specs.MapObject.{value_at, value_reply, within}
pub use Rattle.orders.specs.Orders.{IsLegal, IsLegalCall, IsLinearizable, IsOrder, after_call, after_calls, calls_at}
pub use Rattle.follow_laws.specs.Apart.{AreAlike, AreApart, AreParts, IsAlikeAt, IsQuiet, IsRead, IsUndisturbed, Parts, only, other_keys}
pub use Rattle.follow_laws.specs.CallLaws.{AnsweredCallsAreLeft, AnsweredReadsAreLeft, BegunCallsAreLeft, CallsWithoutEffectAreTaken, LeftCallsPart}
pub use Rattle.follow_laws.specs.CallLaws.{LeftCallsUnite, NothingIsLeft, OtherCallsAreAnswered, OtherCallsBegin, RefusedCallsAreNotLeft}
pub use Rattle.follow_laws.specs.CallLaws.{TakenCallsAreAnswered}
pub use Rattle.follow_laws.specs.Choices.{AddNoOrder, Agrees, Choice, GoesOn, LoseNoOrder, SomeGoesOn, among, at_first, rest_of}
pub use Rattle.follow_laws.specs.Cuts.{IsOutside, IsWithin, Keys, has_call}
pub use Rattle.follow_laws.specs.EffectLaws.{AboveIsNoYes, AlikeCallsDecide, AliveMayDie, BelowIsNoNo, CallsGrow, ChoicesBegin, ChoicesJudge}
pub use Rattle.follow_laws.specs.EffectLaws.{ChoicesStay, DeadChoicesGo, DeadChoicesStayDead, EffectsDecide, GrowthGoesOn, OrdersAreKeyedOrders}
pub use Rattle.follow_laws.specs.EffectLaws.{PartsJudge, PendingCallsDisturb, SetsOfKeysJudge, SomeKeysRefute}
pub use Rattle.follow_laws.specs.Events.{AllIsKept, AreAfterAnswer, ChangesAreAnswered, ChangesBegin, FoundAsAnswered, FoundOtherwise, IsAfterAnswer}
pub use Rattle.follow_laws.specs.Events.{IsLeftNoMore, IsLeftWithAnswer, IsWithRead, ReadsAreAnswered, ReadsAtRestAreTaken, ReadsBegin}
pub use Rattle.follow_laws.specs.Events.{ReadsWithoutReportAreTaken, with_begun}
pub use Rattle.follow_laws.specs.Forms.{ArePairsOf, HasForm, HaveForms}
pub use Rattle.follow_laws.specs.Growth.{HaveGrown, IsAnsweredAs, IsLater, LeaveTheSame}
pub use Rattle.follow_laws.specs.KeptCuts.{AlikePastsGo, AlikePastsStand, AreOwnOrBarredBy, IsBarredBy, PastsComeNext, PastsInAnyOrder}
pub use Rattle.follow_laws.specs.KeptCuts.{PastsWithoutOrderGo, ReadsOfPastsComeNext, UnbarredPastsComeNext}
pub use Rattle.follow_laws.specs.KeptParts.{AreCallsBefore, AreKept, IsKeptAs, IsOfCalls, IsOwn, KeptPart, at_rest}
pub use Rattle.follow_laws.specs.KeptSteps.{DeadPastsAreLost, IsKnownIn, IsWithinKeys, KeptPartsDecide, KeptPartsFallApart, KeptPartsUnite}
pub use Rattle.follow_laws.specs.KeptSteps.{KeptPastsAreWithin, OpenChangesAreKept, PartGoesOn, PartsMove, PastsInAnyOrderAreKept, PastsMoveOn}
pub use Rattle.follow_laws.specs.KeptSteps.{ReadsBeganAfter}
pub use Rattle.follow_laws.specs.KeyedCalls.{Effect, IsFormed, IsNoEffect, KeyedCall, concerns_key, effect_at, effect_of_key, ends_before, is_answer}
pub use Rattle.follow_laws.specs.KeyedCalls.{is_completed, is_refusal, is_refused, is_same_value, keyed, no_effect, place_of, point_effect, precedes}
pub use Rattle.follow_laws.specs.KeyedCalls.{read_of, told_effect}
pub use Rattle.follow_laws.specs.KeyedOrders.{AreDistinct, AreKeyedCalls, FitInTurn, HasKeyedOrder, IsKeyedOrder, KeepPrecedence, left_by}
pub use Rattle.follow_laws.specs.Laws.{CallsAreKnown, CallsComeNext, DeadPastsGo, EarlyReadsGain, OperationsComeNext, OperationsDecide}
pub use Rattle.follow_laws.specs.Laws.{OperationsMayCome, PartsBegin, PartsDecide, PartsInAnyOrder, PartsMayBeTied, PartsStay, PartsUnite}
pub use Rattle.follow_laws.specs.Laws.{PastsMayStay, ReadsAreTakenAtRest, ReadsComeNext, TiedCallsMayWait, UnbarredCallsComeNext}
pub use Rattle.follow_laws.specs.Left.{AreTogether, HasKeysIn, HasNoKeyIn, HaveKeysTogether, HaveTheirKeys, IsLeft, IsNotTakenAt, IsTakenAt, answered}
pub use Rattle.follow_laws.specs.Left.{pairs_at}
pub use Rattle.follow_laws.specs.Operations.{AreAllLeft, AreLeftCalls, AreOfLeftCalls, HasSomeKeyIn, OperationMayCome, without_call}
pub use Rattle.follow_laws.specs.Parts.{AgreesAt, AreOfOnePart, AreSomeOf, GoesOnAt, IsAt, IsOfOnePart, IsOneOf, Part, Represent, ShareKeys}
pub use Rattle.follow_laws.specs.Parts.{SomePastGoesOn, choices_of, left_at}
pub use Rattle.follow_laws.specs.PastEvents.{AnsweredCallsAreKept, AnsweredReadsAreKept, BegunCallsAreKept, NothingIsKept, OthersAreAnswered}
pub use Rattle.follow_laws.specs.PastEvents.{OthersBegin, RefusedCallsAreNotKept, RefusedReadsAreNotKept, TakenCallsAgree, TakenCallsDisagree}
pub use Rattle.follow_laws.specs.PastEvents.{UntoldReadsAreTaken}
pub use Rattle.follow_laws.specs.Pasts.{AreAllKept, AreFound, AreKeptAlike, ArePasts, ArePointsOrAnswered, FoundAt, IsLeftOrFound, IsNameKept}
pub use Rattle.follow_laws.specs.Pasts.{IsOpenRead, IsPast, IsPastAfter, KeptPast, OpenReadsBeganAfter, found_by}
pub use Rattle.follow_laws.specs.Reached.{AreAllTaken, ChoicesAreReached, IsOpen, Lead}
pub use Rattle.follow_laws.specs.Steps.{AreJoined, AreKnownAt, AreOwnOrBarred, ArePartedBefore, IsAfterCall, IsAtRest, IsBarredAt, IsLeftAt, IsReadAt}
pub use Rattle.follow_laws.specs.Steps.{MayComeNext, NoneIsLeftAt}
pub use Rattle.follow_laws.specs.Unions.{ArePairs, FallsApart, IsTogether, PastsFallApart, PastsUnite, both_keys}
