-- The names that most proofs of this crate cite, passed on from one place. Declares nothing.
pub use Rattle.std.proofs.Common.{Bool, List, None, Option, Some, [], ap, arith, cond, drop, false, filter, get_or, inl, inr, is_some, length, map}
pub use Rattle.std.proofs.Common.{not, refl, subst, sym, take, true, ℕ, ⊎_elim, ◌&&◌, ◌++◌, ◌+◌, ◌-◌, ◌<◌, ◌==◌, ◌∙◌, ◌∷◌, ◌≡◌, ◌≤◌}
pub use Rattle.std.proofs.lemmas.Bool.{and_from, and_parts, cases_Bool, eq-eqb, eqb-false, eqb-true, le-leb, leb-true, not-true}
pub use Rattle.std.proofs.lemmas.List.{drop_more, get_or_default, map_push, take_all, take_more}
pub use Rattle.std.proofs.lemmas.List.Elements.{All-cons, All-contains, All-head, All-nil, All-push, All-tail, All-weaker, Contains-append_left}
pub use Rattle.std.proofs.lemmas.List.Elements.{Contains-append_right, Contains-get_or, Contains-push, Contains-push_cases}
pub use Rattle.std.proofs.lemmas.List.Filters.{dedup_is}
pub use Rattle.std.proofs.lemmas.List.Kept.{AllPairs-from_increasing, Contains-dedup, Contains-dedup_nat, Contains-from_dedup}
pub use Rattle.std.proofs.lemmas.List.Sorted.{Contains-permutation, IsPermutation-sym}
pub use Rattle.std.proofs.lemmas.Map.Keys.{IsStrictlyIncreasing-dedup}
pub use Rattle.std.proofs.lemmas.Option.{none-some, same_Some}
pub use Rattle.std.proofs.lemmas.Result.{IfOk-weaker, on_ok_weaker}
pub use Rattle.std.specs.List.{dedup, list_any}
pub use Rattle.std.specs.Prelude.{All, AllPairs, Any, Contains, if◌then◌else◌, nat_le, ◌↔◌, ◌≢◌, ◌⊎◌}
pub use Rattle.events.proofs.FilterLemmas.{AllPairs-from_map, Contains-from_map, Contains-map}
pub use Rattle.events.proofs.Lists.{All-from_contains, Any-first, Any-later, Contains-filter, Contains-first, Contains-from_filter, Contains-nil}
pub use Rattle.events.specs.Keys.{high_key, low_key, may_change}
pub use Rattle.events.specs.declared.event.Call.{Call}
pub use Rattle.events.specs.declared.event.Call.TheVariants.{Get, Insert, Remove, Replace, Scan}
pub use Rattle.events.specs.declared.operation.Operation.{Operation}
pub use Rattle.events.specs.declared.operation.Response.{Response}
pub use Rattle.follow_cuts.specs.PartCuts.{found_at, kept_of}
pub use Rattle.follow_cuts.specs.declared.past.Past.{Past}
pub use Rattle.follow_laws.proofs.KeptPartLemmas.{IsKeptFirst, first_of}
pub use Rattle.follow_laws.specs.Cuts.{Keys}
pub use Rattle.follow_laws.specs.KeptParts.{IsOwn, KeptPart}
pub use Rattle.follow_laws.specs.KeyedCalls.{concerns_key, keyed}
pub use Rattle.follow_laws.specs.Pasts.{ArePasts, FoundAt, IsPast, KeptPast}
pub use Rattle.follow_parts.specs.Keeping.{IsKeptBeside, pasts_of}
pub use Rattle.follow_pasts.specs.Ranges.{covered}
pub use Rattle.map_object.specs.MapObject.{Contents, IsRising, after, put, value_at}
pub use Rattle.follow_violations.specs.Collecting.{AreAdded, AreAddedOf, AreSpansOf, DiffersWithin, GivesDiffering, IsNotedOnce, IsSpanAt, IsSpanIn}
pub use Rattle.follow_violations.specs.Collecting.{IsSpanOf, ListsOther, Names, NamesIn, is_put_before, last_put, origin_in, put_in, span_of}
pub use Rattle.follow_violations.specs.KeyLosses.{AreKeyLosses, HasKey, IsKeyLoss, IsLastPut, IsNamed, IsOnlyKey, IsOriginIn, IsOwnKey, IsPutBefore}
pub use Rattle.follow_violations.specs.KeyLosses.{IsPutBy, ReportsOther, pairs_in, reported_by}
pub use Rattle.follow_violations.specs.Laws.{IsOwnPartOf, MayHave, OwnPartsHaveNoOrder, ValuesAreReached}
pub use Rattle.follow_violations.specs.declared.lost_keys.KeyViolation.{KeyViolation}
pub use Rattle.follow_violations.specs.declared.lost_keys.Origin.{Origin}
pub use Rattle.follow_violations.specs.declared.puts.Put.{Put}
