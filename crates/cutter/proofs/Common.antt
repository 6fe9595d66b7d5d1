-- The names that most proofs of this crate cite, passed on from one place. Declares nothing.
pub use Rattle.std.proofs.Common.{List, Some, [], ap, append_assoc, arith, drop, eqb, false, get_or, inl, inr, leb, length, ltb, map, max, refl}
pub use Rattle.std.proofs.Common.{rules, subst, sym, take, true, ℕ, ⊎_elim, ◌&&◌, ◌++◌, ◌+◌, ◌<◌, ◌∙◌, ◌∷◌, ◌≡◌, ◌≤◌}
pub use Rattle.std.proofs.lemmas.Bool.{and_from, and_left, and_right, both_ways, cases_Bool, cases_lt, eqb-false, eqb-true, false_from_ne_true}
pub use Rattle.std.proofs.lemmas.Bool.{false≢true, le-leb, le-ltb, lt-leb, lt-ltb, ne_eqb, or_cases, or_left}
pub use Rattle.std.proofs.lemmas.List.{get_or-drop, length-drop, length-map, length-take, length-take-le, map-append, nil_from_length}
pub use Rattle.std.proofs.lemmas.List.{take-append-drop, take_more}
pub use Rattle.std.proofs.lemmas.List.Elements.{All-append, All-contains, All-head, All-map, All-push, All-tail, All-take, All-weaker}
pub use Rattle.std.proofs.lemmas.List.Elements.{Contains-append_cases, Contains-append_left, Contains-append_right, Contains-get_or, Contains-push}
pub use Rattle.std.proofs.lemmas.List.Elements.{Contains-push_cases}
pub use Rattle.std.proofs.lemmas.List.Sorted.{All-permutation, Contains-permutation, IsNonDecreasingBy-from_sort, IsNonDecreasingBy-from_sort_by_key}
pub use Rattle.std.proofs.lemmas.List.Sorted.{IsPermutation-map, IsPermutation-sym, length_permutation}
pub use Rattle.std.proofs.lemmas.Option.{same_Some, slice_get-get_or, slice_get_read, slice_get_within}
pub use Rattle.std.specs.List.Sorted.{IsNonDecreasing, IsNonDecreasingBy, IsStrictlyIncreasing}
pub use Rattle.std.specs.Prelude.{All, AllPairs, Any, Contains, IsPermutation, slice_get, ◌≢◌, ◌⊎◌}
pub use Rattle.events.specs.Keys.{high_key, low_key, may_change}
pub use Rattle.events.specs.Operations.{operations}
pub use Rattle.events.specs.Precedence.{belongs, is_completed}
pub use Rattle.events.specs.declared.operation.Operation.{Operation}
pub use Rattle.events.proofs.FilterLemmas.{AllPairs-from_map, AllPairs-map, AllPairs-weaker, Contains-filter_map, Contains-from_filter_map}
pub use Rattle.events.proofs.FilterLemmas.{Contains-from_map, Contains-map}
pub use Rattle.events.proofs.Lists.{All-back, All-from_contains, All-front, AllPairs-at, AllPairs-back, AllPairs-front, AllPairs-head}
pub use Rattle.events.proofs.Lists.{AllPairs-tail, Contains-at, Contains-cases, Contains-first, Contains-later, Contains-nil}
pub use Rattle.events.proofs.Lists.{place_before-Contains}
pub use Rattle.events.proofs.NumberLemmas.{greatest_bound, greatest_is, greatest_more, slice_get-below}
pub use Rattle.events.specs.Lists.{greatest, least}
pub use Rattle.map_object.specs.MapObject.{Contents}
pub use Rattle.orders.specs.Orders.{IsLinearizable, calls_at}
pub use Rattle.orders.proofs.SegmentViewLemmas.{keys_in_order-operations}
pub use Rattle.orders.specs.Cuts.{AreTogether, BelongsAt, IsCut, Separates, spans}
pub use Rattle.orders.specs.SegmentView.{SegmentView, segment_of}
pub use Rattle.orders.specs.Segments.{AreSegments, IsSegment}
pub use Rattle.cutter.specs.KeyRanges.{AreApart, AreChained, AreRanges, GoesOver, IsRangeOf, range_with}
pub use Rattle.cutter.specs.declared.key_range.KeyRange.{KeyRange}
