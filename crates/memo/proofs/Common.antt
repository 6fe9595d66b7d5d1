-- The names that most proofs of this crate cite, passed on from one place. Declares nothing.
pub use Rattle.std.proofs.Common.{Bool, Err, List, None, Ok, Option, Result, Some, [], ap, ap₂, arith, cond, drop, eqb, false, get_or}
pub use Rattle.std.proofs.Common.{get_or-set_other, get_or-set_same, inl, inr, is_none, length, length-set, ltb-true, map, max, not, option_map, refl}
pub use Rattle.std.proofs.Common.{replicate, rules, set, subst, sym, take, true, w64, zero-add, ℕ, ⊎_elim, ◌%◌, ◌*◌, ◌++◌, ◌+◌, ◌-◌, ◌/◌, ◌<◌, ◌^◌}
pub use Rattle.std.proofs.Common.{◌∙◌, ◌∷◌, ◌≡◌, ◌≤◌}
pub use Rattle.std.proofs.lemmas.Bool.{both_ways, cases_Bool, cases_eq, cases_lt, cases_order, eq-eqb, eqb-true}
pub use Rattle.std.proofs.lemmas.Bool.Decides.{Decides-and, Decides-at, Decides-eqb, Decides-ltb, Decides-not, Decides-or, nat_tests}
pub use Rattle.std.proofs.lemmas.List.{drop_all, drop_more, ext_get_or, get_or-drop, get_or-replicate, get_or_past, get_or_read, length-append}
pub use Rattle.std.proofs.lemmas.List.{length-map, length-replicate, map-append, take_all, take_rest}
pub use Rattle.std.proofs.lemmas.List.Elements.{All-cons, All-contains, All-head, All-nil, All-push, All-tail, All-weaker, Contains-append_cases}
pub use Rattle.std.proofs.lemmas.List.Elements.{Contains-append_left, Contains-append_right, filter_passes}
pub use Rattle.std.proofs.lemmas.List.FromFn.{get_or-map-range_with_len, length-map-range_with_len, map-range_with_len_more}
pub use Rattle.std.proofs.lemmas.List.Kept.{AllPairs-cons, AllPairs-filter, AllPairs-from_increasing, IsStrictlyIncreasing-filter}
pub use Rattle.std.proofs.lemmas.Nat.{div-add-mod', mul-mod_first, or_lt, pow_pos, shr-shr}
pub use Rattle.std.proofs.lemmas.Nat.Bits.{bit_at-lt, bit_at-trailing_ones, bit_at-zero, bit_at_above, bit_at_cat_high, bit_at_cat_low, bit_at_ones}
pub use Rattle.std.proofs.lemmas.Nat.Bits.{bit_at_or, bit_at_set_other, bit_at_set_same, same_from_bits_below}
pub use Rattle.std.proofs.lemmas.Option.{get_or_from_slice_get, slice_get-map, slice_get_read, slice_get_within}
pub use Rattle.std.specs.Bool.{Decides}
pub use Rattle.std.specs.Int.{bit_at, trailing_ones}
pub use Rattle.std.specs.List.{list_any, range_with_len, sum_by}
pub use Rattle.std.specs.List.Sorted.{IsStrictlyIncreasing}
pub use Rattle.std.specs.Prelude.{All, AllPairs, Contains, IfOk, IsSomeAnd, IsTrue, OnErr, bit_or, bit_xor, filter, if◌then◌else◌, is_some, nat_lt}
pub use Rattle.std.specs.Prelude.{slice_get, ◌&&◌, ◌==◌, ◌↔◌, ◌≢◌, ◌⊎◌}
pub use Rattle.std.specs.Vec.{vec_len}
pub use Rattle.events.proofs.Lists.{All-from_contains, AllPairs-append, AllPairs-nil, Contains-cases, Contains-filter, Contains-first}
pub use Rattle.events.proofs.Lists.{Contains-from_filter, Contains-later, Contains-nil, Contains-range}
pub use Rattle.map_object.proofs.MapLemmas.{AreAbove-first, IsRising-insert, IsRising-remove, IsRising-rest, value_at_above}
pub use Rattle.map_object.proofs.ValueLemmas.{first_value, later_value, same_pairs}
pub use Rattle.map_object.specs.MapObject.{Contents, IsRising, above, below, put, value_at}
pub use Rattle.memo.specs.Configurations.{Configuration}
pub use Rattle.memo.specs.Differences.{IsDifference, differs, put_all, value_from, value_gone, value_put, with_value}
unfoldable pub use Rattle.memo.specs.Differences.{pairs_from}
pub use Rattle.memo.specs.Digest.{HasDigest, digest_of, mix_pair, mix_place, mix_value}
unfoldable pub use Rattle.memo.specs.Digest.{mix}
pub use Rattle.memo.specs.Equality.{Decides-is_same, Decides-is_same_pair, is_same}
pub use Rattle.memo.specs.Kept.{Decides-is_kept_same, IsKept, Kept, configuration_from, is_kept_same, is_kept_same-equivalence, kept_of, same_kept}
pub use Rattle.memo.specs.Changes.{changed}
pub use Rattle.memo.specs.Taking.{MayTake, after_one, pairs_left, with_place}
pub use Rattle.memo.specs.Visits.{configurations_from}
pub use Rattle.memo.specs.Words.{ArePlaces, AreWords, IsTrimmed, bit_of, is_among, shifted_word}
unfoldable pub use Rattle.memo.specs.Words.{places_of}
