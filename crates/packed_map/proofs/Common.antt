-- The names that most proofs of this crate cite, passed on from one place. Declares nothing.
pub use Rattle.std.proofs.Common.{Bool, Err, IfOk, List, None, Ok, OnOk, Option, Result, Some, [], add-one, ap, append-nil, append_assoc, ap₂, arith}
pub use Rattle.std.proofs.Common.{cond, drop, drop-drop, false, filter, get_or, get_or-drop, get_or-take, inl, inr, is_ok, length, length-drop}
pub use Rattle.std.proofs.Common.{length-take, map, refl, set, subst, suc, sym, take, take-append-drop, take_all, true, zero, ℕ, ⊎_elim, ◌++◌, ◌+◌}
pub use Rattle.std.proofs.Common.{◌-◌, ◌<◌, ◌==◌, ◌∙◌, ◌∷◌, ◌≡◌, ◌≢◌, ◌≤◌}
pub use Rattle.std.proofs.lemmas.Bool.{and_parts, cases_Bool, cases_lt, cases_order, cond_both, eq-eqb, eqb-false, eqb-true, false≢true, le-leb}
pub use Rattle.std.proofs.lemmas.Bool.{leb-false, leb-true, lt-ltb, ltb-true, ne_eqb}
pub use Rattle.std.proofs.lemmas.Bool.Decides.{nat_tests}
pub use Rattle.std.proofs.lemmas.List.{get_or_default, map-append}
pub use Rattle.std.proofs.lemmas.List.Concat.{flat_map-append}
pub use Rattle.std.proofs.lemmas.List.Elements.{All-append, All-cons, All-drop, All-head, All-nil, All-tail, All-take, All-weaker, filter-append}
pub use Rattle.std.proofs.lemmas.List.Kept.{AllPairs-cons, AllPairs-filter}
pub use Rattle.std.specs.List.{AllWithin, HoldsAt, insert, remove}
pub use Rattle.std.specs.List.Sorted.{IsNonDecreasingBy, IsPartitionPoint, IsPartitionedBy}
pub use Rattle.std.specs.Option.{IsSome}
pub use Rattle.std.specs.Ordering.{nat_cmp, ordering_index}
pub use Rattle.std.specs.Prelude.{All, AllPairs, Contains, IsTrue, if◌then◌else◌, nat_le, nat_lt, slice_get, ◌↔◌}
pub use Rattle.std.specs.declared.cmp.Ordering.TheVariants.{Equal, Greater, Less}
pub use Rattle.events.proofs.Lists.{All-back, All-front, AllPairs-across, AllPairs-append, AllPairs-back, AllPairs-front, AllPairs-head}
pub use Rattle.events.proofs.Lists.{AllPairs-tail, Contains-cases, Contains-filter, Contains-first, Contains-from_filter, Contains-later}
pub use Rattle.events.proofs.Lists.{Contains-nil, filter_none}
pub use Rattle.events.proofs.Places.{parts_at}
pub use Rattle.packed_map.specs.Edits.{IsEdit}
pub use Rattle.packed_map.specs.Entries.{KeysRise, entry_if, value_at}
pub use Rattle.packed_map.specs.Leaves.{AreLeaves, IsBefore, IsFromLeast, IsLeafOf, StartsAtZero, entries_of}
pub use Rattle.packed_map.specs.Ranges.{is_between, keys_between}
pub use Rattle.packed_map.specs.Splits.{IsCut}
pub use Rattle.packed_map.specs.declared.leaf.Leaf.{Leaf}
