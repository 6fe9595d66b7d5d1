-- The names that most proofs of this crate cite, passed on from one place. Declares nothing.
pub use Rattle.std.proofs.Common.{Bool, IfOk, List, None, Option, Result, Some, [], ap, arith, cond, false, get_or, if◌then◌else◌, inl, inr, length}
pub use Rattle.std.proofs.Common.{map, not, refl, subst, suc, sym, take, true, zero, ℕ, ⊎_elim, ◌&&◌, ◌*◌, ◌++◌, ◌+◌, ◌-◌, ◌<◌, ◌==◌, ◌∙◌, ◌∷◌, ◌≡◌}
pub use Rattle.std.proofs.Common.{◌≤◌}
pub use Rattle.std.proofs.lemmas.Bool.{and_from, and_parts, eq-eqb, eqb-true, false≢true, le-leb, le-ltb, leb-true, lt-ltb, ltb-false, ltb-true}
pub use Rattle.std.proofs.lemmas.Bool.{or_cases, true_from_ne_false}
pub use Rattle.std.proofs.lemmas.List.{append-nil, append_assoc, length-append, length-map, map_more}
pub use Rattle.std.proofs.lemmas.List.Elements.{All-cons, All-contains, All-nil, Contains-append_right}
pub use Rattle.std.proofs.lemmas.List.Sums.{count_by-le-length, length-filter}
pub use Rattle.std.proofs.lemmas.Option.{IfSome_then, get_or_from_slice_get, same_Some, slice_get-get_or, slice_get-map, slice_get_read}
pub use Rattle.std.proofs.lemmas.Option.{slice_get_within}
pub use Rattle.std.specs.List.{cons_option, filter_map, range_with_len}
pub use Rattle.std.specs.Prelude.{All, AllPairs, Contains, IfSome, IsSomeAnd, MatchBool, count_by, filter, min, nat_le, nat_lt, option_map, slice_get}
pub use Rattle.std.specs.Prelude.{slice_index, slice_index_or, ◌||◌, ◌≢◌}
pub use Rattle.events.specs.Events.{process_of}
pub use Rattle.events.specs.Histories.{AreHistoryEvents, is_small}
pub use Rattle.events.specs.Operations.{operation_of, operations, operations_from, response_from}
pub use Rattle.events.specs.declared.event.Event.{Event}
pub use Rattle.events.specs.declared.event.Event.TheVariants.{Answer, Invoke}
pub use Rattle.events.specs.declared.operation.Operation.{Operation}
pub use Rattle.events.specs.declared.operation.Response.{Response}
pub use Rattle.judge.specs.declared.verdict.Verdict.{Verdict}
pub use Rattle.events.proofs.FilterLemmas.{AllPairs-map, Contains-from_map}
pub use Rattle.events.proofs.Lists.{All-at, All-from_contains, AllPairs-at, AllPairs-from_at, AllPairs-head, AllPairs-tail, Contains-at}
pub use Rattle.events.proofs.Lists.{Contains-cases, Contains-filter, Contains-first, Contains-from_filter, Contains-later, Contains-nil}
pub use Rattle.events.proofs.Lists.{Contains-range, filter_none, length-distinct, place-push, slice_get-middle}
pub use Rattle.merge_orders.proofs.PlacedLemmas.{latest, latest-more}
pub use Rattle.merge_orders.proofs.PointLemmas.{not_before_point, point_in-at, point_in-invocation, point_in-is, point_in-rises}
pub use Rattle.merge_orders.specs.Merge.{point_in}
pub use Rattle.draw_picture.specs.Bars.{AreBarsOf, AreSpansOf, IsBarOf}
pub use Rattle.draw_picture.specs.Few.{FewHaveFewColumns, IsFewOf, IsNarrowedTo, few_room, is_of_named, named_bar, named_marks, stands_out}
pub use Rattle.draw_picture.specs.Lanes.{has_events}
unfoldable pub use Rattle.draw_picture.specs.Lanes.{lanes}
pub use Rattle.draw_picture.specs.Marks.{AreMarksOf, IsInside, IsMarkAt, IsMarkable}
pub use Rattle.draw_picture.specs.Viewports.{IsPartOf, IsShownOf, IsViewportAround, IsViewportOf, MarksStayInside, RanksRise, bar_in, bars_in, column_of}
pub use Rattle.draw_picture.specs.Viewports.{columns_of, cut_end, end_of, ends_from, event_meant, event_shown, is_whole, meets, rank, ranked_bar}
pub use Rattle.draw_picture.specs.Viewports.{room_for, start_of, viewport_from}
pub use Rattle.draw_picture.specs.declared.picture.Bar.{Bar}
pub use Rattle.draw_picture.specs.declared.picture.Mark.{Mark}
