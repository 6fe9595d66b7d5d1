-- The names that most proofs of this crate cite, passed on from one place. Declares nothing.
pub use Rattle.std.proofs.Common.{List, Some, [], ap, ap₂, arith, false, inl, inr, length, map, refl, rules, subst, suc, sym, take, zero, ℕ, ⊎_elim}
pub use Rattle.std.proofs.Common.{◌++◌, ◌<◌, ◌∙◌, ◌∷◌, ◌≡◌, ◌≤◌}
pub use Rattle.std.proofs.lemmas.List.Elements.{All-append, All-cons, All-contains, All-head, All-nil, All-tail, All-weaker, Contains-append_right}
pub use Rattle.std.proofs.lemmas.Option.{none-some, same_Some, slice_get_within}
pub use Rattle.std.proofs.lemmas.Result.{IfOk-weaker, on_ok_weaker}
pub use Rattle.std.specs.List.{AllZip}
pub use Rattle.std.specs.Prelude.{All, Contains, slice_get, ◌≢◌, ◌⊎◌}
pub use Rattle.events.specs.Operations.{operations}
pub use Rattle.events.specs.declared.operation.Operation.{Operation}
pub use Rattle.history_text.specs.Texts.{list_data, number_data}
pub use Rattle.events.proofs.Lists.{Contains-first, Contains-later, length-distinct, length-distinct_below}
pub use Rattle.map_object.specs.MapObject.{Contents}
pub use Rattle.orders.specs.Orders.{IsLinearizable, IsOrder, after_calls, calls_at}
pub use Rattle.search.specs.Exact.{IsExactAnswer}
pub use Rattle.search.specs.declared.found.Found.{Found}
pub use Rattle.search.specs.declared.found.Found.TheVariants.{NoOrder, Order, Spent}
pub use Rattle.orders.specs.SegmentOrders.{HasNoOrder, IsOrderOf, numbers_at}
pub use Rattle.orders.specs.SegmentView.{SegmentView}
pub use Rattle.orders.specs.Segments.{AreSegments, IsSegment}
pub use Rattle.serde_json.specs.View.{items_of, view}
pub use Rattle.serde_json.specs.Written.{compact_text, has_float, items_have_float}
pub use Rattle.judge.specs.Answers.{IsFirstAt, orders_in}
pub use Rattle.judge.specs.Exact.{AreSameVerdict, IsExactNo, IsExactUndecided, IsExactVerdict, IsExactYes, IsOrdered, IsOrderedBy, IsOrderedOrSpent}
pub use Rattle.judge.specs.Exact.{IsRefuted, IsSpent}
pub use Rattle.judge.specs.Reports.{verdict_data}
pub use Rattle.judge.specs.Shows.{HasOrder, IsBeyond, IsUnrefuted, ShowsNo, ShowsUndecided, ShowsYes}
pub use Rattle.judge.specs.declared.verdict.Verdict.{Verdict}
pub use Rattle.judge.specs.declared.verdict.Verdict.TheVariants.{No, Undecided, Yes}
