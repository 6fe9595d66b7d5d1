-- The names that most proofs of this crate cite, passed on from one place. Declares nothing.
pub use Rattle.std.proofs.Common.{Bool, List, Some, [], ap, ap₂, arith, false, get_or, length, refl, subst, sym, take, true, ℕ, ⊎_elim, ◌++◌, ◌+◌}
pub use Rattle.std.proofs.Common.{◌<◌, ◌∙◌, ◌∷◌, ◌≡◌, ◌≤◌}
pub use Rattle.std.proofs.lemmas.Bool.{both_ways, cases_lt, cases_order, false_from_ne_true}
pub use Rattle.std.proofs.lemmas.List.Elements.{All-append, All-contains, All-head, All-tail, Contains-append_left, Contains-append_right}
pub use Rattle.std.proofs.lemmas.List.Elements.{Contains-push, Contains-push_cases}
pub use Rattle.std.proofs.lemmas.Option.{get_or_from_slice_get, slice_get-get_or, slice_get_read}
pub use Rattle.std.specs.Prelude.{All, AllPairs, Contains, IsSomeAnd, IsTrue, map, slice_get, slice_index, ◌↔◌, ◌≢◌}
pub use Rattle.memo.proofs.FrontLemmas.{IsFront-from_order, IsLegalOrder-from_front}
pub use Rattle.events.specs.Precedence.{NonePrecedesItself, is_completed, precedes}
pub use Rattle.events.specs.declared.operation.Operation.{Operation}
pub use Rattle.follow_fronts.specs.Standing.{HasBelow, Stands, places}
pub use Rattle.events.proofs.Lists.{All-at, All-from_contains, AllPairs-append, AllPairs-at, AllPairs-from_at, AllPairs-nil, Contains-at}
pub use Rattle.events.proofs.Lists.{Contains-nil, place_before-Contains, place_of-Contains}
pub use Rattle.orders.proofs.OrderLemmas.{IsCompletedAt-below, IsLegal-append, calls_at-append, calls_at-more}
pub use Rattle.orders.specs.Orders.{IsCompletedAt, IsLegal, IsOrder, KeepsPrecedence, after_calls, calls_at}
pub use Rattle.follow_repairs.specs.Searching.{AreLeft}
