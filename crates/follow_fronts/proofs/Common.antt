-- The names that most proofs of this crate cite, passed on from one place. Declares nothing.
pub use Rattle.std.proofs.Common.{Bool, List, None, Option, Some, [], ap, arith, drop, false, get_or, length, nat_lt, refl, reverse, set, subst, sym}
pub use Rattle.std.proofs.Common.{take, true, ℕ, ⊎_elim, ◌++◌, ◌+◌, ◌-◌, ◌<◌, ◌∙◌, ◌∷◌, ◌≡◌, ◌≤◌}
pub use Rattle.std.proofs.lemmas.Bool.{both_ways, cases_lt, cases_order}
pub use Rattle.std.proofs.lemmas.List.{append-nil, append_assoc, get_or-reverse, get_or_default, length-append, length-map, length-reverse}
pub use Rattle.std.proofs.lemmas.List.{map-append, reverse-append, take-append-le, take_all, take_at, take_more}
pub use Rattle.std.proofs.lemmas.List.Elements.{All-contains, All-head, All-push, Contains-append_cases, Contains-append_left, Contains-append_right}
pub use Rattle.std.proofs.lemmas.List.Elements.{Contains-push, Contains-push_cases}
pub use Rattle.std.proofs.lemmas.Option.{same_Some, slice_get-map, slice_get_read, slice_get_within}
pub use Rattle.std.specs.Prelude.{All, AllPairs, Contains, IsSomeAnd, IsTrue, is_some, option_map, slice_get, slice_index_or, ◌↔◌, ◌≢◌, ◌⊎◌}
pub use Rattle.memo.proofs.FrontLemmas.{IsFront-front, IsFront-next, IsNext, IsNext-from_front, IsOrder-from_front}
pub use Rattle.memo.specs.Fronts.{IsFront, PrecedesAt}
pub use Rattle.events.specs.Precedence.{NonePrecedesItself, is_before, is_completed, precedes}
pub use Rattle.events.specs.declared.operation.Operation.{Operation}
pub use Rattle.events.proofs.Lists.{All-at, All-back, All-front, AllPairs-across, AllPairs-at, AllPairs-front, Contains-first, Contains-later}
pub use Rattle.events.proofs.Lists.{Contains-nil, place-push, slice_get-append_left, slice_get-middle}
pub use Rattle.map_object.specs.MapObject.{Contents}
pub use Rattle.orders.proofs.OrderLemmas.{IsCompletedAt-below, after_calls-push}
pub use Rattle.orders.specs.Orders.{IsCompletedAt, IsLegalCall, IsOrder, after_call, after_calls, calls_at}
pub use Rattle.search.specs.Standing.{pairs_after}
pub use Rattle.follow_fronts.specs.Closed.{IsClosed}
pub use Rattle.follow_fronts.specs.Standing.{IsFromOn, IsUndone, Stands, IsStateBut, places}
pub use Rattle.follow_fronts.specs.declared.front.Front.{Front}
pub use Rattle.follow_fronts.specs.declared.front.Level.{Level}
