-- Laws of what goes wrong on its own.
use Rattle.std.specs.Prelude.{◌≡◌, ◌≢◌, ◌⊎◌, ℕ, ◌<◌, true, List, Option, Some, All, AllPairs, Any, Contains, IsTrue}
use Rattle.events.specs.declared.event.Call.{Call}
use Rattle.events.specs.declared.event.Event.{Event}
use Rattle.events.specs.declared.operation.Operation.{Operation}
use Rattle.events.specs.Operations.{operations}
use Rattle.events.specs.Precedence.{NonePrecedesItself, is_completed}
use Rattle.map_object.specs.MapObject.{Contents, IsRising, value_at}
use Rattle.orders.specs.Orders.{IsLegal, IsLinearizable, KeepsPrecedence, after_calls}
use Rattle.follow_pasts.specs.Pasts.{IsDead}
use Rattle.follow_pasts.specs.Ranges.{covered}
use Rattle.follow_parts.specs.Keeping.{IsKeptBeside, pasts_of}
use Rattle.follow_parts.specs.declared.state.EndedPart.{EndedPart}
use Rattle.follow_violations.specs.declared.loss.Violation.{Violation}
use Rattle.follow_violations.specs.declared.lost_keys.KeyViolation.{KeyViolation}
use Rattle.follow_violations.specs.declared.lost_keys.Origin.{Origin}
use Rattle.follow_violations.specs.declared.puts.Put.{Put}
use Rattle.follow_violations.specs.KeyLosses.{AreKeyLosses, HasKey, IsOwnKey}
use Rattle.follow_violations.specs.OwnParts.{KeyCore, key_core}
use Rattle.follow_violations.specs.Puts.{IsPutOf}

-- calls of the events, by rising invocation, that have no order from these pairs
pub record IsOwnPartOf (events : List Event) (part : KeyCore) : Type 0 where
  pub none : IsLinearizable part.start part.calls → ⊥
  pub sorted : IsRising part.start
  pub rising : AllPairs (λ a b. a.inv < b.inv) part.calls
  pub apart : NonePrecedesItself part.calls
  pub are : All (Contains (operations events)) part.calls

-- what goes wrong on its own is so, if the part and others represent the calls of the events, and its pasts have no order
abbrev pub OwnPartsHaveNoOrder : Type 0
OwnPartsHaveNoOrder =
    (start : Contents) (place : ℕ) (events : List Event) (loss : Violation) (part : KeyCore) → IsKeptBeside start place (operations events) loss.part
    → All IsDead (pasts_of loss.part) → key_core loss ≡ Some part → IsOwnPartOf events part

-- What is said of a key may be so if calls of these invocations are left in some past. Some of the calls have a legal order that keeps precedence
-- and leaves the value, or none, at the key. Some of the invocations are left after this order: no call of it has one. Each answered call of the key
-- is in the order, or is left after it. A call that is said to have put the value is in the order, and puts it. A later call of the order may put it
-- again.
pub record MayHave (start : Contents) (calls : List Operation) (key : ℕ) (left : List ℕ) (origin : Origin) : Type 0 where
  pub order : List Operation
  pub left_after : List ℕ
  pub known : (o : Operation) → Contains order o → Contains calls o
  pub distinct : AllPairs (λ a b. a.inv ≢ b.inv) order
  pub precedence : KeepsPrecedence order
  pub legal : IsLegal start order
  pub leaves : value_at (after_calls start order) key ≡ origin.value
  pub some : All (Contains left) left_after
  pub taken : (o : Operation) → Contains order o → Contains left_after o.inv → ⊥
  pub whole : (o : Operation) → Contains calls o → IsTrue (is_completed o) → HasKey o key → Contains order o ⊎ Contains left_after o.inv
  pub writer : (value event : ℕ) → origin.value ≡ Some value → origin.put ≡ Some event
      → (o : Operation) × Contains order o × IsPutOf o (record { key = key; value = value; event = event })

-- Suppose that a part and others represent the calls, and that the puts are those of some of the calls. Then all that is said of the part's
-- keys may be so, with those calls left that have the key. These are keys of the part.
abbrev pub ValuesAreReached : Type 0
ValuesAreReached =
    (start : Contents) (place : ℕ) (calls : List Operation) (ended : EndedPart) (own : Option Call) (puts : List Put) (losses : List KeyViolation)
    → IsRising start → IsKeptBeside start place calls ended → ((key : ℕ) → IsOwnKey own key → covered ended.ranges.items key ≡ true)
    → All (λ p. Any (λ o. IsPutOf o p) calls) puts → AreKeyLosses own (pasts_of ended) puts losses
    → All (λ loss. (covered ended.ranges.items loss.key ≡ true) × All (MayHave start calls loss.key loss.invoked.items) loss.from.items) losses
