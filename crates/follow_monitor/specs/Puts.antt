-- Which calls a monitor knows that put values.
use Rattle.std.specs.Prelude.{◌≡◌, ◌⊎◌, ◌↔◌, ℕ, ◌^◌, ◌<◌, ◌≤◌, List, ◌∷◌, ◌++◌, length, None, Some, All, AllPairs, Contains, Any}
use Rattle.events.specs.declared.event.Call.{Call}
use Rattle.events.specs.declared.event.Reply.{Reply}
use Rattle.events.specs.declared.operation.Operation.{Operation}
use Rattle.events.specs.declared.operation.Response.{Response}
use Rattle.follow_violations.specs.Puts.{IsPutOf}
use Rattle.follow_violations.specs.declared.puts.Put.{Put}
use Rattle.follow_parts.specs.Keeping.{begun, is_reported}

-- how many are known at most of those that were answered
abbrev pub put_limit : ℕ
put_limit = 2 ^ 16

-- the put of a call, answered at this place
pub record IsAnsweredPut (calls : List Operation) (p : Put) (place : ℕ) : Type 0 where
  pub call : Operation
  pub there : Contains calls call
  pub is : IsPutOf call p
  pub response : Response
  pub answered : call.response ≡ Some response
  pub place_is : response.res ≡ place

-- the puts of the calls that were answered, by rising place of the answer: the last ones, up to a limit
pub record AreLastPuts (limit : ℕ) (calls : List Operation) (puts : List Put) : Type 0 where
  pub within : length puts ≤ limit
  pub each : All (λ p. (place : ℕ) × IsAnsweredPut calls p place) puts
  pub rising : AllPairs (λ p q. (place later : ℕ) → IsAnsweredPut calls p place → IsAnsweredPut calls q later → place < later) puts
  pub whole : (p : Put) (place : ℕ) → IsAnsweredPut calls p place
      → Contains puts p ⊎ ((length puts ≡ limit) × All (λ q. (later : ℕ) → IsAnsweredPut calls q later → place < later) puts)

abbrev pub AreRecentPuts : List Operation → List Put → Type 0
AreRecentPuts = AreLastPuts put_limit

-- a call was answered before a place, if it was
abbrev pub IsAnsweredBefore : ℕ → Operation → Type 0
IsAnsweredBefore place o = (response : Response) → o.response ≡ Some response → response.res < place

-- the last puts become those with the answer of a call, which comes after all other answers
abbrev pub BecomeWithAnswer : ℕ → Call → ℕ → Reply → List Put → List Put → Type 0
BecomeWithAnswer limit call inv reply puts nexts =
    (front back : List Operation) (place : ℕ) → AllPairs (λ a b. a.inv < b.inv) (front ++ begun call inv ∷ back)
    → All (IsAnsweredBefore place) (front ++ back) → AreLastPuts limit (front ++ begun call inv ∷ back) puts
    → AreLastPuts limit (front ++ is_reported (begun call inv) reply place ∷ back) nexts

-- the puts of the calls that are pending, by rising invocation
pub record ArePendingPuts (calls : List Operation) (puts : List Put) : Type 0 where
  pub each : (p : Put) → Contains puts p ↔ Any (λ o. (o.response ≡ None) × IsPutOf o p) calls
  pub rising : AllPairs (λ p q. p.event < q.event) puts

-- the puts that are known where a stream goes wrong: those, and after them those of the calls that are pending
pub record ArePutsOf (calls : List Operation) (puts : List Put) : Type 0 where
  pub recent : List Put
  pub pending : List Put
  pub parts : puts ≡ recent ++ pending
  pub are_recent : AreRecentPuts calls recent
  pub are_pending : ArePendingPuts calls pending
