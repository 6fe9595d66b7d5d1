-- Orders of histories with neither starting pairs nor a replace. Nothing here mentions either.
use Rattle.events.specs.declared.event.Reply.TheVariants as replies
use Rattle.std.specs.Prelude.{◌≡◌, ◌≢◌, ◌⊎◌, ◌++◌, ◌∷◌, ℕ, ◌<◌, List, [], length, Option, Some, None, All, AllPairs, Contains, ⊤}
use Rattle.events.specs.declared.event.Call.{Call}
use Rattle.events.specs.declared.event.Call.TheVariants.{Get, Insert, Remove, Scan}
use Rattle.events.specs.declared.event.Reply.{Reply}
use Rattle.events.specs.declared.operation.Operation.{Operation}
use Rattle.events.specs.declared.operation.Response.{Response}
use Rattle.map_object.specs.MapObject.{Contents, value_at, below, above, within, value_reply}
use Rattle.orders.specs.Orders.{calls_at, KeepsPrecedence, IsCompletedAt}

-- the four calls that a plain history has: each has this answer, and leaves these pairs
abbrev pub DoesPlain : Contents → Call → Reply → Contents → Type 0
DoesPlain m (Get key) reply next = (reply ≡ value_reply (value_at m key)) × (next ≡ m)
DoesPlain m (Insert key value) reply next = (reply ≡ value_reply (value_at m key)) × (next ≡ below key m ++ (key, value) ∷ above key m)
DoesPlain m (Remove key) reply next = (reply ≡ value_reply (value_at m key)) × (next ≡ below key m ++ above key m)
DoesPlain m (Scan low high) reply next = (reply ≡ replies.Pairs (within low high m)) × (next ≡ m)
DoesPlain m _ reply next = ⊥

-- a completed call gives its recorded reply, or was refused and changed nothing; a pending one
-- gives some reply
abbrev pub DoesPlainCall : Contents → Call → Option Response → Contents → Type 0
DoesPlainCall m call None next = (reply : Reply) × DoesPlain m call reply next
DoesPlainCall m call (Some response) next = ((response.reply ≡ replies.Refused) × (next ≡ m)) ⊎ DoesPlain m call response.reply next

-- calls that are done one after another, from m on
abbrev pub AreDonePlainly : Contents → List Operation → Type 0
AreDonePlainly m [] = ⊤
AreDonePlainly m (a ∷ calls) = (next : Contents) × DoesPlainCall m a.call a.response next × AreDonePlainly next calls

-- an order of plain calls: they are done one after another, from the empty map on
pub record IsPlainOrder (calls : List Operation) (order : List ℕ) : Type 0 where
  pub known : All (λ n. n < length calls) order
  pub distinct : AllPairs (λ m n. m ≢ n) order
  pub precedence : KeepsPrecedence (calls_at calls order)
  pub done : AreDonePlainly [] (calls_at calls order)
  pub complete : (n : ℕ) → IsCompletedAt calls n → Contains order n
