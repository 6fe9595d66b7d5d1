-- Dead ends that are seen without a search: a call reported a value that its key does not have, and
-- that no call which is left puts there before it.
use Rattle.events.specs.declared.event.Reply.TheVariants as replies
use Rattle.std.specs.Prelude.{◌≡◌, ◌≢◌, ◌⊎◌, ℕ, ◌≤◌, List, Option, Some, None, slice_get, Contains}
use Rattle.events.specs.declared.event.Call.{Call}
use Rattle.events.specs.declared.event.Call.TheVariants.{Get, Insert, Remove, Scan, Replace}
use Rattle.events.specs.declared.event.Reply.{Reply}
use Rattle.events.specs.declared.operation.Operation.{Operation}
use Rattle.events.specs.declared.operation.Response.{Response}
use Rattle.map_object.specs.MapObject.{Contents, IsRising, value_at, value_reply}
use Rattle.call_effects.specs.Replies.{IsRead}
use Rattle.call_effects.specs.Values.{IsCallOf}
use Rattle.search.specs.Standing.{pairs_after}
use Rattle.search_choices.specs.Reads.{HasOrderAfter}

-- a call may put a value at a key, or none: an insert of the value, a replace by it, a removal
abbrev pub Puts : ℕ → Option ℕ → Call → Type 0
Puts key value (Get own) = ⊥
Puts key value (Insert own new) = (own ≡ key) × (value ≡ Some new)
Puts key value (Remove own) = (own ≡ key) × (value ≡ None)
Puts key value (Scan low high) = ⊥
Puts key value (Replace own expected new) = (own ≡ key) × (value ≡ Some new)

-- a call that is left, and begins no later than a place
pub record IsLeftBy (calls : List Operation) (path : List ℕ) (place n : ℕ) (p : Operation) : Type 0 where
  pub here : slice_get calls n ≡ Some p
  pub new : Contains path n → ⊥
  pub begins : p.inv ≤ place

-- none of these puts the value, or none, at the key: each that may was answered that it changed
-- nothing
abbrev pub IsUnput : List Operation → List ℕ → ℕ → ℕ → Option ℕ → Type 0
IsUnput calls path place key value = (n : ℕ) (p : Operation) → IsLeftBy calls path place n p → Puts key value p.call → IsRead p

-- a call of a key reported that it found a value there, or none
pub record HasFound (key : ℕ) (value : Option ℕ) (call : Call) (reply : Reply) : Type 0 where
  pub of_key : IsCallOf key call
  pub found : reply ≡ value_reply value

-- a scan over a key listed pairs in which the key has a value, or none
pub record HasListed (key : ℕ) (value : Option ℕ) (call : Call) (reply : Reply) : Type 0 where
  pub low : ℕ
  pub high : ℕ
  pub pairs : Contents
  pub scan : call ≡ Scan low high
  pub listed : reply ≡ replies.Pairs pairs
  pub above : low ≤ key
  pub below : key ≤ high
  pub found : value_at pairs key ≡ value

-- a call reported that a key had a value, or none
abbrev pub Reports : ℕ → Option ℕ → Call → Reply → Type 0
Reports key value call reply = HasFound key value call reply ⊎ HasListed key value call reply

-- A call that is left is stuck. It reported that a key had a value, or none, which the key does not
-- have. No call that is left and begins no later than its answer puts that there. The call itself
-- is one of these: if it puts what it found, it changes nothing.
pub record IsStuck (m : Contents) (calls : List Operation) (path : List ℕ) (n : ℕ) : Type 0 where
  pub call : Operation
  pub response : Response
  pub key : ℕ
  pub value : Option ℕ
  pub here : slice_get calls n ≡ Some call
  pub new : Contains path n → ⊥
  pub answered : call.response ≡ Some response
  pub reports : Reports key value call.call response.reply
  pub missing : value_at m key ≢ value
  pub unput : IsUnput calls path response.res key value

-- if a call is stuck, what is left has no order
abbrev pub StuckCallsAreDeadEnds : Type 0
StuckCallsAreDeadEnds =
    (start : Contents) (calls : List Operation) (path : List ℕ) (n : ℕ) → IsRising start → IsStuck (pairs_after start calls path) calls path n
    → HasOrderAfter start calls path → ⊥

-- a call that is left, another than this one, reported that a key had a value, or none, and was
-- answered at this place
pub record IsReported (calls : List Operation) (path : List ℕ) (other key : ℕ) (value : Option ℕ) (place : ℕ) : Type 0 where
  pub n : ℕ
  pub call : Operation
  pub response : Response
  pub here : slice_get calls n ≡ Some call
  pub new : Contains path n → ⊥
  pub differs : n ≢ other
  pub answered : call.response ≡ Some response
  pub at : response.res ≡ place
  pub reports : Reports key value call.call response.reply
