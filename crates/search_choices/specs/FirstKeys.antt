-- Keys that have a call that goes first: if what is left has an order, it has one that begins with
-- a call of one of them. Such calls are what Valmari 1991 calls a stubborn set and Godefroid 1996 a
-- persistent one: no call of another key changes whether they may come next.
use Rattle.std.specs.Prelude.{◌≡◌, ◌≢◌, ◌⊎◌, ℕ, ◌≤◌, List, [], ◌∷◌, ◌++◌, Option, Some, slice_get, Contains}
use Rattle.events.specs.declared.event.Call.{Call}
use Rattle.events.specs.declared.event.Reply.{Reply}
use Rattle.events.specs.declared.operation.Operation.{Operation}
use Rattle.events.specs.declared.operation.Response.{Response}
use Rattle.events.specs.Precedence.{NonePrecedesItself}
use Rattle.map_object.specs.MapObject.{Contents, IsRising, value_at}
use Rattle.call_effects.specs.Values.{IsCallOf}
use Rattle.memo.proofs.FrontLemmas.{IsNext}
use Rattle.search.specs.Remaining.{IsEarliestAnswer}
use Rattle.search.specs.Standing.{pairs_after}
use Rattle.search_choices.specs.Idle.{IsVain}
use Rattle.search_choices.specs.Dead.{IsLeftBy, HasListed}
use Rattle.search_choices.specs.Reads.{HasOrderAfter}
use Rattle.search_choices.specs.Standing.{AreNext}

-- a call of one of these keys; a scan is none
abbrev pub IsCallOfOne : List ℕ → Call → Type 0
IsCallOfOne keys call = (key : ℕ) × Contains keys key × IsCallOf key call

-- a scan over one of these keys listed pairs
abbrev pub IsScanOfOne : List ℕ → Call → Reply → Type 0
IsScanOfOne keys call reply = (key : ℕ) × (value : Option ℕ) × Contains keys key × HasListed key value call reply

-- a scan missed a key: it reported that the key had another value, or none, than the map has
pub record IsMissed (m : Contents) (key : ℕ) (call : Call) (reply : Reply) : Type 0 where
  pub value : Option ℕ
  pub listed : HasListed key value call reply
  pub differs : value_at m key ≢ value

-- a key of a range has another value, or none, in a map than among some pairs
pub record Differs (m : Contents) (low high : ℕ) (pairs : Contents) (key : ℕ) : Type 0 where
  pub above : low ≤ key
  pub below : key ≤ high
  pub differs : value_at m key ≢ value_at pairs key

-- one of these keys does
abbrev pub OneDiffers : Contents → ℕ → ℕ → Contents → List ℕ → Type 0
OneDiffers m low high pairs keys = (key : ℕ) × Contains keys key × Differs m low high pairs key

-- a scan missed one of these keys
abbrev pub MissesOne : Contents → List ℕ → Call → Reply → Type 0
MissesOne m keys call reply = (key : ℕ) × Contains keys key × IsMissed m key call reply

-- a call that is left and was answered at this place is a call of one of these keys, or missed one
pub record HasAnswered (m : Contents) (calls : List Operation) (path : List ℕ) (answered : ℕ) (keys : List ℕ) : Type 0 where
  pub n : ℕ
  pub call : Operation
  pub response : Response
  pub here : slice_get calls n ≡ Some call
  pub new : Contains path n → ⊥
  pub is_answered : call.response ≡ Some response
  pub at : response.res ≡ answered
  pub concerned : IsCallOfOne keys call.call ⊎ MissesOne m keys call.call response.reply

-- each scan that is left, begins no later than the place, and listed pairs over one of these keys
-- missed one of them
abbrev pub AllMissOne : Contents → List Operation → List ℕ → ℕ → List ℕ → Type 0
AllMissOne m calls path answered keys =
    (n : ℕ) (p : Operation) (r : Response) → IsLeftBy calls path answered n p → p.response ≡ Some r → IsScanOfOne keys p.call r.reply
    → MissesOne m keys p.call r.reply

-- the keys that have a call that goes first, if the earliest answer is at this place
pub record AreFirstKeys (m : Contents) (calls : List Operation) (path : List ℕ) (answered : ℕ) (keys : List ℕ) : Type 0 where
  pub first : HasAnswered m calls path answered keys
  pub scans : AllMissOne m calls path answered keys

-- what is left has an order that begins with a call of one of these keys
pub record BeginsWithOne (start : Contents) (calls : List Operation) (path keys : List ℕ) : Type 0 where
  pub n : ℕ
  pub call : Operation
  pub here : slice_get calls n ≡ Some call
  pub of_one : IsCallOfOne keys call.call
  pub next : IsNext start calls path n
  pub goes_on : HasOrderAfter start calls (path ++ n ∷ [])

-- what is left has such an order, if it has one
abbrev pub FewKeysGoFirst : Type 0
FewKeysGoFirst =
    (start : Contents) (calls : List Operation) (path : List ℕ) (answered : ℕ) (keys : List ℕ) → IsRising start → NonePrecedesItself calls
    → IsEarliestAnswer calls path (Some answered) → AreFirstKeys (pairs_after start calls path) calls path answered keys
    → HasOrderAfter start calls path → BeginsWithOne start calls path keys

-- the calls of these keys among those that may come next, pending ones too, but for those that would change nothing
pub record AreNextOfOne (start : Contents) (calls : List Operation) (path keys rest : List ℕ) : Type 0 where
  pub next : AreNext start calls path rest
  pub all : (n : ℕ) (a : Operation) → slice_get calls n ≡ Some a → IsCallOfOne keys a.call → IsNext start calls path n
      → Contains rest n ⊎ IsVain (pairs_after start calls path) calls n
