-- What becomes of calls with further events: pending ones may be answered, and others begin.
use Rattle.std.specs.Prelude.{◌≡◌, ◌⊎◌, ℕ, ◌<◌, ◌≤◌, true, false, List, Option, Some, All, Contains}
use Rattle.follow_laws.specs.KeyedCalls.{KeyedCall, Effect, IsFormed, is_completed}
use Rattle.follow_laws.specs.KeyedOrders.{AreDistinct, AreKeyedCalls}

-- an answer says what values a call may have met; what the call leaves stays the same
abbrev pub LeaveTheSame : Effect → Effect → Type 0
LeaveTheSame e f = (value : Option ℕ) → f.leaves value ≡ e.leaves value

-- a pending call fits all values; answered, it leaves what it would have left, unless it was refused
pub record IsAnsweredAs (place : ℕ) (a b : KeyedCall) : Type 0 where
  pub pending : is_completed a ≡ false
  pub accepted : a.refused ≡ false
  pub fits : (key : ℕ) (value : Option ℕ) → (a.effect key).fits value ≡ true
  pub later : (res : ℕ) → b.res ≡ Some res → place ≤ res
  pub does : b.refused ≡ false → (key : ℕ) → LeaveTheSame (a.effect key) (b.effect key)

-- a call after further events; the first of these is at this place
pub record IsLater (place : ℕ) (a b : KeyedCall) : Type 0 where
  pub inv : b.inv ≡ a.inv
  pub concerns : (key : ℕ) → b.concerns key ≡ a.concerns key
  pub response : (b ≡ a) ⊎ IsAnsweredAs place a b

-- calls after further events: the old ones, answered or not, and such as began later
pub record HaveGrown (place : ℕ) (calls more : List KeyedCall) : Type 0 where
  pub begun : All (λ a. a.inv < place) calls
  pub ended : (a : KeyedCall) (res : ℕ) → Contains calls a → a.res ≡ Some res → res < place
  pub stay : (a : KeyedCall) → Contains calls a → (b : KeyedCall) × Contains more b × IsLater place a b
  pub come : (b : KeyedCall) → Contains more b → ((a : KeyedCall) × Contains calls a × IsLater place a b) ⊎ (place ≤ b.inv)
  pub alone : AreDistinct calls
  pub formed : All IsFormed more
  pub apart : AreKeyedCalls more
