-- What a part of an order may have led to: which calls took effect at which keys, what they found there, and what the keys hold now. The others
-- go on from there.
use Rattle.std.specs.Prelude.{◌≡◌, ℕ, Bool, true, false, not, ◌&&◌, if◌then◌else◌, List, Option, Some, All, map}
use Rattle.follow_laws.specs.KeyedCalls.{KeyedCall, no_effect}
use Rattle.follow_laws.specs.KeyedOrders.{HasKeyedOrder}
use Rattle.follow_laws.specs.Growth.{HaveGrown}

-- calls are named by the places of their invocations
pub record Choice : Type 0 where
  pub taken : ℕ → ℕ → Bool
  pub found : ℕ → ℕ → Option ℕ
  pub holds : ℕ → Option ℕ

-- before any call
abbrev pub at_first : (ℕ → Option ℕ) → Choice
at_first held = record { taken = λ inv key. false; found = λ inv key. held key; holds = held }

-- what is left of a call: nothing at the keys where it was taken
abbrev pub rest_of : Choice → KeyedCall → KeyedCall
rest_of w a = record {
  inv = a.inv;
  res = a.res;
  refused = a.refused;
  concerns = λ key. not (w.taken a.inv key) && a.concerns key;
  effect = λ key. if w.taken a.inv key then no_effect else a.effect key;
}

-- a call that was taken at a key fits what it found there, and was not refused
pub record Agrees (w : Choice) (a : KeyedCall) : Type 0 where
  pub accepted : (key : ℕ) → w.taken a.inv key ≡ true → a.refused ≡ false
  pub fits : (key : ℕ) → w.taken a.inv key ≡ true → (a.effect key).fits (w.found a.inv key) ≡ true

-- a choice goes on to an order of the calls
abbrev pub GoesOn : Choice → List KeyedCall → Type 0
GoesOn w calls = All (Agrees w) calls × HasKeyedOrder w.holds (map (rest_of w) calls)

-- a set of choices, by what it is to be in it
abbrev pub Choices : Type 1
Choices = Choice → Type 0

-- one that is listed, endlessly perhaps
abbrev pub among : (ℕ → Option Choice) → Choices
among listed w = (n : ℕ) × (listed n ≡ Some w)

abbrev pub SomeGoesOn : Choices → List KeyedCall → Type 0
SomeGoesOn choices calls = (w : Choice) × choices w × GoesOn w calls

-- choices are above the calls: whatever events follow, if the calls have an order, some choice goes
-- on to one. So if none does, there is no order.
abbrev pub LoseNoOrder : (ℕ → Option ℕ) → ℕ → List KeyedCall → Choices → Type 0
LoseNoOrder held place calls choices = (more : List KeyedCall) → HaveGrown place calls more → HasKeyedOrder held more → SomeGoesOn choices more

-- choices are below the calls: whatever events follow, if some choice goes on to an order, the
-- calls have one
abbrev pub AddNoOrder : (ℕ → Option ℕ) → ℕ → List KeyedCall → Choices → Type 0
AddNoOrder held place calls choices = (more : List KeyedCall) → HaveGrown place calls more → SomeGoesOn choices more → HasKeyedOrder held more
