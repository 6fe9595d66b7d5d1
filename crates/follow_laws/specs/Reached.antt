-- What it means that a past of all keys is reached.
use Rattle.std.specs.Prelude.{◌≡◌, ℕ, ◌<◌, true, false, List, ◌∷◌, ◌++◌, Option, All, AllPairs, Contains}
use Rattle.follow_laws.specs.KeyedCalls.{KeyedCall, IsNoEffect, is_completed}
use Rattle.follow_laws.specs.KeyedOrders.{IsKeyedOrder, left_by}
use Rattle.follow_laws.specs.Growth.{HaveGrown}
use Rattle.follow_laws.specs.Choices.{Choice, Agrees, rest_of}
use Rattle.follow_laws.specs.Parts.{Part, AreSomeOf, choices_of, Represent}

-- Some calls lead to a choice, from the values that the keys hold at first. They have an order with
-- all of them. In it the pending ones find what the choice says that they found, and it leaves what
-- the choice holds.
pub record Lead (held : ℕ → Option ℕ) (some : List KeyedCall) (w : Choice) : Type 0 where
  pub order : List KeyedCall
  pub is_order : IsKeyedOrder held some order
  pub all : (a : KeyedCall) → Contains some a → Contains order a
  pub found : (front back : List KeyedCall) (a : KeyedCall) (key : ℕ) → order ≡ front ++ a ∷ back → is_completed a ≡ false
      → w.taken a.inv key ≡ true → left_by key (held key) front ≡ w.found a.inv key
  pub leaves : (key : ℕ) → left_by key (held key) order ≡ w.holds key

-- a pending call fits all values, and was not refused
pub record IsOpen (a : KeyedCall) : Type 0 where
  pub accepted : a.refused ≡ false
  pub fits : (key : ℕ) (value : Option ℕ) → (a.effect key).fits value ≡ true

-- Calls by rising invocation. All calls that a choice took are among them, and nothing of them is left by it.
pub record AreAllTaken (calls some : List KeyedCall) (w : Choice) : Type 0 where
  pub are_some : AreSomeOf w calls some
  pub rising : AllPairs (λ a b. a.inv < b.inv) some
  pub agree : All (Agrees w) some
  pub none : (a : KeyedCall) (key : ℕ) → Contains some a → IsNoEffect ((rest_of w a).effect key)
  pub known : (inv key : ℕ) → w.taken inv key ≡ true → (a : KeyedCall) × Contains calls a × (a.inv ≡ inv) × (a.concerns key ≡ true)

-- each choice of parts that represent the calls is reached: the calls that it took lead to it
abbrev pub ChoicesAreReached : Type 0
ChoicesAreReached =
    (held : ℕ → Option ℕ) (place : ℕ) (calls some : List KeyedCall) (parts : List Part) (w : Choice) → HaveGrown place calls calls
    → ((a : KeyedCall) → Contains calls a → is_completed a ≡ false → IsOpen a) → Represent held place calls parts → choices_of parts w
    → AreAllTaken calls some w → Lead held some w
