-- What is kept of the calls so far: parts, each of some keys with the pasts that these may have. A past is a choice, and only the part's keys
-- count. So what is known of one part does not depend on what became of the others.
use Rattle.std.specs.Prelude.{◌≡◌, ◌⊎◌, ℕ, true, false, List, map, All, AllPairs, Contains, Option}
use Rattle.follow_laws.specs.KeyedCalls.{KeyedCall, is_completed}
use Rattle.follow_laws.specs.KeyedOrders.{HasKeyedOrder, AreDistinct}
use Rattle.follow_laws.specs.Growth.{HaveGrown}
use Rattle.follow_laws.specs.Choices.{Choice, Choices, rest_of, GoesOn, LoseNoOrder}
use Rattle.follow_laws.specs.Cuts.{Keys, IsWithin}
use Rattle.follow_laws.specs.Apart.{only, AreApart, IsRead}

-- keys that have their pasts in common, and those pasts
pub record Part : Type 0 where
  pub keys : Keys
  pub pasts : List Choice

-- at some keys, a choice is this past: the same calls are taken there and found the same, and the keys hold the same
pub record IsAt (keys : Keys) (past w : Choice) : Type 0 where
  pub taken : (inv key : ℕ) → keys key ≡ true → w.taken inv key ≡ past.taken inv key
  pub found : (inv key : ℕ) → keys key ≡ true → past.taken inv key ≡ true → w.found inv key ≡ past.found inv key
  pub holds : (key : ℕ) → keys key ≡ true → w.holds key ≡ past.holds key

-- at some keys, one of these pasts
abbrev pub IsOneOf : Keys → List Choice → Choice → Type 0
IsOneOf keys pasts w = (past : Choice) × Contains pasts past × IsAt keys past w

-- the choices of parts: at the keys of each, one of its pasts
abbrev pub choices_of : List Part → Choices
choices_of parts w = All (λ part. IsOneOf part.keys part.pasts w) parts

-- each key is one part's, and no other's
pub record ShareKeys (parts : List Part) : Type 0 where
  pub apart : AllPairs (λ part other. AreApart part.keys other.keys) parts
  pub every : (key : ℕ) → (part : Part) × Contains parts part × (part.keys key ≡ true)

-- some of the calls, with all that a choice took
pub record AreSomeOf (w : Choice) (calls some : List KeyedCall) : Type 0 where
  pub from : (a : KeyedCall) → Contains some a → Contains calls a
  pub taken : (a : KeyedCall) (key : ℕ) → Contains calls a → w.taken a.inv key ≡ true → Contains some a
  pub distinct : AreDistinct some

-- Each of some choices is reached. Whatever events follow, take all calls that the choice took, and
-- any others. If the choice goes on to an order of these calls, they have an order. So the calls
-- that it took, without any others, have an order that leads to it.
abbrev pub AreReached : (ℕ → Option ℕ) → ℕ → List KeyedCall → Choices → Type 0
AreReached held place calls choices =
    (more some : List KeyedCall) (w : Choice) → HaveGrown place calls more → choices w → AreSomeOf w more some → GoesOn w some
    → HasKeyedOrder held some

-- parts represent the calls so far, whatever events follow: their choices are above the calls, and
-- each of them is reached
pub record Represent (held : ℕ → Option ℕ) (place : ℕ) (calls : List KeyedCall) (parts : List Part) : Type 0 where
  pub shared : ShareKeys parts
  pub above : LoseNoOrder held place calls (choices_of parts)
  pub reached : AreReached held place calls (choices_of parts)

-- what is left of a call at some keys
abbrev pub left_at : Keys → Choice → KeyedCall → KeyedCall
left_at keys past a = only keys (rest_of past a)

-- a call that was taken at these keys fits what it found there, and was not refused
pub record AgreesAt (keys : Keys) (past : Choice) (a : KeyedCall) : Type 0 where
  pub accepted : (key : ℕ) → keys key ≡ true → past.taken a.inv key ≡ true → a.refused ≡ false
  pub fits : (key : ℕ) → keys key ≡ true → past.taken a.inv key ≡ true → (a.effect key).fits (past.found a.inv key) ≡ true

-- at these keys, whatever the others hold, a past goes on to an order of the calls
abbrev pub GoesOnAt : Keys → Choice → List KeyedCall → Type 0
GoesOnAt keys past calls = All (AgreesAt keys past) calls × HasKeyedOrder past.holds (map (left_at keys past) calls)

abbrev pub SomePastGoesOn : List KeyedCall → Part → Type 0
SomePastGoesOn calls part = (past : Choice) × Contains part.pasts past × GoesOnAt part.keys past calls

-- As far as it is left, a call concerns keys of only one part. Calls that were refused and pending
-- reads are excepted.
abbrev pub IsOfOnePart : List Part → Choice → KeyedCall → Type 0
IsOfOnePart parts w a =
    (a.refused ≡ true)
    ⊎ ((is_completed a ≡ false) × IsRead a)
    ⊎ ((part : Part) × Contains parts part × IsWithin part.keys (rest_of w a))

abbrev pub AreOfOnePart : List Part → List KeyedCall → Type 0
AreOfOnePart parts calls = (w : Choice) (a : KeyedCall) → choices_of parts w → Contains calls a → IsOfOnePart parts w a
