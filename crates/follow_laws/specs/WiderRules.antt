-- Rules that go further than the laws, and are false.
use Rattle.std.specs.Prelude.{◌≡◌, ◌⊎◌, ℕ, true, List, map, Option, All, Contains}
use Rattle.follow_laws.specs.KeyedCalls.{KeyedCall, IsFormed, is_completed, precedes}
use Rattle.follow_laws.specs.KeyedOrders.{AreKeyedCalls, HasKeyedOrder}
use Rattle.follow_laws.specs.Growth.{HaveGrown}
use Rattle.follow_laws.specs.Choices.{Choice, among, GoesOn, SomeGoesOn, LoseNoOrder, AddNoOrder}
use Rattle.follow_laws.specs.Cuts.{Keys, IsWithin, IsOutside}
use Rattle.follow_laws.specs.Apart.{only, other_keys, IsQuiet, IsRead}

-- that what goes on to an order now goes on to one with further events
abbrev pub AliveStaysAlive : Type 0
AliveStaysAlive = (place : ℕ) (calls more : List KeyedCall) (w : Choice) → HaveGrown place calls more → GoesOn w calls → GoesOn w more

-- that there is an order if a choice above goes on to one
abbrev pub YesFromAbove : Type 0
YesFromAbove =
    (held : ℕ → Option ℕ) (place : ℕ) (calls : List KeyedCall) (choices : ℕ → Option Choice) → HaveGrown place calls calls
    → LoseNoOrder held place calls (among choices) → SomeGoesOn (among choices) calls → HasKeyedOrder held calls

-- that there is none if no choice below goes on to one
abbrev pub NoFromBelow : Type 0
NoFromBelow =
    (held : ℕ → Option ℕ) (place : ℕ) (calls : List KeyedCall) (choices : ℕ → Option Choice) → HaveGrown place calls calls
    → AddNoOrder held place calls (among choices) → (SomeGoesOn (among choices) calls → ⊥) → HasKeyedOrder held calls → ⊥

-- that only completed calls disturb a scan, and pending ones do not
abbrev pub IsUndisturbedByCompleted : Keys → List KeyedCall → KeyedCall → Type 0
IsUndisturbedByCompleted keys calls s =
    (a : KeyedCall) (key : ℕ) → Contains calls a → is_completed a ≡ true → keys key ≡ true → s.concerns key ≡ true
    → IsQuiet a key ⊎ (precedes a s ≡ true) ⊎ (precedes s a ≡ true)

abbrev pub PartsByCompleted : Keys → List KeyedCall → KeyedCall → Type 0
PartsByCompleted keys calls s = IsWithin keys s ⊎ IsOutside keys s ⊎ (IsRead s × IsUndisturbedByCompleted keys calls s)

abbrev pub CompletedCallsSuffice : Type 0
CompletedCallsSuffice =
    (held : ℕ → Option ℕ) (keys : Keys) (calls : List KeyedCall) → AreKeyedCalls calls → All IsFormed calls
    → All (PartsByCompleted keys calls) calls → HasKeyedOrder held (map (only keys) calls)
    → HasKeyedOrder held (map (only (other_keys keys)) calls) → HasKeyedOrder held calls
