-- Sets of keys by which calls are cut into parts, and the calls that concern only keys of such a set, or only others.
use Rattle.std.specs.Prelude.{◌≡◌, ℕ, ◌==◌, Bool, true, false, List}
use Rattle.std.specs.List.{list_any}
use Rattle.follow_laws.specs.KeyedCalls.{KeyedCall}

-- a set of keys
abbrev pub Keys : Type 0
Keys = ℕ → Bool

-- a call concerns only keys of the set, or only others
abbrev pub IsWithin : Keys → KeyedCall → Type 0
IsWithin keys a = (key : ℕ) → keys key ≡ false → a.concerns key ≡ false

abbrev pub IsOutside : Keys → KeyedCall → Type 0
IsOutside keys a = (key : ℕ) → keys key ≡ true → a.concerns key ≡ false

-- whether a call of this name is among some
abbrev pub has_call : List KeyedCall → ℕ → Bool
has_call calls inv = list_any (λ a. a.inv == inv) calls
