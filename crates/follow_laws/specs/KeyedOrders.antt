-- Orders of calls as the keys see them: Herlihy and Wing 1990, section 2, where objects are judged one by one. Each call fits at each key what
-- those before it left there.
use Rattle.std.specs.Prelude.{◌≡◌, ◌≢◌, ℕ, true, false, List, [], ◌∷◌, Option, All, AllPairs, Contains, ⊤}
use Rattle.follow_laws.specs.KeyedCalls.{KeyedCall, is_completed, precedes}

-- calls, one after another, fit at a key, from this value, or none
abbrev pub FitInTurn : ℕ → Option ℕ → List KeyedCall → Type 0
FitInTurn key value [] = ⊤
FitInTurn key value (a ∷ calls) = ((a.effect key).fits value ≡ true) × FitInTurn key ((a.effect key).leaves value) calls

-- what calls leave at a key
abbrev pub left_by : ℕ → Option ℕ → List KeyedCall → Option ℕ
left_by key value [] = value
left_by key value (a ∷ calls) = left_by key ((a.effect key).leaves value) calls

-- no two of them have one invocation
abbrev pub AreDistinct : List KeyedCall → Type 0
AreDistinct calls = AllPairs (λ a b. a.inv ≢ b.inv) calls

-- no later call precedes an earlier one
abbrev pub KeepPrecedence : List KeyedCall → Type 0
KeepPrecedence calls = AllPairs (λ a b. precedes b a ≡ false) calls

-- an order of the calls, if the keys hold these values at first: it has each completed call, and any pending ones
pub record IsKeyedOrder (held : ℕ → Option ℕ) (calls order : List KeyedCall) : Type 0 where
  pub known : (a : KeyedCall) → Contains order a → Contains calls a
  pub distinct : AreDistinct order
  pub precedence : KeepPrecedence order
  pub complete : (a : KeyedCall) → Contains calls a → is_completed a ≡ true → Contains order a
  pub fit : (key : ℕ) → FitInTurn key (held key) order

abbrev pub HasKeyedOrder : (ℕ → Option ℕ) → List KeyedCall → Type 0
HasKeyedOrder held calls = (order : List KeyedCall) × IsKeyedOrder held calls order

-- calls of a history have invocations of their own, and none precedes itself
pub record AreKeyedCalls (calls : List KeyedCall) : Type 0 where
  pub distinct : AreDistinct calls
  pub last : All (λ a. precedes a a ≡ false) calls
