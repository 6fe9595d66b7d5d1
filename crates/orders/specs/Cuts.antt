-- Cuts between keys, and the calls that no cut separates.
use Rattle.std.specs.Prelude.{◌≡◌, ◌⊎◌, ℕ, ◌<◌, ◌≤◌, Bool, false, ◌&&◌, nat_lt, nat_le, IsTrue, IsSomeAnd, List, slice_get, All}
use Rattle.events.specs.declared.event.Call.{Call}
use Rattle.events.specs.declared.operation.Operation.{Operation}
use Rattle.events.specs.Precedence.{is_completed, belongs}
use Rattle.events.specs.Keys.{low_key, high_key}

-- whether a call is a completed scan of keys on both sides of c
abbrev pub spans : ℕ → Operation → Bool
spans c a = is_completed a && (nat_lt (low_key a.call) c && nat_le c (high_key a.call))

-- a cut: no completed scan spans it
pub record IsCut (calls : List Operation) (c : ℕ) : Type 0 where
  pub positive : 1 ≤ c
  pub clear : All (λ a. spans c a ≡ false) calls

-- some key of one call is below c, and some key of the other is not
abbrev pub Separates : ℕ → Call → Call → Type 0
Separates c a b = ((low_key a < c) × (c ≤ high_key b)) ⊎ ((low_key b < c) × (c ≤ high_key a))

-- call n belongs to a segment
abbrev pub BelongsAt : List Operation → ℕ → Type 0
BelongsAt calls n = IsSomeAnd (slice_get calls n) (λ a. IsTrue (belongs a))

-- calls m and n are together: no cut separates their keys
abbrev pub AreTogether : List Operation → ℕ → ℕ → Type 0
AreTogether calls m n = IsSomeAnd (slice_get calls m) (λ a. IsSomeAnd (slice_get calls n) (λ b. (c : ℕ) → IsCut calls c → Separates c
    a.call b.call → ⊥))
