-- A set of numbers, stored as the least number that is not in it and bits for the numbers above
-- that one.
use Rattle.std.specs.Prelude.{bit_or, ◌≡◌, ℕ, ◌+◌, ◌-◌, ◌*◌, ◌/◌, ◌%◌, ◌^◌, ◌<◌, Bool, ◌&&◌, ◌||◌, ◌==◌, nat_lt, List, length, filter}
use Rattle.std.specs.Prelude.{slice_index, All}
use Rattle.std.specs.List.{range_with_len}
use Rattle.std.specs.Int.{bit_at}

-- bit n of the words, counted from the lowest bit of the first word; after the last word all bits
-- are 0
abbrev pub bit_of : List ℕ → ℕ → ℕ
bit_of words n = bit_at (slice_index words (n / 64)) (n % 64)

-- there is no word, or the last one is not 0
abbrev pub IsTrimmed : List ℕ → Type 0
IsTrimmed words = (k : ℕ) → length words ≡ k + 1 → 0 < slice_index words k

-- each word has 64 bits
abbrev pub AreWords : List ℕ → Type 0
AreWords words = (k : ℕ) → slice_index words k < 2 ^ 64

-- whether n is in the set: it is below the least number that is not in it, or its bit is set
abbrev pub is_among : ℕ → List ℕ → ℕ → Bool
is_among least words n = nat_lt n least || (nat_lt least n && (bit_of words (n - (least + 1)) == 1))

-- the numbers in the set, by rising number
unfoldable pub places_of : ℕ → List ℕ → List ℕ
places_of least words = filter (is_among least words) (range_with_len 0 (least + 1 + 64 * length words))

-- word k after each bit was moved down by count + 1 places
abbrev pub shifted_word : List ℕ → ℕ → ℕ → ℕ
shifted_word words count k = bit_or (slice_index words k / 2 ^ count / 2 ^ 1) (slice_index words (k + 1) * 2 ^ (63 - count) % 2 ^ 64)

-- the form of a set of places: numbers of 64 bits, except the greatest of these
pub record ArePlaces (least : ℕ) (words : List ℕ) : Type 0 where
  pub each : AreWords words
  pub trimmed : IsTrimmed words
  pub small : All (λ n. n < 2 ^ 64 - 1) (places_of least words)
