-- The digest of a configuration is a sum modulo 2^64. So one more call, or another pair, changes it
-- by its own mixed number.
use Rattle.std.specs.Prelude.{◌≡◌, ℕ, ◌+◌, ◌*◌, ◌/◌, ◌%◌, ◌^◌, bit_xor, List, Option, Some, None}
use Rattle.std.specs.List.{sum_by}
use Rattle.memo.specs.Configurations.{Configuration}

-- a number times 11400714819323198485, with its upper half brought into the lower
unfoldable pub mix : ℕ → ℕ
mix n = bit_xor (n * 11400714819323198485 % 2 ^ 64) (n * 11400714819323198485 % 2 ^ 64 / 2 ^ 32)

-- what the call at a place adds
abbrev pub mix_place : ℕ → ℕ
mix_place place = mix (place + 1)

-- what a pair of a key and a value adds
abbrev pub mix_pair : ℕ × ℕ → ℕ
mix_pair pair = mix (mix pair.0 + pair.1)

-- what a key with a value adds; without a value it adds 0
abbrev pub mix_value : ℕ → Option ℕ → ℕ
mix_value key None = 0
mix_value key (Some value) = mix_pair (key, value)

-- the sum over the places taken and the pairs held
abbrev pub digest_of : Configuration → ℕ
digest_of c = (sum_by mix_place c.taken + sum_by mix_pair c.pairs) % 2 ^ 64

-- the number is the digest of these places and pairs
pub record HasDigest (taken : List ℕ) (pairs : List (ℕ × ℕ)) (digest : ℕ) : Type 0 where
  pub digest_is : digest ≡ digest_of (record { taken = taken; pairs = pairs })
