-- Words of infos: what is read of them, and read back from those that are written.
use Rattle.art_schedules.proofs.Common.{◌≡◌, ℕ, ◌/◌, ◌%◌, ◌<◌, Bool, true, false, List, [], length, sym, ap, ap₂}
use Rattle.std.proofs.Common.{◌==◌, if◌then◌else◌, slice_index}
use Rattle.art_rows.specs.Words.{Info}
use Rattle.art_schedules.proofs.Common.{◌∙◌, arith, eq-eqb, Kind, info_of, info_word, kind_code, low_bytes, packed, low_byte-small, code-few}
use Rattle.art_schedules.proofs.words.ByteLemmas.{AreBytes, bytes-small, low_bytes-packed}

-- the info that a word says, if it is one of the kind
abbrev info_if : Bool → ℕ → ℕ → Info
info_if b level word = if b then record { level = level; path = low_bytes level word } else record { level = 0; path = [] }

-- a level is at most 3
pub level_small : (k : Kind) (w : ℕ) → (info_of k w).level < 4
level_small k w = go (w % 4 == kind_code k)
  where
    go : (b : Bool) → (info_if b ((w / 4) % 4) (w / 256)).level < 4
    go true = omega arith
    go false = omega arith

-- the path of an info is of bytes
pub path_byte : (k : Kind) (w i : ℕ) → slice_index (info_of k w).path i < 256
path_byte k w i = go (w % 4 == kind_code k)
  where
    go : (b : Bool) → slice_index (info_if b ((w / 4) % 4) (w / 256)).path i < 256
    go true = low_byte-small ((w / 4) % 4) (w / 256) i
    go false = omega arith

pub path_bytes : (k : Kind) (w : ℕ) → AreBytes (info_of k w).path
path_bytes k w = bytes-small (info_of k w).path (path_byte k w)

-- an info is read back from its word
module _ (k : Kind) (level : ℕ) (path : List ℕ) (low : level < 4) (long : length path ≡ level) (bytes : AreBytes path) where
  code_back : info_word k level path % 4 ≡ kind_code k
  code_back = omega (arith, code-few k, low)

  level_read : (info_word k level path / 4) % 4 ≡ level
  level_read = omega (arith, code-few k, low)

  path_read : info_word k level path / 256 ≡ packed path
  path_read = omega (arith, code-few k, low)

  info_read : info_of k (info_word k level path) ≡ record { level = level; path = path }
  info_read =
      ap (λ b. info_if b ((info_word k level path / 4) % 4) (info_word k level path / 256))
      (eq-eqb (info_word k level path % 4) (kind_code k) code_back)
      ∙ ap₂ (λ l p. let i : Info = record { level = l; path = p } in i) level_read
      (ap₂ (λ l w. low_bytes l w) (level_read ∙ sym long) path_read ∙ low_bytes-packed path bytes)

  pub level_back : (info_of k (info_word k level path)).level ≡ level
  level_back = ap (λ (i : Info). i.level) info_read

  pub path_back : (info_of k (info_word k level path)).path ≡ path
  path_back = ap (λ (i : Info). i.path) info_read
