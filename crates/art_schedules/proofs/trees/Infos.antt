-- What a tree asks of the infos of its rows, by their words.
use Rattle.art_schedules.proofs.Common.{Kind, info_of, info_word, key_bytes}
use Rattle.std.specs.Prelude.{◌≡◌, ℕ, ◌+◌, ◌<◌, [], ◌∷◌, ◌++◌, length, take}

-- the word is the info of a row of the kind
abbrev pub IsInfo : Kind → ℕ → Type 0
IsInfo k w = (length (info_of k w).path ≡ (info_of k w).level) × (w ≡ info_word k (info_of k w).level (info_of k w).path)

-- a row with the second info may hang on the byte of a row with the first
abbrev pub MayHang : Kind → ℕ → ℕ → Kind → ℕ → Type 0
MayHang k w x m v = ((info_of k w).level < (info_of m v).level)
    × (take ((info_of k w).level + 1) (info_of m v).path ≡ (info_of k w).path ++ x ∷ [])

-- a leaf with this key may hang on the byte of a row with this info
abbrev pub LeafMayHang : Kind → ℕ → ℕ → ℕ → Type 0
LeafMayHang k w x key = take ((info_of k w).level + 1) (key_bytes key) ≡ (info_of k w).path ++ x ∷ []
