-- Keys and their bytes.
use Rattle.art_schedules.proofs.Common.{◌≡◌, ℕ, suc, List, [], ◌∷◌, ◌++◌, key_bytes}
use Rattle.std.specs.Prelude.{length, take}

-- The key begins with the bytes and then x.
abbrev pub BeginsWith : List ℕ → ℕ → ℕ → Type 0
BeginsWith path x key = take (suc (length path)) (key_bytes key) ≡ path ++ x ∷ []
