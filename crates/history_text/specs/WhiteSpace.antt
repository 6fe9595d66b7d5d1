-- White space around a text of JSON: RFC 8259, section 2, which allows it before and after a value.
use Rattle.std.specs.Prelude.{◌≡◌, ◌⊎◌, ⊤, ℕ, List, [], ◌∷◌}

-- a space, a horizontal tab, a line feed or a carriage return
abbrev pub IsWhiteSpace : ℕ → Type 0
IsWhiteSpace byte = (byte ≡ 32) ⊎ (byte ≡ 9) ⊎ (byte ≡ 10) ⊎ (byte ≡ 13)

-- only white space
abbrev pub AreWhiteSpace : List ℕ → Type 0
AreWhiteSpace [] = ⊤
AreWhiteSpace (byte ∷ bytes) = IsWhiteSpace byte × AreWhiteSpace bytes
