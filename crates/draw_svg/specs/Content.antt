-- Contents as XML asks for them: Extensible Markup Language 1.0, section 2.4.
use Rattle.std.specs.Prelude.{◌≢◌, ℕ, ◌-◌, ◌==◌, ◌&&◌, nat_le, if◌then◌else◌, List, [], ◌∷◌, ◌++◌, length, map, take, codes, All}
use Rattle.std.specs.List.{concat}

-- a byte of a content: `<`, `>`, `&` and both quotes as references, other printable ASCII as it is,
-- anything else as `?`
abbrev pub escaped_byte : ℕ → List ℕ
escaped_byte byte =
    if byte == 60 then codes "&lt;"
    else if byte == 62 then codes "&gt;"
    else if byte == 38 then codes "&amp;"
    else if byte == 34 then codes "&quot;"
    else if byte == 39 then codes "&#39;"
    else if nat_le 32 byte && nat_le byte 126 then byte ∷ []
    else codes "?"

-- a content
abbrev pub escaped : List ℕ → List ℕ
escaped content = concat (map escaped_byte content)

-- a content with room for this many letters, cut with an ellipsis if it has more
abbrev pub shown : ℕ → List ℕ → List ℕ
shown room content = if nat_le (length content) room then escaped content else escaped (take (room - 1) content) ++ codes "&#8230;"

-- no byte begins or ends a tag, or ends a value
abbrev pub HasNoMarkup : List ℕ → Type 0
HasNoMarkup text = All (λ byte. (byte ≢ 60) × (byte ≢ 62) × (byte ≢ 34) × (byte ≢ 39)) text

-- an escaped content has no markup
abbrev pub EscapedHasNoMarkup : Type 0
EscapedHasNoMarkup = (content : List ℕ) → HasNoMarkup (escaped content)
