-- How far the lines of a source were read.
use Rattle.std.specs.Prelude.{◌≡◌, ℕ, List, ◌++◌, Option, Some, IfSome}
use Rattle.stream_text.specs.Cuts.{lines_of}

-- if the bytes that were to come are known, these lines of them were read, and the others are to
-- come
abbrev pub HasRead : Option (List ℕ) → List (List ℕ) → Option (List ℕ) → Type 0
HasRead old lines new = IfSome old (λ text. (rest : List ℕ) × (new ≡ Some rest) × (lines_of text ≡ lines ++ lines_of rest))

-- the text, if it is known, has these lines
abbrev pub AreLinesOf : Option (List ℕ) → List (List ℕ) → Type 0
AreLinesOf known lines = IfSome known (λ text. lines_of text ≡ lines)
