-- The lines of bytes: a line feed ends each line, and the last line may lack it.
use Rattle.std.specs.Prelude.{◌≡◌, ◌≢◌, ◌⊎◌, ℕ, ◌<◌, ◌≤◌, ◌==◌, Bool, true, false, if◌then◌else◌, List, [], ◌∷◌, ◌++◌, length, Option, All}
use Rattle.std.specs.Io.KnownBytes.{Consumes, IsAtEnd, Keeps}
use Rattle.stream_text.specs.LineLimits.{line_limit}

-- the byte that ends a line
abbrev pub line_feed : ℕ
line_feed = 10

-- no byte of them ends a line
abbrev pub HasNoLineFeed : List ℕ → Type 0
HasNoLineFeed bytes = All (λ byte. byte ≢ line_feed) bytes

-- a byte before the first of these lines
abbrev pub before_lines : ℕ → List (List ℕ) → List (List ℕ)
before_lines byte [] = (byte ∷ []) ∷ []
before_lines byte (line ∷ lines) = (byte ∷ line) ∷ lines

-- the lines of bytes, without the line feeds that end them
abbrev pub lines_of : List ℕ → List (List ℕ)
lines_of [] = []
lines_of (byte ∷ bytes) = if byte == line_feed then [] ∷ lines_of bytes else before_lines byte (lines_of bytes)

-- if the bytes to come are known, a line was taken from them, and what ends it: a line feed, or the
-- end
pub record TakesLine (old : Option (List ℕ)) (line : List ℕ) (new : Option (List ℕ)) : Type 0 where
  pub whole : HasNoLineFeed line
  pub short : length line ≤ line_limit
  pub taken : Consumes old new (line ++ line_feed ∷ []) ⊎ ((0 < length line) × Consumes old new line × IsAtEnd new)

-- there were no bytes to come, and none have come
pub record FindsEnd (old : Option (List ℕ)) (line : List ℕ) (new : Option (List ℕ)) : Type 0 where
  pub before : IsAtEnd old
  pub after : IsAtEnd new
  pub none : line ≡ []

-- whether a line was taken, and what that says
abbrev pub Advances : Bool → Option (List ℕ) → List ℕ → Option (List ℕ) → Type 0
Advances true old line new = TakesLine old line new
Advances false old line new = FindsEnd old line new

-- no line was taken, and the bytes to come stay
pub record Stays (old : Option (List ℕ)) (line : List ℕ) (new : Option (List ℕ)) : Type 0 where
  pub kept : Keeps old new
  pub none : line ≡ []

-- the bytes to come, if they are known, begin with more bytes than a line may have, and none of
-- these ends a line
pub record BeginsTooLong (old : Option (List ℕ)) : Type 0 where
  pub front : List ℕ
  pub rest : Option (List ℕ)
  pub first : Consumes old rest front
  pub long : line_limit < length front
  pub whole : HasNoLineFeed front
