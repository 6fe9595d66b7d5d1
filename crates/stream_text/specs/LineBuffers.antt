-- What was read of a source and is not yet returned as lines.
use Rattle.std.specs.Prelude.{◌≡◌, ℕ, List, ◌++◌, length, Option}
use Rattle.std.specs.Io.KnownBytes.{Consumes}

-- a line that was read, and the bytes that were read after it
pub record LineBufferView : Type 0 where
  pub line : List ℕ
  pub bytes : List ℕ

-- a source returned this many bytes, which come after those that were there
pub record GrowsBy (old new : Option (List ℕ)) (before after : List ℕ) (count : ℕ) : Type 0 where
  pub bytes : List ℕ
  pub grown : after ≡ before ++ bytes
  pub counted : length bytes ≡ count
  pub consumed : Consumes old new bytes
