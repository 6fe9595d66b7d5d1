-- How far several reads or writes came before one of them failed.
use Rattle.std.specs.Prelude.{ℕ, ◌<◌, ◌≤◌, List, length, take, Option}
use Rattle.std.specs.Io.KnownBytes.{Appends, Consumes}

-- some of the bytes to come were read, at most this many
abbrev pub ConsumesAtMost : ℕ → Option (List ℕ) → Option (List ℕ) → Type 0
ConsumesAtMost count old new = (bytes : List ℕ) × (length bytes ≤ count) × Consumes old new bytes

-- a proper beginning of the bytes was written
abbrev pub AppendsBeginning : Option (List ℕ) → Option (List ℕ) → List ℕ → Type 0
AppendsBeginning old new bytes = (count : ℕ) × (count < length bytes) × Appends old new (take count bytes)
