-- The hint on a fault of a text: what was found, as far as there is room, and what was expected.
use Rattle.std.specs.Prelude.{ℕ, ◌&&◌, nat_le, if◌then◌else◌, List, ◌++◌, length, map, take, codes}
use Rattle.cli_outcome.specs.Lines.{line}

-- a byte that is not printable ASCII as `?`
abbrev pub shown_byte : ℕ → ℕ
shown_byte byte = if nat_le 32 byte && nat_le byte 126 then byte else 63

-- a text of at most 80 bytes; of a longer text the first bytes and two dots
abbrev pub shown : List ℕ → List ℕ
shown text = if nat_le (length text) 80 then map shown_byte text else map shown_byte (take 80 text) ++ codes ".."

-- the hint that says what was found, and what was expected
abbrev pub found_hint : List ℕ → List ℕ → List ℕ
found_hint text wanted = line (codes "found " ++ shown text ++ codes "; wanted " ++ wanted)
