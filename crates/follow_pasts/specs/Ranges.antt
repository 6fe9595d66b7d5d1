-- Keys by range.
use Rattle.std.specs.Prelude.{ℕ, ◌&&◌, nat_le, List, Option, None, Some}
use Rattle.std.specs.List.{list_any}
use Rattle.follow_laws.specs.Cuts.{Keys}
use Rattle.follow_pasts.specs.declared.ranges.Range.{Range}

-- whether a key is in one of the ranges
abbrev pub covered : List Range → Keys
covered ranges key = list_any (λ range. nat_le range.low key && nat_le key range.high) ranges

-- the keys from one to another
abbrev pub from_to : ℕ → ℕ → Keys
from_to low high key = nat_le low key && nat_le key high

-- a value, or else another one
abbrev pub or_else : Option ℕ → Option ℕ → Option ℕ
or_else None other = other
or_else (Some value) other = Some value
