-- The ranges of keys that calls name, and which of them hang together.
use Rattle.std.specs.Prelude.{◌≡◌, ◌≢◌, ℕ, ◌<◌, ◌≤◌, true, List, Some, slice_get, map, All, Any, AllPairs, Contains}
use Rattle.events.specs.declared.event.Call.{Call}
use Rattle.events.specs.declared.operation.Operation.{Operation}
use Rattle.events.specs.Keys.{low_key, high_key}
use Rattle.events.specs.Precedence.{belongs}
use Rattle.orders.specs.Cuts.{BelongsAt}
use Rattle.cutter.specs.declared.key_range.KeyRange.{KeyRange}

-- the keys of a call with a number
abbrev pub range_with : ℕ → Call → KeyRange
range_with number call = record { low = low_key call; high = high_key call; number = number }

-- the range of a call that belongs to a segment
pub record IsRangeOf (calls : List Operation) (range : KeyRange) : Type 0 where
  pub operation : Operation
  pub here : slice_get calls range.number ≡ Some operation
  pub belonging : belongs operation ≡ true
  pub low : range.low ≡ low_key operation.call
  pub high : range.high ≡ high_key operation.call
  pub in_order : range.low ≤ range.high

-- the ranges of all calls that belong to a segment, each once
pub record AreRanges (calls : List Operation) (ranges : List KeyRange) : Type 0 where
  pub each : All (IsRangeOf calls) ranges
  pub all : (n : ℕ) → BelongsAt calls n → Contains (map (λ r. r.number) ranges) n
  pub distinct : AllPairs (λ r s. r.number ≢ s.number) ranges

-- whether a range has keys on both sides of c
abbrev pub GoesOver : ℕ → KeyRange → Type 0
GoesOver c r = (r.low < c) × (c ≤ r.high)

-- ranges are connected: if some begin below c, and some end at c or above it, one of them has keys
-- on both sides of c
abbrev pub AreChained : List KeyRange → Type 0
AreChained ranges = (c : ℕ) → Any (λ r. r.low < c) ranges → Any (λ r. c ≤ r.high) ranges → Any (GoesOver c) ranges

-- each range of the first ends below all of the second
abbrev pub AreApart : List KeyRange → List KeyRange → Type 0
AreApart front back = All (λ r. All (λ s. r.high < s.low) back) front
