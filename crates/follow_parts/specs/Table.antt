-- The parts of a state, by key.
use Rattle.std.specs.Prelude.{◌≡◌, ℕ, true, false, List, [], ◌∷◌, Option, None, Some, All}
use Rattle.follow_pasts.specs.Lists.{IsPut, list_place}
use Rattle.follow_pasts.specs.Ranges.{covered}
use Rattle.follow_pasts.specs.declared.part.Part.{Part}
use Rattle.follow_pasts.specs.declared.ranges.Range.{Range}

-- the place of the list of a part of these ranges: the first one, unless it has one range of one key
abbrev pub ranges_place : List Range → ℕ
ranges_place [] = 0
ranges_place (range ∷ []) = list_place range.low range.high
ranges_place (range ∷ other ∷ ranges) = 0

abbrev pub part_place : Part → ℕ
part_place part = ranges_place part.ranges.items

-- a part that has a key was taken out, or no part has it
abbrev pub IsTakenWith : ℕ → List Part → List Part → Option Part → Type 0
IsTakenWith key old new None = (new ≡ old) × All (λ part. covered part.ranges.items key ≡ false) old
IsTakenWith key old new (Some part) = IsPut part new old × (covered part.ranges.items key ≡ true)
