-- The place of a key among pairs by rising key, or the place at which it would be inserted.
use Rattle.std.specs.Prelude.{◌≡◌, ℕ, suc, ◌<◌, ◌≤◌, length, slice_index_or, Some, None, take, drop}
use Rattle.map_object.specs.MapObject.{Contents, value_at, below, above}

-- the pair at place i has the key; the pairs before it have lower keys, and those after it higher
-- ones
pub record IsAt (m : Contents) (key i : ℕ) : Type 0 where
  pub in_range : i < length m
  pub value : (d : ℕ × ℕ) → value_at m key ≡ Some (slice_index_or m i d).1
  pub below : below key m ≡ take i m
  pub above : above key m ≡ drop (suc i) m

-- no pair has the key; it would be inserted at place i, after the pairs with lower keys
pub record IsGapFor (m : Contents) (key i : ℕ) : Type 0 where
  pub in_range : i ≤ length m
  pub value : value_at m key ≡ None
  pub below : below key m ≡ take i m
  pub above : above key m ≡ drop i m
