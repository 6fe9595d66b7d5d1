-- Pairs, by their differences from the pairs at the start of a search.
use Rattle.std.specs.Prelude.{◌≡◌, ℕ, Bool, ◌==◌, is_none, is_some, if◌then◌else◌, [], ◌∷◌, ◌++◌, filter, Option, Some, None}
use Rattle.map_object.specs.MapObject.{Contents, IsRising, value_at, below, above, put}

-- the pairs with this value, or none, at a key
abbrev pub with_value : ℕ → Option ℕ → Contents → Contents
with_value key None m = below key m ++ above key m
with_value key (Some value) m = put key value m

-- a value that is not the one at the start
abbrev pub value_put : Option ℕ → Option ℕ → Option ℕ
value_put first None = None
value_put None (Some value) = Some value
value_put (Some first) (Some value) = if first == value then None else Some value

-- the value at the start, if there is none now
abbrev pub value_gone : Option ℕ → Option ℕ → Option ℕ
value_gone first None = first
value_gone first (Some value) = None

-- a pair that is not so in others
abbrev pub differs : Contents → ℕ × ℕ → Bool
differs others pair = is_some (value_put (value_at others pair.0) (Some pair.1))

-- the differences: the pairs that are not among those at the start (put), and the pairs at the
-- start whose keys have no value now (gone)
pub record IsDifference (start pairs put_pairs gone_pairs : Contents) : Type 0 where
  pub put_rises : IsRising put_pairs
  pub gone_rises : IsRising gone_pairs
  pub put : (key : ℕ) → value_at put_pairs key ≡ value_put (value_at start key) (value_at pairs key)
  pub gone : (key : ℕ) → value_at gone_pairs key ≡ value_gone (value_at start key) (value_at pairs key)

-- the value of a key, from its value at the start, the value that was put, and the value that is
-- gone
abbrev pub value_from : Option ℕ → Option ℕ → Option ℕ → Option ℕ
value_from first (Some value) _ = Some value
value_from first None None = first
value_from first None (Some value) = None

-- pairs with these put among them; each of these replaces the pair that has its key
abbrev pub put_all : Contents → Contents → Contents
put_all [] m = m
put_all ((key, value) ∷ pairs) m = put key value (put_all pairs m)

-- the pairs at the start without those that are gone, and with those that were put
unfoldable pub pairs_from : Contents → Contents → Contents → Contents
pairs_from start put gone = put_all put (filter (λ pair. is_none (value_at gone pair.0)) start)
