-- A scan: the walk over the rows and leaves between two keys.
use Rattle.std.specs.Prelude.{ℕ, ◌+◌, ◌-◌, ◌*◌, ◌/◌, ◌%◌, ◌^◌, Bool, true, false, ◌&&◌, ◌==◌, nat_lt, nat_le, if◌then◌else◌, List, [], ◌∷◌}
use Rattle.std.specs.Prelude.{◌++◌, length}
use Rattle.std.specs.Prelude.{filter, slice_index, Option, Some, None}
use Rattle.art_rows.specs.declared.table.Kind.{Kind}
use Rattle.art_rows.specs.declared.table.Kind.TheVariants.{Four, Sixteen, FortyEight, Full}
use Rattle.art_rows.specs.Table.{root_base, info_at, keys_at, more_keys_at, index_at, count_at, child_at}
use Rattle.art_rows.specs.declared.table.Child.{Child}
use Rattle.art_rows.specs.declared.table.Child.TheVariants.{Empty, Row as ChildRow, Leaf}
use Rattle.art_rows.specs.Words.{big_endian, keys4_of, keys16_of, place_of, entries_of}
use Rattle.events.specs.Limits.{pair_limit}
use Rattle.art_rows.specs.Steps.{Part, ◌>>=◌, ◌>>◌, give, load, recursive, each, over, numbers}
use Rattle.art_rows.specs.Rows.{Setting, Row, locks, root_row, row_of, lock, wait, check_of, unlock_all, load_child}

-- what a walk has: its rows in the order in which they were first read, and the leaves that counted
pub record Walked : Type 0 where
  pub rows : List Row
  pub pairs : List (ℕ × ℕ)

-- some key from lo to hi begins with the row's path and this byte
abbrev pub can_lie : ℕ → ℕ → Row → ℕ → Bool
can_lie lo hi n x =
    nat_le (big_endian (big_endian 0 n.path) (x ∷ []) * 256 ^ (3 - n.level)) hi
    && nat_lt lo ((big_endian (big_endian 0 n.path) (x ∷ []) + 1) * 256 ^ (3 - n.level))

abbrev pub bytes_of : ℕ → ℕ → Row → List ℕ
bytes_of lo hi n = filter (can_lie lo hi n) (numbers 0 256)

-- a leaf counts if its key is in the range and fewer than 4,096 leaves have counted before it
abbrev pub with_leaf : ℕ → ℕ → ℕ → ℕ → Walked → Walked
with_leaf lo hi key value w =
    if nat_le lo key && nat_le key hi && nat_lt (length w.pairs) pair_limit
    then record { rows = w.rows; pairs = w.pairs ++ (key, value) ∷ [] }
    else w

-- a row of this base is among them
abbrev pub has_row : ℕ → List Row → Bool
has_row base [] = false
has_row base (n ∷ rows) = if n.base == base then true else has_row base rows

-- A row that is met again keeps its first place, with the version that was kept first.
abbrev pub with_row : Row → Walked → Walked
with_row n w = if has_row n.base w.rows then w else record { rows = w.rows ++ n ∷ []; pairs = w.pairs }

-- how a row is entered
abbrev pub enter : Setting → ℕ → Part ℕ
enter c base = if locks c.variant then lock c.shape base else wait base

module _ (c : Setting) (lo hi : ℕ) (walk : Row → Walked → Part Walked) where
  -- the child in a slot: a row is walked before the next child is loaded
  unfoldable pub walk_child : Child → Walked → Part Walked
  walk_child Empty w = give w
  walk_child (Leaf key value) w = give (with_leaf lo hi key value w)
  walk_child (ChildRow base kind) w = do
    v ← enter c base
    info ← load (info_at base)
    walk (row_of base kind info v) (with_row (row_of base kind info v) w)

  unfoldable pub walk_slot : ℕ → Walked → Part Walked
  walk_slot slot w = do
    child ← load_child c slot
    walk_child child w

  unfoldable pub walk_place : Row → Option ℕ → Walked → Part Walked
  walk_place n None w = give w
  walk_place n (Some i) w = walk_slot (child_at n.kind n.base i) w

  unfoldable pub walk_keys : Row → List ℕ → List ℕ → Walked → Part Walked
  walk_keys n keys xs w = over xs (λ x. walk_place n (place_of x keys)) w

  unfoldable pub walk_entry : Row → ℕ → Walked → Part Walked
  walk_entry n e w = if e == 0 then give w else walk_slot (child_at FortyEight n.base (e - 1)) w

  -- index word j, where it holds one of the bytes
  unfoldable pub walk_index : Row → ℕ → List ℕ → Walked → Part Walked
  walk_index n j [] w = give w
  walk_index n j (x ∷ xs) w = do
    entries ← load (index_at n.base (8 * j))
    over (x ∷ xs) (λ y. walk_entry n (slice_index (entries_of entries) (y % 8))) w

  -- by the row's kind, over these bytes
  unfoldable pub walk_in : Kind → Row → List ℕ → Walked → Part Walked
  walk_in Four n xs w = do
    keys ← load (keys_at n.base)
    walk_keys n (keys4_of keys) xs w
  walk_in Sixteen n xs w = do
    count ← load (count_at Sixteen n.base)
    first ← load (keys_at n.base)
    second ← load (more_keys_at n.base)
    walk_keys n (keys16_of count first second) xs w
  walk_in FortyEight n xs w = over (numbers 0 32) (λ j. walk_index n j (filter (λ x. x / 8 == j) xs)) w
  walk_in Full n xs w = over xs (λ x. walk_slot (child_at Full n.base x)) w

  -- if no key can lie, nothing more is loaded of the row
  unfoldable pub walk_bytes : Row → List ℕ → Walked → Part Walked
  walk_bytes n [] w = give w
  walk_bytes n (x ∷ xs) w = walk_in n.kind n (x ∷ xs) w

-- a row with what was walked before it
abbrev pub At : Type 0
At = record { row : Row; walked : Walked }

unfoldable pub walk_from : Setting → ℕ → ℕ → At → Part Walked
walk_from c lo hi = recursive (λ walk at.
    walk_bytes c lo hi (λ m w. walk (record { row = m; walked = w })) at.row (bytes_of lo hi at.row) at.walked)

unfoldable pub scan : Setting → ℕ → ℕ → Part (List (ℕ × ℕ))
scan c lo hi = do
  v ← enter c (root_base c.shape)
  w ← walk_from c lo hi (record { row = root_row c v; walked = with_row (root_row c v) (record { rows = []; pairs = [] }) })
  if locks c.variant then unlock_all w.rows else each w.rows (check_of c)
  give w.pairs
