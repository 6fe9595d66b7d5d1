-- Lock coupling: a row is locked before the row above it is unlocked.
use Rattle.std.specs.Prelude.{ℕ, ◌==◌, if◌then◌else◌, [], ◌∷◌, Option, Some, None}
use Rattle.events.specs.declared.event.Reply.{Reply}
use Rattle.events.specs.declared.event.Reply.TheVariants as reply
use Rattle.art_rows.specs.declared.table.Kind.{Kind}
use Rattle.art_rows.specs.Table.{root_base, info_at}
use Rattle.art_rows.specs.declared.table.Child.TheVariants.{Empty, Row as ChildRow, Leaf}
use Rattle.art_rows.specs.Steps.{Part, ◌>>=◌, ◌>>◌, give, load, store, recursive}
use Rattle.art_rows.specs.Rows.{Setting, Row, Place, key_of, releases_early, root_row, row_of, path_differs_at, lock, unlock, unlock_all}
use Rattle.art_rows.specs.Rows.{find, Found, Has}
use Rattle.art_rows.specs.Rows.{Lacks, is_full}
use Rattle.art_rows.specs.Updates.{overwriting, put, grow, insert_in, insert_beside}

-- Get and remove.

-- what is written over the leaf of the key, if anything is
abbrev pub overwrite : ℕ → Option ℕ → Part (Unit {0})
overwrite slot None = give tt
overwrite slot (Some word) = store slot word

-- on to row m: its path is the beginning of the key, or the key is not there
abbrev pub seek_below : Setting → (Row → Part Reply) → Row → Option ℕ → Part Reply
seek_below c go m None = go m
seek_below c go m (Some d) = do
  unlock m
  give reply.None

-- from n to m
unfoldable pub step_down : Setting → Row → ℕ → Kind → Part Row
step_down c n base kind =
    if releases_early c.variant
    then (do
      unlock n
      v ← lock c.shape base
      info ← load (info_at base)
      give (row_of base kind info v))
    else (do
      v ← lock c.shape base
      unlock n
      info ← load (info_at base)
      give (row_of base kind info v))

unfoldable pub seek_at : Setting → (Row → Part Reply) → Row → Found → Part Reply
seek_at c go n (Lacks keys count) = do
  unlock n
  give reply.None
seek_at c go n (Has slot Empty) = do
  unlock n
  give reply.None
seek_at c go n (Has slot (Leaf key value)) =
    if key == key_of c.call
    then (do
      overwrite slot (overwriting c.call value)
      unlock n
      give (reply.Some value))
    else (do
      unlock n
      give reply.None)
seek_at c go n (Has slot (ChildRow base kind)) = do
  m ← step_down c n base kind
  seek_below c go m (path_differs_at c m)

-- from a held row on
unfoldable pub seek_from : Setting → Row → Part Reply
seek_from c = recursive (λ go n. do
  found ← find c n
  seek_at c go n found)

unfoldable pub seek : Setting → Part Reply
seek c = do
  v ← lock c.shape (root_base c.shape)
  seek_from c (root_row c v)

-- Insert.

-- on to row m, or the leaf becomes a sibling of m under a new row, in the slot of n
abbrev pub insert_below : Setting → (Place → Part Reply) → Row → ℕ → Row → Option ℕ → Part Reply
insert_below c go n slot m None = go (record { row = m; above = n ∷ []; slot = slot })
insert_below c go n slot m (Some d) = do
  r ← insert_beside c (m ∷ n ∷ []) slot m d
  unlock m
  unlock n
  give r

unfoldable pub insert_at : Setting → (Place → Part Reply) → Place → Found → Part Reply
insert_at c go p (Lacks keys count) =
    if is_full p.row count
    then (do
      grow c p.above p.slot p.row keys count
      give reply.None)
    else (do
      unlock_all p.above
      put c p.row keys count
      unlock p.row
      give reply.None)
insert_at c go p (Has slot Empty) = do
  unlock_all p.above
  r ← insert_in c (p.row ∷ []) slot Empty
  unlock p.row
  give r
insert_at c go p (Has slot (Leaf key value)) = do
  unlock_all p.above
  r ← insert_in c (p.row ∷ []) slot (Leaf key value)
  unlock p.row
  give r
insert_at c go p (Has slot (ChildRow base kind)) = do
  unlock_all p.above
  v ← lock c.shape base
  info ← load (info_at base)
  let m = row_of base kind info v
  insert_below c go p.row slot m (path_differs_at c m)

unfoldable pub insert_from : Setting → Place → Part Reply
insert_from c = recursive (λ go p. do
  found ← find c p.row
  insert_at c go p found)

unfoldable pub insert : Setting → Part Reply
insert c = do
  v ← lock c.shape (root_base c.shape)
  insert_from c (record { row = root_row c v; above = []; slot = root_base c.shape })
