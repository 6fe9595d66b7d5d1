-- Optimistic lock coupling: versions are kept and checked, and only what is written is locked.
use Rattle.std.specs.Prelude.{ℕ, ◌==◌, nat_le, if◌then◌else◌, List, [], ◌∷◌, Option, Some, None}
use Rattle.events.specs.declared.event.Reply.{Reply}
use Rattle.events.specs.declared.event.Reply.TheVariants as reply
use Rattle.art_rows.specs.declared.table.Kind.{Kind}
use Rattle.art_rows.specs.Table.{root_base, info_at}
use Rattle.art_rows.specs.declared.table.Child.{Child}
use Rattle.art_rows.specs.declared.table.Child.TheVariants.{Empty, Row as ChildRow, Leaf}
use Rattle.art_rows.specs.Steps.{Part, ◌>>=◌, ◌>>◌, give, start_again, load, store, over, recursive}
use Rattle.art_rows.specs.Rows.{Setting, Row, Place, key_of, root_row, row_of, path_differs_at, wait, check_of, take_row, unlock, find}
use Rattle.art_rows.specs.Rows.{Found, Has, Lacks}
use Rattle.art_rows.specs.Rows.{is_full}
use Rattle.art_rows.specs.Updates.{overwriting, keys_differ_at, put, grow, insert_in, insert_beside}

-- Get and remove.

-- what is written over the leaf of the key, if anything is: the row is taken for it
abbrev pub overwrite : Setting → Row → ℕ → Option ℕ → Part (Unit {0})
overwrite c n slot None = give tt
overwrite c n slot (Some word) = do
  held ← take_row c [] n
  store slot word
  unlock held

abbrev pub seek_below : Setting → (Row → Part Reply) → Row → Option ℕ → Part Reply
seek_below c go m None = go m
seek_below c go m (Some d) = do
  check_of c m
  give reply.None

-- from n to m
unfoldable pub step_down : Setting → Row → ℕ → Kind → Part Row
step_down c n base kind = do
  v ← wait base
  check_of c n
  info ← load (info_at base)
  give (row_of base kind info v)

unfoldable pub seek_at : Setting → (Row → Part Reply) → Row → Found → Part Reply
seek_at c go n (Lacks keys count) = give reply.None
seek_at c go n (Has slot Empty) = give reply.None
seek_at c go n (Has slot (Leaf key value)) =
    if key == key_of c.call
    then (do
      overwrite c n slot (overwriting c.call value)
      give (reply.Some value))
    else give reply.None
seek_at c go n (Has slot (ChildRow base kind)) = do
  m ← step_down c n base kind
  seek_below c go m (path_differs_at c m)

unfoldable pub seek_from : Setting → Row → Part Reply
seek_from c = recursive (λ go n. do
  found ← find c n
  check_of c n
  seek_at c go n found)

unfoldable pub seek : Setting → Part Reply
seek c = do
  v ← wait (root_base c.shape)
  seek_from c (root_row c v)

-- Insert.

-- the part, where the difference d is below the row's level
abbrev pub below_level : {A : Type 0} → Row → ℕ → Part A → Part A
below_level n d m = if nat_le d n.level then start_again else m

abbrev pub insert_below : Setting → (Place → Part Reply) → Row → ℕ → Row → Option ℕ → Part Reply
insert_below c go n slot m None = go (record { row = m; above = n ∷ []; slot = slot })
insert_below c go n slot m (Some d) = below_level n d (do
  held ← take_row c [] n
  r ← insert_beside c (held ∷ []) slot m d
  unlock held
  give r)

-- the parent is taken before the row
abbrev pub take_above : Setting → List Row → Part (List Row)
take_above c above = over above (λ p held. do
  h ← take_row c held p
  give (h ∷ held)) []

unfoldable pub insert_leaf : Setting → Row → ℕ → Child → Part Reply
insert_leaf c n slot child = do
  held ← take_row c [] n
  r ← insert_in c (held ∷ []) slot child
  unlock held
  give r

unfoldable pub insert_at : Setting → (Place → Part Reply) → Place → Found → Part Reply
insert_at c go p (Lacks keys count) =
    if is_full p.row count
    then (do
      above ← take_above c p.above
      held ← take_row c above p.row
      grow c above p.slot held keys count
      give reply.None)
    else (do
      held ← take_row c [] p.row
      put c held keys count
      unlock held
      give reply.None)
insert_at c go p (Has slot Empty) = insert_leaf c p.row slot Empty
insert_at c go p (Has slot (Leaf key value)) =
    if key == key_of c.call
    then insert_leaf c p.row slot (Leaf key value)
    else below_level p.row (keys_differ_at key (key_of c.call)) (insert_leaf c p.row slot (Leaf key value))
insert_at c go p (Has slot (ChildRow base kind)) = do
  m ← step_down c p.row base kind
  insert_below c go p.row slot m (path_differs_at c m)

unfoldable pub insert_from : Setting → Place → Part Reply
insert_from c = recursive (λ go p. do
  found ← find c p.row
  check_of c p.row
  insert_at c go p found)

unfoldable pub insert : Setting → Part Reply
insert c = do
  v ← wait (root_base c.shape)
  insert_from c (record { row = root_row c v; above = []; slot = root_base c.shape })
