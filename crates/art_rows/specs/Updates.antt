-- What an insert writes: a leaf, a byte more in a row, a row of two children, a row of the next kind.
use Rattle.std.specs.Prelude.{ℕ, ◌+◌, ◌-◌, ◌*◌, ◌%◌, ◌==◌, nat_lt, if◌then◌else◌, List, [], ◌∷◌, ◌++◌, map, take, set, slice_index, Option}
use Rattle.std.specs.Prelude.{Some, None}
use Rattle.std.specs.Prelude.{unwrap_or}
use Rattle.events.specs.declared.event.Call.{Call}
use Rattle.events.specs.declared.event.Call.TheVariants.{Insert, Remove, Replace}
use Rattle.events.specs.declared.event.Reply.{Reply}
use Rattle.events.specs.declared.event.Reply.TheVariants as reply
use Rattle.art_rows.specs.declared.table.Kind.{Kind}
use Rattle.art_rows.specs.declared.table.Kind.TheVariants.{Four, Sixteen, FortyEight, Full}
use Rattle.art_rows.specs.Table.{info_at, keys_at, more_keys_at, index_at, count_at, child_at}
use Rattle.art_rows.specs.declared.table.Child.{Child}
use Rattle.art_rows.specs.declared.table.Child.TheVariants.{Empty, Row as ChildRow, Leaf}
use Rattle.art_rows.specs.Words.{key_bytes, first_difference, info_word, keys4_word, keys16_word, more_keys16_word, place_of, new_place}
use Rattle.art_rows.specs.Words.{with_key, entries_of}
use Rattle.art_rows.specs.Words.{entries_word, row_word, child_word}
use Rattle.art_rows.specs.Steps.{Part, ◌>>=◌, ◌>>◌, give, load, store, each, numbers, numbers_down}
use Rattle.art_rows.specs.Rows.{Setting, Row, key_of, byte_at, claim, load_child, unlock_obsolete, unlock_all}

-- the leaf that an insert writes
abbrev pub new_leaf : Call → Child
new_leaf (Insert k v) = Leaf k v
new_leaf call = Empty

-- What a call that finds its key's leaf, with this value, writes in its place: none where the leaf stays.
abbrev pub overwriting : Call → ℕ → Option ℕ
overwriting (Remove k) value = Some 0
overwriting (Replace k old new) value = if value == old then Some (child_word (Leaf k new)) else None
overwriting call value = None

abbrev pub store_child : ℕ → Child → Part (Unit {0})
store_child slot child = store slot (child_word child)

-- a child with its byte
abbrev pub Under : Type 0
Under = record { byte : ℕ; child : Child }

abbrev pub lesser : Under → Under → Under
lesser a b = if nat_lt a.byte b.byte then a else b

abbrev pub greater : Under → Under → Under
greater a b = if nat_lt a.byte b.byte then b else a

-- PAIR: a fresh row of kind 4 at level d with two children, and the word of it
unfoldable pub pair : Setting → List Row → ℕ → Under → Under → Part ℕ
pair c held d a b = do
  base ← claim c held Four
  store (info_at base) (info_word Four d (take d (key_bytes (key_of c.call))))
  store (keys_at base) (keys4_word ((lesser a b).byte ∷ (greater a b).byte ∷ []))
  store_child (child_at Four base 0) (lesser a b).child
  store_child (child_at Four base 1) (greater a b).child
  give (row_word base)

-- the two children in a slot of a held row
unfoldable pub pair_in : Setting → List Row → ℕ → ℕ → Under → Part (Unit {0})
pair_in c held slot d old = do
  word ← pair c held d old (record { byte = byte_at c d; child = new_leaf c.call })
  store slot word

-- load a child, store it elsewhere
unfoldable pub copy_child : Setting → ℕ → ℕ → Part (Unit {0})
copy_child c from to = do
  child ← load_child c from
  store_child to child

-- for j from c - 1 down to i: load child j, store child j + 1
unfoldable pub make_room : Setting → Row → ℕ → ℕ → Part (Unit {0})
make_room c n i count = each (numbers_down i (count - i))
    (λ j. copy_child c (child_at n.kind n.base j) (child_at n.kind n.base (j + 1)))

-- PUT, by the row's kind: keys are the row's key bytes, in kind 48 the entries of the byte's index word
unfoldable pub put_in : Kind → Setting → Row → ℕ → List ℕ → ℕ → Part (Unit {0})
put_in Four c n x keys count = do
  make_room c n (new_place x keys) count
  store_child (child_at Four n.base (new_place x keys)) (new_leaf c.call)
  store (keys_at n.base) (keys4_word (with_key x keys))
put_in Sixteen c n x keys count = do
  make_room c n (new_place x keys) count
  store_child (child_at Sixteen n.base (new_place x keys)) (new_leaf c.call)
  store (keys_at n.base) (keys16_word (with_key x keys))
  store (more_keys_at n.base) (more_keys16_word (with_key x keys))
  store (count_at Sixteen n.base) (count + 1)
put_in FortyEight c n x entries count = do
  store_child (child_at FortyEight n.base count) (new_leaf c.call)
  store (index_at n.base x) (entries_word (set entries (x % 8) (count + 1)))
  store (count_at FortyEight n.base) (count + 1)
put_in Full c n x keys count = give tt

unfoldable pub put : Setting → Row → List ℕ → ℕ → Part (Unit {0})
put c n keys count = put_in n.kind c n (byte_at c n.level) keys count

-- the entry of a byte, where these keys have the children 0, 1, ..
abbrev pub new_entry : List ℕ → ℕ → ℕ
new_entry keys y = unwrap_or (option_succ (place_of y keys)) 0
  where
    option_succ : Option ℕ → Option ℕ
    option_succ None = None
    option_succ (Some i) = Some (i + 1)

-- index word j of a row of kind 48 whose keys have the children 0, 1, ..
unfoldable pub store_index : ℕ → List ℕ → ℕ → Part (Unit {0})
store_index base keys j = store (index_at base (8 * j)) (entries_word (map (new_entry keys) (numbers (8 * j) 8)))

-- the children of index word j go to their bytes in a row of kind 256
unfoldable pub spread_entry : Setting → Row → ℕ → ℕ → List ℕ → ℕ → Part (Unit {0})
spread_entry c n base j entries i =
    if slice_index entries i == 0 then give tt
    else copy_child c (child_at FortyEight n.base (slice_index entries i - 1)) (child_at Full base (8 * j + i))

unfoldable pub spread_index : Setting → Row → ℕ → ℕ → Part (Unit {0})
spread_index c n base j = do
  w ← load (index_at n.base (8 * j))
  each (numbers 0 8) (spread_entry c n base j (entries_of w))

-- the new row's words after its info, from the old row
unfoldable pub fill : Kind → Setting → Row → ℕ → ℕ → List ℕ → ℕ → Part (Unit {0})
fill Four c n base x keys count = do
  each (numbers 0 count) (λ i. copy_child c (child_at Four n.base i)
      (child_at Sixteen base (if nat_lt i (new_place x keys) then i else i + 1)))
  store_child (child_at Sixteen base (new_place x keys)) (new_leaf c.call)
  store (keys_at base) (keys16_word (with_key x keys))
  store (more_keys_at base) (more_keys16_word (with_key x keys))
  store (count_at Sixteen base) (count + 1)
fill Sixteen c n base x keys count = do
  each (numbers 0 count) (λ i. copy_child c (child_at Sixteen n.base i) (child_at FortyEight base i))
  store_child (child_at FortyEight base 16) (new_leaf c.call)
  each (numbers 0 32) (store_index base (keys ++ x ∷ []))
  store (count_at FortyEight base) 17
fill FortyEight c n base x keys count = do
  each (numbers 0 32) (spread_index c n base)
  store_child (child_at Full base x) (new_leaf c.call)
fill Full c n base x keys count = give tt

abbrev pub next_kind : Kind → Kind
next_kind Four = Sixteen
next_kind Sixteen = FortyEight
next_kind FortyEight = Full
next_kind Full = Full

-- GROW: a fresh row of the next kind in the parent's slot; the row and its parent, which is the one above it, are held.
unfoldable pub grow : Setting → List Row → ℕ → Row → List ℕ → ℕ → Part (Unit {0})
grow c above slot n keys count = do
  base ← claim c (n ∷ above) (next_kind n.kind)
  store (info_at base) (info_word (next_kind n.kind) n.level n.path)
  fill n.kind c n base (byte_at c n.level) keys count
  store slot (row_word base)
  unlock_obsolete n
  unlock_all above

-- the place of the first byte in which two keys differ
abbrev pub keys_differ_at : ℕ → ℕ → ℕ
keys_differ_at a b = unwrap_or (first_difference (key_bytes a) (key_bytes b)) 0

-- What an insert does with a slot of a held row that has no row in it; the reply is the old value.
unfoldable pub insert_in : Setting → List Row → ℕ → Child → Part Reply
insert_in c held slot Empty = do
  store_child slot (new_leaf c.call)
  give reply.None
insert_in c held slot (Leaf key value) =
    if key == key_of c.call
    then (do
      store_child slot (new_leaf c.call)
      give (reply.Some value))
    else (do
      let d = keys_differ_at key (key_of c.call)
      pair_in c held slot d (record { byte = slice_index (key_bytes key) d; child = Leaf key value })
      give reply.None)
insert_in c held slot (ChildRow base kind) = give reply.None

-- PAIR with a child that is the row m, whose path differs from the key at d
unfoldable pub insert_beside : Setting → List Row → ℕ → Row → ℕ → Part Reply
insert_beside c held slot m d = do
  pair_in c held slot d (record { byte = slice_index m.path d; child = ChildRow m.base m.kind })
  give reply.None
