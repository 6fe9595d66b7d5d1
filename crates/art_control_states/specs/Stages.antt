-- What is left of a call at each stage.
use Rattle.std.specs.Prelude.{ℕ, suc, ◌+◌, ◌-◌, ◌*◌, ◌%◌, List, [], ◌∷◌, ◌++◌, length, set, take, slice_index, Bool, true, false, ◌==◌}
use Rattle.std.specs.Prelude.{nat_lt, if◌then◌else◌}
use Rattle.std.specs.Prelude.{Option, Some, None}
use Rattle.events.specs.declared.event.Call.{Call}
use Rattle.events.specs.declared.event.Reply.{Reply}
use Rattle.events.specs.declared.event.Reply.TheVariants as reply
use Rattle.art_rows.specs.declared.table.Shape.{Shape}
use Rattle.art_rows.specs.declared.table.Kind.{Kind}
use Rattle.art_rows.specs.declared.table.Kind.TheVariants.{Four, Sixteen, FortyEight, Full}
use Rattle.art_rows.specs.Table.{root_base, info_at, keys_at, more_keys_at, index_at, count_at, child_at}
use Rattle.art_rows.specs.Words.{locked_word, key_bytes, keys4_of, keys16_of, entries_of, count_of, place_of, new_place, with_key}
use Rattle.art_rows.specs.Words.{info_word, keys4_word}
use Rattle.art_rows.specs.Words.{keys16_word, more_keys16_word, entries_word, row_word}
use Rattle.art_rows.specs.declared.variant.Variant.{Variant}
use Rattle.art_control_states.specs.declared.stage.HeldRow.{HeldRow}
use Rattle.art_control_states.specs.declared.stage.Keys.{Keys}
use Rattle.art_control_states.specs.declared.stage.Finding.{Finding}
use Rattle.art_control_states.specs.declared.stage.Finding.TheVariants as seen
use Rattle.art_control_states.specs.declared.stage.Position.{Position}
use Rattle.art_control_states.specs.declared.stage.Down.{Down}
use Rattle.art_control_states.specs.declared.stage.Hold.{Hold}
use Rattle.art_control_states.specs.declared.stage.Pair.{Pair}
use Rattle.art_control_states.specs.declared.stage.Work.{Work}
use Rattle.art_control_states.specs.declared.stage.Work.TheVariants as work
use Rattle.art_control_states.specs.declared.stage.Target.{Target}
use Rattle.art_control_states.specs.declared.stage.Target.TheVariants.{Root, Below, Taken}
use Rattle.art_control_states.specs.declared.stage.PairWord.{PairWord}
use Rattle.art_control_states.specs.declared.stage.PairWord.TheVariants as pair_word
use Rattle.art_control_states.specs.declared.stage.Growing.{Growing}
use Rattle.art_control_states.specs.declared.stage.Spread.{Spread}
use Rattle.art_control_states.specs.declared.stage.Outcome.{Outcome}
use Rattle.art_control_states.specs.declared.stage.Outcome.TheVariants.{Value, Refused}
use Rattle.art_control_states.specs.declared.stage.Stage.{Stage}
use Rattle.art_control_states.specs.declared.stage.Stage.TheVariants as stage
use Rattle.art_rows.specs.Steps.{Answers, Rest, Part, ◌>>=◌, ◌>>◌, give, start_again, load, store, exchange, first_at, each, numbers}
use Rattle.art_rows.specs.Steps.{numbers_down}
use Rattle.art_rows.specs.Rows.{Setting, Row, Place, Found, Has, Lacks, row_of, key_of, byte_at, path_differs_at, is_insert, locks}
use Rattle.art_rows.specs.Rows.{releases_early, lock_point}
use Rattle.art_rows.specs.Rows.{lock, lock_again, unlock, unlock_obsolete, unlock_all, wait, check, check_of, take_row, find, find_child}
use Rattle.art_rows.specs.Updates.{Under, new_leaf, lesser, greater, store_child, copy_child, pair_in, put, grow, next_kind, store_index}
use Rattle.art_rows.specs.Updates.{spread_index}
use Rattle.art_rows.specs.Updates.{spread_entry}
use Rattle.art_rows.specs.Coupled as coupled
use Rattle.art_rows.specs.Optimistic as optimistic
use Rattle.art_rows.specs.Act.{act}

-- What the fields say.

abbrev pub row_at : HeldRow → Row
row_at h = row_of h.base h.kind h.info h.kept

abbrev pub held : ℕ → Kind → ℕ → ℕ → HeldRow
held base kind info kept = record { base = base; kind = kind; info = info; kept = kept }

abbrev pub rows_at : Option HeldRow → List Row
rows_at None = []
rows_at (Some h) = row_at h ∷ []

abbrev pub rows_held : Hold → List Row
rows_held h = row_at h.row ∷ rows_at h.above

abbrev pub place_at : Position → Place
place_at p = record { row = row_at p.row; above = rows_at p.above; slot = p.slot }

-- the key bytes; in kind 48 the entries of the byte's index word
abbrev pub keys_in : Kind → Keys → List ℕ
keys_in Four k = keys4_of k.first
keys_in Sixteen k = keys16_of k.count k.first k.second
keys_in FortyEight k = entries_of k.first
keys_in Full k = []

abbrev pub count_in : Kind → Keys → ℕ
count_in Four k = length (keys4_of k.first)
count_in Sixteen k = length (keys16_of k.count k.first k.second)
count_in FortyEight k = count_of 48 k.count
count_in Full k = 0

abbrev pub found_of : Kind → Finding → Found
found_of kind (seen.Has slot child) = Has slot child
found_of kind (seen.Lacks keys) = Lacks (keys_in kind keys) (count_in kind keys)

abbrev pub value_reply : Option ℕ → Reply
value_reply None = reply.None
value_reply (Some v) = reply.Some v

abbrev pub reply_for : Outcome → Reply
reply_for (Value value) = value_reply value
reply_for Refused = reply.Refused

abbrev pub target_base : Setting → Target → ℕ
target_base c Root = root_base c.shape
target_base c (Below down) = down.base
target_base c (Taken taking) = taking.row.base

-- the root, locked or waited for with this version
abbrev pub root_place : Setting → ℕ → Position
root_place c v = record { row = held (root_base c.shape) Full 3 v; above = None; slot = root_base c.shape }

-- The descents. Here and below the first two flags say that the variant locks what it reads, and that the call is an insert;
-- the third says that a row is unlocked before the next one is locked.

abbrev pub descend : Bool → Bool → Setting → Place → Part Reply
descend true false c p = coupled.seek_from c p.row
descend true true c p = coupled.insert_from c p
descend false false c p = optimistic.seek_from c p.row
descend false true c p = optimistic.insert_from c p

-- what is done with what FIND saw
abbrev pub found_then : Bool → Bool → Setting → Place → Found → Part Reply
found_then true false c p f = coupled.seek_at c (coupled.seek_from c) p.row f
found_then true true c p f = coupled.insert_at c (coupled.insert_from c) p f
found_then false false c p f = optimistic.seek_at c (optimistic.seek_from c) p.row f
found_then false true c p f = optimistic.insert_at c (optimistic.insert_from c) p f

-- if reads are not locked, the row is checked after FIND
abbrev pub checked_then : Bool → Bool → Setting → Place → Found → Part Reply
checked_then true i c p f = found_then true i c p f
checked_then false i c p f = do
  check_of c p.row
  found_then false i c p f

-- the byte of the key that selects a child of the row
abbrev pub byte_in : Setting → HeldRow → ℕ
byte_in c n = byte_at c (row_at n).level

-- the key bytes of a row that has them
abbrev pub keys_among : Kind → Keys → List ℕ
keys_among Four k = keys4_of k.first
keys_among Sixteen k = keys16_of k.count k.first k.second
keys_among kind k = []

-- where the byte is among the keys that were read
abbrev pub placed_then : Bool → Bool → Setting → Position → Keys → Option ℕ → Part Reply
placed_then l i c p keys None = checked_then l i c (place_at p) (found_of p.row.kind (seen.Lacks keys))
placed_then l i c p keys (Some x) = find_child c (child_at p.row.kind p.row.base x) >>= checked_then l i c (place_at p)

abbrev pub among_then : Bool → Bool → Setting → Position → Keys → Part Reply
among_then l i c p keys = placed_then l i c p keys (place_of (byte_in c p.row) (keys_among p.row.kind keys))

-- at row m below another: on, where its path is the beginning of the key
abbrev pub below_then : Bool → Bool → Setting → Row → ℕ → Row → Option ℕ → Part Reply
below_then true false c n slot m o = coupled.seek_below c (coupled.seek_from c) m o
below_then true true c n slot m o = coupled.insert_below c (coupled.insert_from c) n slot m o
below_then false false c n slot m o = optimistic.seek_below c (optimistic.seek_from c) m o
below_then false true c n slot m o = optimistic.insert_below c (optimistic.insert_from c) n slot m o

abbrev pub inform : Bool → Bool → Setting → Down → ℕ → Part Reply
inform l i c d v = do
  info ← load (info_at d.base)
  below_then l i c (row_at d.above) d.slot (row_of d.base d.kind info v) (path_differs_at c (row_of d.base d.kind info v))

-- the row below is locked or waited for, and has this version
abbrev pub arrived : Bool → Bool → Bool → Setting → Down → ℕ → Part Reply
arrived true true e c d v = inform true true c d v
arrived true false true c d v = inform true false c d v
arrived true false false c d v = do
  unlock (row_at d.above)
  inform true false c d v
arrived false i e c d v = do
  check_of c (row_at d.above)
  inform false i c d v

-- What is done in held rows.

-- the rows are unlocked, and the reply is none
abbrev pub finish : List Row → Part Reply
finish rows = do
  unlock_all rows
  give reply.None

abbrev pub old_child : Pair → Under
old_child p = record { byte = p.byte; child = p.child }

abbrev pub new_child : Setting → Pair → Under
new_child c p = record { byte = byte_at c p.level; child = new_leaf c.call }

abbrev pub work_in : Setting → Kind → Row → List Row → Work → Part Reply
work_in c kind n above (work.Write slot word value) = do
  store slot word
  unlock_all (n ∷ above)
  give (value_reply value)
work_in c kind n above (work.Pair p) = do
  pair_in c (n ∷ above) p.slot p.level (old_child p)
  finish (n ∷ above)
work_in c kind n above (work.Put keys) = do
  put c n (keys_in kind keys) (count_in kind keys)
  finish (n ∷ above)
work_in c kind n above (work.Grow slot keys) = do
  grow c above slot n (keys_in kind keys) (count_in kind keys)
  give reply.None

-- a row of this kind was taken, with this row above it held before, and this one below it to be taken next
abbrev pub taken : Setting → Option HeldRow → Option HeldRow → Work → Kind → Row → Part Reply
taken c above None work kind n = work_in c kind n (rows_at above) work
taken c above (Some below) work kind n = do
  m ← take_row c (n ∷ []) (row_at below)
  work_in c below.kind m (n ∷ []) work

-- the target is locked or waited for, and has this version
abbrev pub entered : Bool → Bool → Bool → Setting → Target → ℕ → Part Reply
entered l i e c Root v = descend l i c (place_at (root_place c v))
entered l i e c (Below d) v = arrived l i e c d v
entered l i e c (Taken t) v = taken c t.held t.below t.work t.row.kind (record (row_at t.row) { kept = v })

-- the rest of PAIR from its last child on, from its first child on, from its keys on, and from this word on

abbrev pub pair_greater : Setting → List Row → Pair → ℕ → Part Reply
pair_greater c rows p base = do
  store_child (child_at Four base 1) (greater (old_child p) (new_child c p)).child
  store p.slot (row_word base)
  finish rows

abbrev pub pair_lesser : Setting → List Row → Pair → ℕ → Part Reply
pair_lesser c rows p base = do
  store_child (child_at Four base 0) (lesser (old_child p) (new_child c p)).child
  pair_greater c rows p base

abbrev pub pair_keys : Setting → List Row → Pair → ℕ → Part Reply
pair_keys c rows p base = do
  store (keys_at base) (keys4_word ((lesser (old_child p) (new_child c p)).byte ∷ (greater (old_child p) (new_child c p)).byte ∷ []))
  pair_lesser c rows p base

abbrev pub pair_from : Setting → List Row → Pair → ℕ → PairWord → Part Reply
pair_from c rows p base pair_word.Info = do
  store (info_at base) (info_word Four p.level (take p.level (key_bytes (key_of c.call))))
  pair_keys c rows p base
pair_from c rows p base pair_word.Keys = pair_keys c rows p base
pair_from c rows p base pair_word.Lesser = pair_lesser c rows p base
pair_from c rows p base pair_word.Greater = pair_greater c rows p base

abbrev pub keys_before : Hold → Keys → List ℕ
keys_before h keys = keys_in h.row.kind keys

-- the place of the new child, in the kinds whose children are in the order of their bytes
abbrev pub place_in : Setting → Hold → Keys → ℕ
place_in c h keys = new_place (byte_in c h.row) (keys_before h keys)

abbrev pub keys_after : Setting → Hold → Keys → List ℕ
keys_after c h keys = with_key (byte_in c h.row) (keys_before h keys)

-- the rest of PUT from its count on,
abbrev pub put_count : Setting → Hold → Keys → Part Reply
put_count c h keys = do
  store (count_at h.row.kind h.row.base) (count_in h.row.kind keys + 1)
  finish (rows_held h)

abbrev pub put_more : Setting → Hold → Keys → Part Reply
put_more c h keys = do
  store (more_keys_at h.row.base) (more_keys16_word (keys_after c h keys))
  put_count c h keys

-- from its keys on,
abbrev pub put_keys : Kind → Setting → Hold → Keys → Part Reply
put_keys Four c h keys = do
  store (keys_at h.row.base) (keys4_word (keys_after c h keys))
  finish (rows_held h)
put_keys Sixteen c h keys = do
  store (keys_at h.row.base) (keys16_word (keys_after c h keys))
  put_more c h keys
put_keys FortyEight c h keys = do
  store (index_at h.row.base (byte_in c h.row))
      (entries_word (set (keys_before h keys) (byte_in c h.row % 8) (count_in FortyEight keys + 1)))
  put_count c h keys
put_keys Full c h keys = finish (rows_held h)

-- from its leaf on,
abbrev pub leaf_place : Kind → Setting → Hold → Keys → ℕ
leaf_place Four c h keys = place_in c h keys
leaf_place Sixteen c h keys = place_in c h keys
leaf_place FortyEight c h keys = count_in FortyEight keys
leaf_place Full c h keys = 0

abbrev pub put_leaf : Setting → Hold → Keys → Part Reply
put_leaf c h keys = do
  store_child (child_at h.row.kind h.row.base (leaf_place h.row.kind c h keys)) (new_leaf c.call)
  put_keys h.row.kind c h keys

-- PUT with this many children left to move
abbrev pub put_moves : Setting → Hold → Keys → ℕ → Part Reply
put_moves c h keys n = do
  each (numbers_down (place_in c h keys) n) (λ j. copy_child c (child_at h.row.kind h.row.base j) (child_at h.row.kind h.row.base (j + 1)))
  put_leaf c h keys

-- GROW: the rest of it from the slot of the row above on,
abbrev pub hang : Growing → Part Reply
hang g = do
  store g.slot (row_word g.base)
  unlock_obsolete (row_at g.hold.row)
  finish (rows_at g.hold.above)

-- from its count on,
abbrev pub grow_count : Kind → Growing → Part Reply
grow_count Four g = do
  store (count_at Sixteen g.base) (count_in Four g.keys + 1)
  hang g
grow_count kind g = do
  store (count_at FortyEight g.base) 17
  hang g

-- from its key words or index words on, with the number of words from place j on,
abbrev pub store_keys : Kind → Setting → Growing → ℕ → Part (Unit {0})
store_keys Four c g j =
    if j == 0 then store (keys_at g.base) (keys16_word (keys_after c g.hold g.keys))
    else store (more_keys_at g.base) (more_keys16_word (keys_after c g.hold g.keys))
store_keys kind c g j = store_index g.base (keys_before g.hold g.keys ++ byte_in c g.hold.row ∷ []) j

abbrev pub grow_keys : Kind → Setting → Growing → ℕ → ℕ → Part Reply
grow_keys kind c g j n = do
  each (numbers j n) (store_keys kind c g)
  grow_count kind g

-- from its leaf on,
abbrev pub grow_leaf : Kind → Setting → Growing → Part Reply
grow_leaf Four c g = do
  store_child (child_at Sixteen g.base (place_in c g.hold g.keys)) (new_leaf c.call)
  grow_keys Four c g 0 2
grow_leaf Sixteen c g = do
  store_child (child_at FortyEight g.base 16) (new_leaf c.call)
  grow_keys Sixteen c g 0 32
grow_leaf kind c g = do
  store_child (child_at Full g.base (byte_in c g.hold.row)) (new_leaf c.call)
  hang g

-- with this many children to be copied from place i on,
abbrev pub new_child_at : Kind → Setting → Growing → ℕ → ℕ
new_child_at Four c g i = child_at Sixteen g.base (if nat_lt i (place_in c g.hold g.keys) then i else i + 1)
new_child_at kind c g i = child_at FortyEight g.base i

abbrev pub grow_copies : Setting → Growing → ℕ → ℕ → Part Reply
grow_copies c g i n = do
  each (numbers i n) (λ i. copy_child c (child_at g.hold.row.kind g.hold.row.base i) (new_child_at g.hold.row.kind c g i))
  grow_leaf g.hold.row.kind c g

-- in kind 48 with this many index words to be spread from word j on,
abbrev pub grow_spreads : Setting → Growing → ℕ → ℕ → Part Reply
grow_spreads c g j n = do
  each (numbers j n) (spread_index c (row_at g.hold.row) g.base)
  grow_leaf g.hold.row.kind c g

-- GROW with this many entries of one index word left to spread, from entry i on
abbrev pub spread_rest : Setting → Spread → ℕ → ℕ → Part Reply
spread_rest c s i n = do
  each (numbers i n) (spread_entry c (row_at s.growing.hold.row) s.growing.base s.place (entries_of s.word))
  grow_spreads c s.growing (s.place + 1) s.left

-- GROW after it has stored the row's info
abbrev pub fill_from : Kind → Setting → Growing → Part Reply
fill_from Four c g = grow_copies c g 0 (count_in Four g.keys)
fill_from Sixteen c g = grow_copies c g 0 (count_in Sixteen g.keys)
fill_from FortyEight c g = grow_spreads c g 0 32
fill_from Full c g = hang g

-- where the call ends, or starts again
abbrev pub end_with : Option Outcome → Part Reply
end_with None = start_again
end_with (Some outcome) = give (reply_for outcome)

-- What is left of the call's procedure.
unfoldable pub part_of : Bool → Bool → Bool → Setting → Stage → Part Reply
part_of l i e c (stage.Lock target true) = lock c.shape (target_base c target) >>= entered l i e c target
part_of l i e c (stage.Lock target false) = lock_again (target_base c target) >>= entered l i e c target
part_of l i e c (stage.Exchange target v) = do
  was ← exchange (target_base c target) v (locked_word v)
  w ← (if was == v then give v else lock_again (target_base c target))
  entered l i e c target w
part_of l i e c (stage.Wait target) = wait (target_base c target) >>= entered l i e c target
part_of l i e c (stage.Leave d) = do
  unlock (row_at d.above)
  v ← lock c.shape d.base
  entered l i e c (Below d) v
part_of true i e c (stage.Between d kept) = do
  unlock (row_at d.above)
  inform true i c d kept
part_of false i e c (stage.Between d kept) = do
  check (row_at d.above)
  inform false i c d kept
part_of l i e c (stage.Info d kept) = inform l i c d kept
part_of l i e c (stage.Find p) = find c (row_at p.row) >>= checked_then l i c (place_at p)
part_of l i e c (stage.FindKeys p count) = do
  first ← load (keys_at p.row.base)
  second ← load (more_keys_at p.row.base)
  among_then l i c p (record { first = first; second = second; count = count })
part_of l i e c (stage.FindMore p count first) = do
  second ← load (more_keys_at p.row.base)
  among_then l i c p (record { first = first; second = second; count = count })
part_of l i e c (stage.FindCount p index) = do
  count ← load (count_at FortyEight p.row.base)
  checked_then l i c (place_at p) (found_of p.row.kind (seen.Lacks (record { first = index; second = 0; count = count })))
part_of l i e c (stage.Slot p slot) = find_child c slot >>= checked_then l i c (place_at p)
part_of l i e c (stage.Check p f) = do
  check (row_at p.row)
  found_then l i c (place_at p) (found_of p.row.kind f)
part_of l i e c (stage.CheckLast n) = do
  check (row_at n)
  give reply.None
part_of l i e c (stage.LetGo above p f) = do
  unlock (row_at above)
  found_then l i c (place_at p) (found_of p.row.kind f)
part_of l i e c (stage.Take t) = do
  was ← first_at (lock_point c.shape t.row.base) (exchange t.row.base t.row.kept (locked_word t.row.kept))
  n ← (if was == t.row.kept then give (row_at t.row) else do
    unlock_all (rows_at t.held)
    start_again)
  taken c t.held t.below t.work t.row.kind n
part_of l i e c (stage.Write h slot word value) = work_in c h.row.kind (row_at h.row) (rows_at h.above) (work.Write slot word value)
part_of l i e c (stage.ClaimPair h p) = work_in c h.row.kind (row_at h.row) (rows_at h.above) (work.Pair p)
part_of l i e c (stage.StorePair h p base word) = pair_from c (rows_held h) p base word
part_of l i e c (stage.PutLoad h keys left) = put_moves c h keys (suc left)
part_of l i e c (stage.PutStore h keys left word) = do
  store (child_at h.row.kind h.row.base (place_in c h keys + left + 1)) word
  put_moves c h keys left
part_of l i e c (stage.PutLeaf h keys) = put_leaf c h keys
part_of l i e c (stage.PutKeys h keys) = put_keys h.row.kind c h keys
part_of l i e c (stage.PutMore h keys) = put_more c h keys
part_of l i e c (stage.PutCount h keys) = put_count c h keys
part_of l i e c (stage.ClaimGrow h slot keys) = work_in c h.row.kind (row_at h.row) (rows_at h.above) (work.Grow slot keys)
part_of l i e c (stage.GrowInfo g) = do
  store (info_at g.base) (info_word (next_kind g.hold.row.kind) (row_at g.hold.row).level (row_at g.hold.row).path)
  fill_from g.hold.row.kind c g
part_of l i e c (stage.GrowLoad g place left) = grow_copies c g place (suc left)
part_of l i e c (stage.GrowStore g place left word) = do
  store (new_child_at g.hold.row.kind c g place) word
  grow_copies c g (place + 1) left
part_of l i e c (stage.SpreadIndex g j left) = grow_spreads c g j (suc left)
part_of l i e c (stage.SpreadLoad s entry left) = do
  copy_child c (child_at FortyEight s.growing.hold.row.base (slice_index (entries_of s.word) entry - 1))
      (child_at Full s.growing.base (8 * s.place + entry))
  spread_rest c s (entry + 1) left
part_of l i e c (stage.SpreadStore s entry left word) = do
  store (child_at Full s.growing.base (8 * s.place + entry)) word
  spread_rest c s (entry + 1) left
part_of l i e c (stage.GrowLeaf g) = grow_leaf g.hold.row.kind c g
part_of l i e c (stage.GrowKeys g j left) = grow_keys g.hold.row.kind c g j (suc left)
part_of l i e c (stage.GrowCount g) = grow_count g.hold.row.kind g
part_of l i e c (stage.Hang g) = hang g
part_of l i e c (stage.Obsolete h) = do
  unlock_obsolete (row_at h.row)
  finish (rows_at h.above)
part_of l i e c (stage.Unlock h outcome) = do
  unlock_all (rows_held h)
  end_with outcome
part_of l i e c (stage.Over outcome) = give (reply_for outcome)

-- the end of a call
abbrev pub ends : Reply → Rest
ends r got = Answers r

unfoldable pub rest_in : Setting → Stage → Rest
rest_in c stage = part_of (locks c.variant) (is_insert c.call) (releases_early c.variant) c stage (act c.shape c.variant c.call) ends

abbrev pub setting : Shape → Variant → Call → Setting
setting shape variant call = record { shape = shape; variant = variant; call = call }
