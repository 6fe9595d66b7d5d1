-- The automaton of a call on a key: what a stage does next, and which stage comes after a word that it got.
use Rattle.std.specs.Prelude.{ℕ, zero, suc, ◌+◌, ◌-◌, ◌*◌, ◌%◌, [], ◌∷◌, ◌++◌, map, set, take, slice_index, Bool, true, false, ◌==◌, nat_lt}
use Rattle.std.specs.Prelude.{nat_le}
use Rattle.std.specs.Prelude.{if◌then◌else◌, Option, Some, None}
use Rattle.art_rows.specs.declared.table.Kind.{Kind}
use Rattle.art_rows.specs.declared.table.Kind.TheVariants.{Four, Sixteen, FortyEight, Full}
use Rattle.art_rows.specs.declared.table.Child.TheVariants.{Empty, Row as ChildRow, Leaf}
use Rattle.art_rows.specs.Table.{rows_of, claims_of, base_of, info_at, keys_at, more_keys_at, index_at, count_at, child_at}
use Rattle.art_rows.specs.Words.{is_locked, is_obsolete, locked_word, released_word, obsolete_word, key_bytes, entries_of, entries_word}
use Rattle.art_rows.specs.Words.{place_of, info_word}
use Rattle.art_rows.specs.Words.{keys4_word, keys16_word, more_keys16_word, child_of, child_word, row_word}
use Rattle.art_control_states.specs.declared.stage.HeldRow.{HeldRow}
use Rattle.art_control_states.specs.declared.stage.Keys.{Keys}
use Rattle.art_control_states.specs.declared.stage.Finding.{Finding}
use Rattle.art_control_states.specs.declared.stage.Finding.TheVariants.{Has, Lacks}
use Rattle.art_control_states.specs.declared.stage.Position.{Position}
use Rattle.art_control_states.specs.declared.stage.Down.{Down}
use Rattle.art_control_states.specs.declared.stage.Hold.{Hold}
use Rattle.art_control_states.specs.declared.stage.Pair.{Pair}
use Rattle.art_control_states.specs.declared.stage.Work.{Work}
use Rattle.art_control_states.specs.declared.stage.Work.TheVariants as work
use Rattle.art_control_states.specs.declared.stage.Taking.{Taking}
use Rattle.art_control_states.specs.declared.stage.Target.{Target}
use Rattle.art_control_states.specs.declared.stage.Target.TheVariants.{Root, Below, Taken}
use Rattle.art_control_states.specs.declared.stage.PairWord.{PairWord}
use Rattle.art_control_states.specs.declared.stage.PairWord.TheVariants as pair_word
use Rattle.art_control_states.specs.declared.stage.Growing.{Growing}
use Rattle.art_control_states.specs.declared.stage.Spread.{Spread}
use Rattle.art_control_states.specs.declared.stage.Outcome.{Outcome}
use Rattle.art_control_states.specs.declared.stage.Outcome.TheVariants.{Value, Refused}
use Rattle.art_control_states.specs.declared.stage.Stage.{Stage}
use Rattle.art_control_states.specs.declared.stage.Stage.TheVariants.{Lock, Exchange, Wait, Leave, Between, Info, Find, FindKeys, FindMore}
use Rattle.art_control_states.specs.declared.stage.Stage.TheVariants.{FindCount, Slot, Check}
use Rattle.art_control_states.specs.declared.stage.Stage.TheVariants.{CheckLast, LetGo, Take, Write, ClaimPair, StorePair, PutLoad, PutStore}
use Rattle.art_control_states.specs.declared.stage.Stage.TheVariants.{PutLeaf, PutKeys, PutMore}
use Rattle.art_control_states.specs.declared.stage.Stage.TheVariants.{PutCount, ClaimGrow, GrowInfo, GrowLoad, GrowStore, SpreadIndex, SpreadLoad}
use Rattle.art_control_states.specs.declared.stage.Stage.TheVariants.{SpreadStore}
use Rattle.art_control_states.specs.declared.stage.Stage.TheVariants.{GrowLeaf, GrowKeys, GrowCount, Hang, Obsolete, Unlock, Over}
use Rattle.art_rows.specs.declared.access.Access.TheVariants.{Load, Store, Exchange as Swap, Add}
use Rattle.art_rows.specs.declared.access.Point.TheVariants as point
use Rattle.art_rows.specs.Steps.{Turn, Asks, Answers, numbers}
use Rattle.art_rows.specs.Rows.{Setting, is_insert, is_full, locks, releases_early, leaves_out_check, takes_unchecked, lock_point, key_of}
use Rattle.art_rows.specs.Rows.{path_differs_at}
use Rattle.art_rows.specs.Updates.{overwriting, new_leaf, lesser, greater, new_entry, next_kind, keys_differ_at}
use Rattle.art_control_states.specs.Stages.{row_at, held, root_place, target_base, keys_among, count_in, byte_in, keys_before, keys_after, place_in}
use Rattle.art_control_states.specs.Stages.{leaf_place}
use Rattle.art_control_states.specs.Stages.{old_child, new_child, new_child_at, reply_for}

-- What comes next.

abbrev pub load_of : ℕ → Turn
load_of word = Asks (Load word) None

abbrev pub store_of : ℕ → ℕ → Turn
store_of word value = Asks (Store word value) None

abbrev pub unlock_of : HeldRow → Turn
unlock_of n = Asks (Store n.base (released_word n.kept)) (Some point.Unlock)

abbrev pub check_turn : HeldRow → Turn
check_turn n = Asks (Load n.base) (Some point.Check)

-- between two rows, where reads are locked and where they are not
abbrev pub between_turn : Bool → Down → Turn
between_turn true d = unlock_of d.above
between_turn false d = check_turn d.above

-- FIND's first word
abbrev pub find_turn : Kind → Setting → HeldRow → Turn
find_turn Four c n = load_of (keys_at n.base)
find_turn Sixteen c n = load_of (count_at Sixteen n.base)
find_turn FortyEight c n = load_of (index_at n.base (byte_in c n))
find_turn Full c n = load_of (child_at Full n.base (byte_in c n))

abbrev pub pair_turn : Setting → Pair → ℕ → PairWord → Turn
pair_turn c p base pair_word.Info = store_of (info_at base) (info_word Four p.level (take p.level (key_bytes (key_of c.call))))
pair_turn c p base pair_word.Keys =
    store_of (keys_at base) (keys4_word ((lesser (old_child p) (new_child c p)).byte ∷ (greater (old_child p) (new_child c p)).byte ∷ []))
pair_turn c p base pair_word.Lesser = store_of (child_at Four base 0) (child_word (lesser (old_child p) (new_child c p)).child)
pair_turn c p base pair_word.Greater = store_of (child_at Four base 1) (child_word (greater (old_child p) (new_child c p)).child)

abbrev pub put_keys_turn : Kind → Setting → Hold → Keys → Turn
put_keys_turn Four c h keys = store_of (keys_at h.row.base) (keys4_word (keys_after c h keys))
put_keys_turn Sixteen c h keys = store_of (keys_at h.row.base) (keys16_word (keys_after c h keys))
put_keys_turn FortyEight c h keys =
    store_of (index_at h.row.base (byte_in c h.row))
    (entries_word (set (keys_before h keys) (byte_in c h.row % 8) (count_in FortyEight keys + 1)))
put_keys_turn Full c h keys = unlock_of h.row

abbrev pub grow_keys_turn : Kind → Setting → Growing → ℕ → Turn
grow_keys_turn Four c g j =
    if j == 0 then store_of (keys_at g.base) (keys16_word (keys_after c g.hold g.keys))
    else store_of (more_keys_at g.base) (more_keys16_word (keys_after c g.hold g.keys))
grow_keys_turn kind c g j =
    store_of (index_at g.base (8 * j)) (entries_word (map (new_entry (keys_before g.hold g.keys ++ byte_in c g.hold.row ∷ []))
    (numbers (8 * j) 8)))

abbrev pub grow_leaf_turn : Kind → Setting → Growing → Turn
grow_leaf_turn Four c g = store_of (child_at Sixteen g.base (place_in c g.hold g.keys)) (child_word (new_leaf c.call))
grow_leaf_turn Sixteen c g = store_of (child_at FortyEight g.base 16) (child_word (new_leaf c.call))
grow_leaf_turn kind c g = store_of (child_at Full g.base (byte_in c g.hold.row)) (child_word (new_leaf c.call))

abbrev pub grow_count_turn : Kind → Growing → Turn
grow_count_turn Four g = store_of (count_at Sixteen g.base) (count_in Four g.keys + 1)
grow_count_turn kind g = store_of (count_at FortyEight g.base) 17

-- What a stage does next: its access and the point, or the reply.
abbrev pub turn_at : Setting → Stage → Turn
turn_at c (Lock t true) = Asks (Load (target_base c t)) (Some (lock_point c.shape (target_base c t)))
turn_at c (Lock t false) = load_of (target_base c t)
turn_at c (Exchange t v) = Asks (Swap (target_base c t) v (locked_word v)) None
turn_at c (Wait t) = load_of (target_base c t)
turn_at c (Leave d) = unlock_of d.above
turn_at c (Between d kept) = between_turn (locks c.variant) d
turn_at c (Info d kept) = load_of (info_at d.base)
turn_at c (Find p) = find_turn p.row.kind c p.row
turn_at c (FindKeys p count) = load_of (keys_at p.row.base)
turn_at c (FindMore p count first) = load_of (more_keys_at p.row.base)
turn_at c (FindCount p index) = load_of (count_at FortyEight p.row.base)
turn_at c (Slot p slot) = Asks (Load slot) (Some point.Child)
turn_at c (Check p f) = check_turn p.row
turn_at c (CheckLast n) = check_turn n
turn_at c (LetGo above p f) = unlock_of above
turn_at c (Take t) = Asks (Swap t.row.base t.row.kept (locked_word t.row.kept)) (Some (lock_point c.shape t.row.base))
turn_at c (Write h slot word value) = store_of slot word
turn_at c (ClaimPair h p) = Asks (Add (claims_of Four)) None
turn_at c (StorePair h p base word) = pair_turn c p base word
turn_at c (PutLoad h keys left) = load_of (child_at h.row.kind h.row.base (place_in c h keys + left))
turn_at c (PutStore h keys left word) = store_of (child_at h.row.kind h.row.base (place_in c h keys + left + 1)) word
turn_at c (PutLeaf h keys) = store_of (child_at h.row.kind h.row.base (leaf_place h.row.kind c h keys)) (child_word (new_leaf c.call))
turn_at c (PutKeys h keys) = put_keys_turn h.row.kind c h keys
turn_at c (PutMore h keys) = store_of (more_keys_at h.row.base) (more_keys16_word (keys_after c h keys))
turn_at c (PutCount h keys) = store_of (count_at h.row.kind h.row.base) (count_in h.row.kind keys + 1)
turn_at c (ClaimGrow h slot keys) = Asks (Add (claims_of (next_kind h.row.kind))) None
turn_at c (GrowInfo g) = store_of (info_at g.base) (info_word (next_kind g.hold.row.kind) (row_at g.hold.row).level
    (row_at g.hold.row).path)
turn_at c (GrowLoad g i left) = load_of (child_at g.hold.row.kind g.hold.row.base i)
turn_at c (GrowStore g i left word) = store_of (new_child_at g.hold.row.kind c g i) word
turn_at c (SpreadIndex g j left) = load_of (index_at g.hold.row.base (8 * j))
turn_at c (SpreadLoad s i left) = load_of (child_at FortyEight s.growing.hold.row.base (slice_index (entries_of s.word) i - 1))
turn_at c (SpreadStore s i left word) = store_of (child_at Full s.growing.base (8 * s.place + i)) word
turn_at c (GrowLeaf g) = grow_leaf_turn g.hold.row.kind c g
turn_at c (GrowKeys g j left) = grow_keys_turn g.hold.row.kind c g j
turn_at c (GrowCount g) = grow_count_turn g.hold.row.kind g
turn_at c (Hang g) = store_of g.slot (row_word g.base)
turn_at c (Obsolete h) = Asks (Store h.row.base (obsolete_word h.row.kept)) (Some point.Unlock)
turn_at c (Unlock h outcome) = unlock_of h.row
turn_at c (Over outcome) = Answers (reply_for outcome)

-- Which stage comes then. The flags are those of Stages.

abbrev pub start_at : Bool → Stage
start_at true = Lock Root true
start_at false = Wait Root

abbrev pub hold_alone : HeldRow → Hold
hold_alone n = record { row = n; above = None }

abbrev pub end_at : Bool → Option Outcome → Stage
end_at l None = start_at l
end_at l (Some outcome) = Over outcome

-- with these rows still to be unlocked
abbrev pub release_at : Bool → Option HeldRow → Option Outcome → Stage
release_at l None outcome = end_at l outcome
release_at l (Some n) outcome = Unlock (hold_alone n) outcome

abbrev pub no_value : Outcome
no_value = Value None

-- Work begins.

abbrev pub moves_at : Hold → Keys → ℕ → Stage
moves_at h keys zero = PutLeaf h keys
moves_at h keys (suc n) = PutLoad h keys n

abbrev pub put_at : Kind → Setting → Hold → Keys → Stage
put_at Four c h keys = moves_at h keys (count_in Four keys - place_in c h keys)
put_at Sixteen c h keys = moves_at h keys (count_in Sixteen keys - place_in c h keys)
put_at FortyEight c h keys = PutLeaf h keys
put_at Full c h keys = Unlock h (Some no_value)

abbrev pub work_at : Setting → Hold → Work → Stage
work_at c h (work.Write slot word value) = Write h slot word value
work_at c h (work.Pair p) = ClaimPair h p
work_at c h (work.Put keys) = put_at h.row.kind c h keys
work_at c h (work.Grow slot keys) = ClaimGrow h slot keys

abbrev pub take_at : Setting → Taking → Stage
take_at c t = if takes_unchecked c.variant then Lock (Taken t) true else Take t

-- a row was taken
abbrev pub taken_at : Setting → Option HeldRow → Option HeldRow → Work → HeldRow → Stage
taken_at c above None work n = work_at c (record { row = n; above = above }) work
taken_at c above (Some below) work n = take_at c (record { row = below; held = Some n; below = None; work = work })

-- What is done with what FIND saw.

abbrev pub leaf_work : Setting → ℕ → Option ℕ → Work
leaf_work c slot value = work.Write slot (child_word (new_leaf c.call)) value

abbrev pub pair_work : Setting → ℕ → ℕ → ℕ → Work
pair_work c slot key value =
    work.Pair
    (record {
      slot = slot;
      level = keys_differ_at key (key_of c.call);
      byte = slice_index (key_bytes key) (keys_differ_at key (key_of c.call));
      child = Leaf key value;
    })

abbrev pub beside_work : ℕ → HeldRow → ℕ → Work
beside_work slot m d = work.Pair (record { slot = slot; level = d; byte = slice_index (row_at m).path d; child = ChildRow m.base m.kind })

abbrev pub down_from : HeldRow → ℕ → ℕ → Kind → Down
down_from n slot base kind = record { above = n; slot = slot; base = base; kind = kind }

-- a get or remove that locks
abbrev pub overwrite_at : HeldRow → ℕ → ℕ → Option ℕ → Stage
overwrite_at n slot value None = Unlock (hold_alone n) (Some (Value (Some value)))
overwrite_at n slot value (Some word) = Write (hold_alone n) slot word (Some value)

abbrev pub seek_coupled : Bool → Setting → HeldRow → Finding → Stage
seek_coupled e c n (Lacks keys) = Unlock (hold_alone n) (Some no_value)
seek_coupled e c n (Has slot Empty) = Unlock (hold_alone n) (Some no_value)
seek_coupled e c n (Has slot (Leaf key value)) =
    if key == key_of c.call then overwrite_at n slot value (overwriting c.call value) else Unlock (hold_alone n) (Some no_value)
seek_coupled e c n (Has slot (ChildRow base kind)) =
    if e then Leave (down_from n slot base kind) else Lock (Below (down_from n slot base kind)) true

-- an insert that locks, once the row above is unlocked
abbrev pub insert_coupled : Setting → HeldRow → Finding → Stage
insert_coupled c n (Lacks keys) = work_at c (hold_alone n) (work.Put keys)
insert_coupled c n (Has slot Empty) = Write (hold_alone n) slot (child_word (new_leaf c.call)) None
insert_coupled c n (Has slot (Leaf key value)) =
    if key == key_of c.call then Write (hold_alone n) slot (child_word (new_leaf c.call)) (Some value) else work_at c (hold_alone n)
    (pair_work c slot key value)
insert_coupled c n (Has slot (ChildRow base kind)) = Lock (Below (down_from n slot base kind)) true

abbrev pub let_go_at : Setting → HeldRow → Option HeldRow → ℕ → Finding → Stage
let_go_at c n None slot f = insert_coupled c n f
let_go_at c n (Some above) slot f = LetGo above (record { row = n; above = None; slot = slot }) f

abbrev pub has_room : HeldRow → Finding → Bool
has_room n (Has slot child) = true
has_room n (Lacks keys) = if is_full (row_at n) (count_in n.kind keys) then false else true

abbrev pub place_coupled : Setting → Position → Finding → Stage
place_coupled c p (Has slot child) = let_go_at c p.row p.above p.slot (Has slot child)
place_coupled c p (Lacks keys) =
    if is_full (row_at p.row) (count_in p.row.kind keys) then ClaimGrow
    (record { row = p.row; above = p.above }) p.slot keys else let_go_at c p.row p.above p.slot (Lacks keys)

-- where a call without locks overwrites a slot
abbrev pub overwrite_unlocked : Setting → HeldRow → ℕ → ℕ → Option ℕ → Stage
overwrite_unlocked c n slot value None = Over (Value (Some value))
overwrite_unlocked c n slot value (Some word) =
    take_at c (record { row = n; held = None; below = None; work = work.Write slot word (Some value) })

abbrev pub seek_unlocked : Setting → HeldRow → Finding → Stage
seek_unlocked c n (Lacks keys) = Over no_value
seek_unlocked c n (Has slot Empty) = Over no_value
seek_unlocked c n (Has slot (Leaf key value)) =
    if key == key_of c.call then overwrite_unlocked c n slot value (overwriting c.call value) else Over no_value
seek_unlocked c n (Has slot (ChildRow base kind)) = Wait (Below (down_from n slot base kind))

abbrev pub take_alone : Setting → HeldRow → Work → Stage
take_alone c n work = take_at c (record { row = n; held = None; below = None; work = work })

-- the row above is taken first
abbrev pub grow_unlocked : Setting → HeldRow → Option HeldRow → ℕ → Keys → Stage
grow_unlocked c n None slot keys = take_alone c n (work.Grow slot keys)
grow_unlocked c n (Some above) slot keys = take_at c (record { row = above; held = None; below = Some n; work = work.Grow slot keys })

abbrev pub insert_unlocked : Setting → Position → Finding → Stage
insert_unlocked c p (Lacks keys) =
    if is_full (row_at p.row) (count_in p.row.kind keys) then grow_unlocked c p.row p.above p.slot keys else take_alone c
    p.row (work.Put keys)
insert_unlocked c p (Has slot Empty) = take_alone c p.row (leaf_work c slot None)
insert_unlocked c p (Has slot (Leaf key value)) =
    if key == key_of c.call then take_alone c p.row (leaf_work c slot (Some value))
    else if nat_le (keys_differ_at key (key_of c.call)) (row_at p.row).level then Wait Root
    else take_alone c p.row (pair_work c slot key value)
insert_unlocked c p (Has slot (ChildRow base kind)) = Wait (Below (down_from p.row slot base kind))

abbrev pub found_at : Bool → Bool → Bool → Setting → Position → Finding → Stage
found_at true false e c p f = seek_coupled e c p.row f
found_at true true e c p f = place_coupled c p f
found_at false false e c p f = seek_unlocked c p.row f
found_at false true e c p f = insert_unlocked c p f

abbrev pub checked_at : Bool → Bool → Bool → Setting → Position → Finding → Stage
checked_at true i e c p f = found_at true i e c p f
checked_at false i e c p f = if leaves_out_check c.variant c.call then found_at false i e c p f else Check p f

-- FIND

abbrev pub among_at : Bool → Bool → Bool → Setting → Position → Keys → Option ℕ → Stage
among_at l i e c p keys None = checked_at l i e c p (Lacks keys)
among_at l i e c p keys (Some place) = Slot p (child_at p.row.kind p.row.base place)

abbrev pub words_at : Bool → Bool → Bool → Setting → Position → Keys → Stage
words_at l i e c p keys = among_at l i e c p keys (place_of (byte_in c p.row) (keys_among p.row.kind keys))

abbrev pub keys_one : ℕ → Keys
keys_one word = record { first = word; second = 0; count = 0 }

abbrev pub indexed_at : Bool → Bool → Bool → Setting → Position → ℕ → ℕ → Stage
indexed_at l i e c p index entry =
    if entry == 0 then (if is_insert c.call then FindCount p index else checked_at l i e c p (Lacks (keys_one index))) else Slot p
    (child_at FortyEight p.row.base (entry - 1))

abbrev pub find_at : Bool → Bool → Bool → Kind → Setting → Position → ℕ → Stage
find_at l i e Four c p w = words_at l i e c p (keys_one w)
find_at l i e Sixteen c p w = FindKeys p w
find_at l i e FortyEight c p w = indexed_at l i e c p w (slice_index (entries_of w) (byte_in c p.row % 8))
find_at l i e Full c p w = checked_at l i e c p (Has (child_at Full p.row.base (byte_in c p.row)) (child_of c.shape w))

-- the way down

abbrev pub arrived_at : Bool → Bool → Bool → Setting → Down → ℕ → Stage
arrived_at true true e c d v = Info d v
arrived_at true false true c d v = Info d v
arrived_at true false false c d v = Between d v
arrived_at false i e c d v = if leaves_out_check c.variant c.call then Info d v else Between d v

abbrev pub entered_at : Bool → Bool → Bool → Setting → Target → ℕ → Stage
entered_at l i e c Root v = Find (root_place c v)
entered_at l i e c (Below d) v = arrived_at l i e c d v
entered_at l i e c (Taken t) v = taken_at c t.held t.below t.work (held t.row.base t.row.kind t.row.info v)

abbrev pub below_at : Bool → Bool → Setting → Down → HeldRow → Option ℕ → Stage
below_at l i c d m None = Find (record { row = m; above = Some d.above; slot = d.slot })
below_at true false c d m (Some x) = Unlock (hold_alone m) (Some no_value)
below_at true true c d m (Some x) =
    ClaimPair (record { row = m; above = Some d.above })
    (record { slot = d.slot; level = x; byte = slice_index (row_at m).path x; child = ChildRow m.base m.kind })
below_at false false c d m (Some x) = if leaves_out_check c.variant c.call then Over no_value else CheckLast m
below_at false true c d m (Some x) = if nat_le x (row_at d.above).level then Wait Root else take_alone c d.above (beside_work d.slot m x)

-- the parts of PUT and GROW

abbrev pub pair_after : Hold → Pair → ℕ → PairWord → Stage
pair_after h p base pair_word.Info = StorePair h p base pair_word.Keys
pair_after h p base pair_word.Keys = StorePair h p base pair_word.Lesser
pair_after h p base pair_word.Lesser = StorePair h p base pair_word.Greater
pair_after h p base pair_word.Greater = Write h p.slot (row_word base) None

abbrev pub put_keys_after : Bool → Kind → Hold → Keys → Stage
put_keys_after l Four h keys = Unlock h (Some no_value)
put_keys_after l Sixteen h keys = PutMore h keys
put_keys_after l FortyEight h keys = PutCount h keys
put_keys_after l Full h keys = release_at l h.above (Some no_value)

abbrev pub copies_at : Growing → ℕ → ℕ → Stage
copies_at g i zero = GrowLeaf g
copies_at g i (suc n) = GrowLoad g i n

abbrev pub spreads_at : Growing → ℕ → ℕ → Stage
spreads_at g j zero = GrowLeaf g
spreads_at g j (suc n) = SpreadIndex g j n

abbrev pub entries_at : Spread → ℕ → ℕ → Stage
entries_at s i zero = spreads_at s.growing (s.place + 1) s.left
entries_at s i (suc n) = if slice_index (entries_of s.word) i == 0 then entries_at s (i + 1) n else SpreadLoad s i n

abbrev pub fill_at : Kind → Growing → Stage
fill_at Four g = copies_at g 0 (count_in Four g.keys)
fill_at Sixteen g = copies_at g 0 (count_in Sixteen g.keys)
fill_at FortyEight g = SpreadIndex g 0 31
fill_at Full g = Hang g

abbrev pub leaf_after : Kind → Growing → Stage
leaf_after Four g = GrowKeys g 0 1
leaf_after Sixteen g = GrowKeys g 0 31
leaf_after kind g = Hang g

abbrev pub keys_at_after : Growing → ℕ → ℕ → Stage
keys_at_after g j zero = GrowCount g
keys_at_after g j (suc n) = GrowKeys g (j + 1) n

abbrev pub after_with : Bool → Bool → Bool → Setting → Stage → ℕ → Stage
after_with l i e c (Lock t first) w = if is_locked w then Lock t false else Exchange t w
after_with l i e c (Exchange t v) w = if w == v then entered_at l i e c t v else Lock t false
after_with l i e c (Wait t) w = if is_locked w then Wait t else if is_obsolete w then start_at l else entered_at l i e c t w
after_with l i e c (Leave d) w = Lock (Below d) true
after_with true i e c (Between d kept) w = Info d kept
after_with false i e c (Between d kept) w = if w == d.above.kept then Info d kept else Wait Root
after_with l i e c (Info d kept) w = below_at l i c d (held d.base d.kind w kept) (path_differs_at c (row_at (held d.base d.kind w kept)))
after_with l i e c (Find p) w = find_at l i e p.row.kind c p w
after_with l i e c (FindKeys p count) w = FindMore p count w
after_with l i e c (FindMore p count first) w = words_at l i e c p (record { first = first; second = w; count = count })
after_with l i e c (FindCount p index) w = checked_at l i e c p (Lacks (record { first = index; second = 0; count = w }))
after_with l i e c (Slot p slot) w = checked_at l i e c p (Has slot (child_of c.shape w))
after_with l i e c (Check p f) w = if w == p.row.kept then found_at l i e c p f else start_at l
after_with l i e c (CheckLast n) w = if w == n.kept then Over no_value else start_at l
after_with l i e c (LetGo above p f) w = found_at l i e c p f
after_with l i e c (Take t) w = if w == t.row.kept then taken_at c t.held t.below t.work t.row else release_at l t.held None
after_with l i e c (Write h slot word value) w = Unlock h (Some (Value value))
after_with l i e c (ClaimPair h p) w =
    if nat_lt w (rows_of c.shape Four) then StorePair h p (base_of c.shape Four w) pair_word.Info else Unlock h (Some Refused)
after_with l i e c (StorePair h p base word) w = pair_after h p base word
after_with l i e c (PutLoad h keys left) w = PutStore h keys left (child_word (child_of c.shape w))
after_with l i e c (PutStore h keys left word) w = moves_at h keys left
after_with l i e c (PutLeaf h keys) w = PutKeys h keys
after_with l i e c (PutKeys h keys) w = put_keys_after l h.row.kind h keys
after_with l i e c (PutMore h keys) w = PutCount h keys
after_with l i e c (PutCount h keys) w = Unlock h (Some no_value)
after_with l i e c (ClaimGrow h slot keys) w =
    if nat_lt w (rows_of c.shape (next_kind h.row.kind))
    then GrowInfo (record { hold = h; slot = slot; keys = keys; base = base_of c.shape (next_kind h.row.kind) w })
    else Unlock h (Some Refused)
after_with l i e c (GrowInfo g) w = fill_at g.hold.row.kind g
after_with l i e c (GrowLoad g place left) w = GrowStore g place left (child_word (child_of c.shape w))
after_with l i e c (GrowStore g place left word) w = copies_at g (place + 1) left
after_with l i e c (SpreadIndex g j left) w = entries_at (record { growing = g; place = j; left = left; word = w }) 0 8
after_with l i e c (SpreadLoad s entry left) w = SpreadStore s entry left (child_word (child_of c.shape w))
after_with l i e c (SpreadStore s entry left word) w = entries_at s (entry + 1) left
after_with l i e c (GrowLeaf g) w = leaf_after g.hold.row.kind g
after_with l i e c (GrowKeys g j left) w = keys_at_after g j left
after_with l i e c (GrowCount g) w = Hang g
after_with l i e c (Hang g) w = Obsolete g.hold
after_with l i e c (Obsolete h) w = release_at l h.above (Some no_value)
after_with l i e c (Unlock h outcome) w = release_at l h.above outcome
after_with l i e c (Over outcome) w = Over outcome

abbrev pub stage_after : Setting → Stage → ℕ → Stage
stage_after c stage w = after_with (locks c.variant) (is_insert c.call) (releases_early c.variant) c stage w
