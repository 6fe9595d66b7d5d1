-- What is left of a scan at each of its stages, and its automaton.
use Rattle.std.specs.Prelude.{ℕ, zero, suc, ◌+◌, ◌-◌, ◌*◌, ◌/◌, ◌%◌, List, [], ◌∷◌, ◌++◌, map, filter, slice_index, Bool, true, false, ◌&&◌}
use Rattle.std.specs.Prelude.{◌==◌}
use Rattle.std.specs.Prelude.{if◌then◌else◌, Option, Some, None}
use Rattle.events.specs.declared.event.Reply.{Reply}
use Rattle.events.specs.declared.event.Reply.TheVariants as reply
use Rattle.art_rows.specs.declared.table.Kind.{Kind}
use Rattle.art_rows.specs.declared.table.Kind.TheVariants.{Sixteen, FortyEight, Full}
use Rattle.art_rows.specs.declared.table.Child.{Child}
use Rattle.art_rows.specs.declared.table.Child.TheVariants.{Empty, Row as ChildRow, Leaf}
use Rattle.art_rows.specs.Table.{root_base, info_at, keys_at, more_keys_at, index_at, count_at, child_at}
use Rattle.art_rows.specs.Words.{is_locked, is_obsolete, locked_word, entries_of, place_of, child_of}
use Rattle.art_rows.specs.declared.access.Access.TheVariants.{Load, Exchange as Swap}
use Rattle.art_control_states.specs.declared.stage.HeldRow.{HeldRow}
use Rattle.art_control_states.specs.declared.stage.Keys.{Keys as KeyWords}
use Rattle.art_control_states.specs.declared.stage.Entry.{Entry}
use Rattle.art_control_states.specs.declared.stage.Entry.TheVariants.{Root, Below}
use Rattle.art_control_states.specs.declared.stage.Frame.{Frame}
use Rattle.art_control_states.specs.declared.stage.ScanStep.{ScanStep}
use Rattle.art_control_states.specs.declared.stage.ScanStep.TheVariants.{Lock, Exchange, Wait, Info, Keys, FirstKeys, SecondKeys, Index}
use Rattle.art_control_states.specs.declared.stage.ScanStep.TheVariants.{Child as LoadChild, Release}
use Rattle.art_control_states.specs.declared.stage.ScanStep.TheVariants.{Over}
use Rattle.art_rows.specs.Steps.{Rest, Part, Turn, Asks, Answers, ◌>>=◌, ◌>>◌, give, load, exchange, each, over, numbers}
use Rattle.art_rows.specs.Rows.{Setting, Row, locks, leaves_out_check, lock_point, lock, lock_again, wait, unlock, unlock_all, check}
use Rattle.art_rows.specs.Rows.{check_of, load_child}
use Rattle.art_rows.specs.Scan.{Walked, can_lie, bytes_of, with_leaf, has_row, with_row, walk_child, walk_slot, walk_place, walk_entry}
use Rattle.art_rows.specs.Scan.{walk_index, walk_from}
use Rattle.art_rows.specs.Act.{act}
use Rattle.art_control_states.specs.Stages.{row_at, held, ends, keys_among}
use Rattle.art_control_states.specs.Automaton.{load_of, unlock_of, check_turn, keys_one}

-- what a scan has: its rows in the order in which they were first read, the leaves that counted, and the rows on its way,
-- the lowest first
pub record Walk : Type 0 where
  pub rows : List HeldRow
  pub pairs : List (ℕ × ℕ)
  pub way : List Frame

pub record ScanAt : Type 0 where
  pub step : ScanStep
  pub walk : Walk

abbrev pub at : ScanStep → Walk → ScanAt
at step walk = record { step = step; walk = walk }

abbrev pub no_walk : Walk
no_walk = record { rows = []; pairs = []; way = [] }

abbrev pub walked : Walk → Walked
walked w = record { rows = map row_at w.rows; pairs = w.pairs }

abbrev pub on_way : Walk → List Frame → Walk
on_way w way = record { rows = w.rows; pairs = w.pairs; way = way }

-- What is left.

abbrev pub walk_on : Setting → ℕ → ℕ → Row → Walked → Part Walked
walk_on c lo hi m w = walk_from c lo hi (record { row = m; walked = w })

abbrev pub lies : ℕ → ℕ → Frame → ℕ → Bool
lies lo hi f x = can_lie lo hi (row_at f.row) x

-- the bytes of index word j
abbrev pub in_word : ℕ → ℕ → Bool
in_word j x = x / 8 == j

abbrev pub words_rest : Setting → ℕ → ℕ → HeldRow → ℕ → ℕ → Walked → Part Walked
words_rest c lo hi n j m w = over (numbers j m) (λ j. walk_index c lo hi (walk_on c lo hi) (row_at n) j
    (filter (in_word j) (bytes_of lo hi (row_at n)))) w

-- what is left of a row,
abbrev pub frame_rest : Kind → Setting → ℕ → ℕ → Frame → Walked → Part Walked
frame_rest FortyEight c lo hi f w = do
  v ← over (filter (in_word f.index) (filter (lies lo hi f) (numbers f.byte f.left)))
      (λ y. walk_entry c lo hi (walk_on c lo hi) (row_at f.row) (slice_index (entries_of f.keys.first) (y % 8))) w
  words_rest c lo hi f.row (f.index + 1) f.words v
frame_rest Full c lo hi f w = over (filter (lies lo hi f) (numbers f.byte f.left)) (λ x. walk_slot c lo hi (walk_on c lo hi)
    (child_at Full f.row.base x)) w
frame_rest kind c lo hi f w =
    over (filter (lies lo hi f) (numbers f.byte f.left))
    (λ x. walk_place c lo hi (walk_on c lo hi) (row_at f.row) (place_of x (keys_among kind f.keys))) w

-- what is left of the way,
abbrev pub way_rest : Setting → ℕ → ℕ → List Frame → Walked → Part Walked
way_rest c lo hi [] w = give w
way_rest c lo hi (f ∷ fs) w = do
  v ← frame_rest f.row.kind c lo hi f w
  way_rest c lo hi fs v

-- what is left of the scan once its walk has ended
abbrev pub close : Setting → Walked → Part Reply
close c w = do
  if locks c.variant then unlock_all w.rows else each w.rows (check_of c)
  give (reply.Pairs w.pairs)

abbrev pub scan_rest : Setting → ℕ → ℕ → List Frame → Walked → Part Reply
scan_rest c lo hi way w = way_rest c lo hi way w >>= close c

-- a row is walked
abbrev pub visit_rest : Setting → ℕ → ℕ → HeldRow → Walk → Part Reply
visit_rest c lo hi n w = walk_on c lo hi (row_at n) (with_row (row_at n) (walked w)) >>= scan_rest c lo hi w.way

abbrev pub entry_base : Setting → Entry → ℕ
entry_base c Root = root_base c.shape
entry_base c (Below base kind) = base

abbrev pub info_rest : Setting → ℕ → ℕ → ℕ → Kind → ℕ → Walk → Part Reply
info_rest c lo hi base kind v w = do
  info ← load (info_at base)
  visit_rest c lo hi (held base kind info v) w

abbrev pub entry_rest : Setting → ℕ → ℕ → Entry → Walk → ℕ → Part Reply
entry_rest c lo hi Root w v = visit_rest c lo hi (held (root_base c.shape) Full 3 v) w
entry_rest c lo hi (Below base kind) w v = info_rest c lo hi base kind v w

-- a row with what was read of it, from its first byte on
abbrev pub frame_of : HeldRow → KeyWords → ℕ → ℕ → Frame
frame_of n keys index words = record { row = n; keys = keys; byte = 0; left = 256; index = index; words = words }

abbrev pub keys16 : ℕ → ℕ → ℕ → KeyWords
keys16 count first second = record { first = first; second = second; count = count }

abbrev pub frame_then : Setting → ℕ → ℕ → Walk → Frame → Part Reply
frame_then c lo hi w f = scan_rest c lo hi (f ∷ w.way) (walked w)

abbrev pub second_rest : Setting → ℕ → ℕ → HeldRow → Walk → ℕ → ℕ → Part Reply
second_rest c lo hi n w count first = do
  second ← load (more_keys_at n.base)
  frame_then c lo hi w (frame_of n (keys16 count first second) 0 0)

abbrev pub first_rest : Setting → ℕ → ℕ → HeldRow → Walk → ℕ → Part Reply
first_rest c lo hi n w count = do
  first ← load (keys_at n.base)
  second_rest c lo hi n w count first

abbrev pub keys_rest : Kind → Setting → ℕ → ℕ → HeldRow → Walk → Part Reply
keys_rest Sixteen c lo hi n w = do
  count ← load (count_at Sixteen n.base)
  first_rest c lo hi n w count
keys_rest kind c lo hi n w = do
  keys ← load (keys_at n.base)
  frame_then c lo hi w (frame_of n (keys_one keys) 0 0)

-- if reads are locked, and if they are not
abbrev pub release_rest : Bool → Setting → HeldRow → Walk → Part Reply
release_rest true c n w = do
  unlock (row_at n)
  unlock_all (map row_at w.rows)
  give (reply.Pairs w.pairs)
release_rest false c n w = do
  check (row_at n)
  each (map row_at w.rows) (check_of c)
  give (reply.Pairs w.pairs)

abbrev pub scan_part : Setting → ℕ → ℕ → ScanStep → Walk → Part Reply
scan_part c lo hi (Lock entry true) w = lock c.shape (entry_base c entry) >>= entry_rest c lo hi entry w
scan_part c lo hi (Lock entry false) w = lock_again (entry_base c entry) >>= entry_rest c lo hi entry w
scan_part c lo hi (Exchange entry v) w = do
  was ← exchange (entry_base c entry) v (locked_word v)
  u ← (if was == v then give v else lock_again (entry_base c entry))
  entry_rest c lo hi entry w u
scan_part c lo hi (Wait entry) w = wait (entry_base c entry) >>= entry_rest c lo hi entry w
scan_part c lo hi (Info base kind kept) w = info_rest c lo hi base kind kept w
scan_part c lo hi (Keys n) w = keys_rest n.kind c lo hi n w
scan_part c lo hi (FirstKeys n count) w = first_rest c lo hi n w count
scan_part c lo hi (SecondKeys n count first) w = second_rest c lo hi n w count first
scan_part c lo hi (Index n j m) w = do
  entries ← load (index_at n.base (8 * j))
  frame_then c lo hi w (frame_of n (keys_one entries) j m)
scan_part c lo hi (LoadChild f slot) w = do
  child ← load_child c slot
  v ← walk_child c lo hi (walk_on c lo hi) child (walked w)
  scan_rest c lo hi (f ∷ w.way) v
scan_part c lo hi (Release n) w = release_rest (locks c.variant) c n w
scan_part c lo hi Over w = give (reply.Pairs w.pairs)

unfoldable pub scan_in : Setting → ℕ → ℕ → ScanAt → Rest
scan_in c lo hi s = scan_part c lo hi s.step s.walk (act c.shape c.variant c.call) ends

-- The automaton: what comes next,

abbrev pub keys_turn : Kind → HeldRow → Turn
keys_turn Sixteen n = load_of (count_at Sixteen n.base)
keys_turn kind n = load_of (keys_at n.base)

abbrev pub release_turn : Bool → HeldRow → Turn
release_turn true n = unlock_of n
release_turn false n = check_turn n

abbrev pub scan_turn : Setting → ScanAt → Turn
scan_turn c s = go s.step
  where
    go : ScanStep → Turn
    go (Lock entry true) = Asks (Load (entry_base c entry)) (Some (lock_point c.shape (entry_base c entry)))
    go (Lock entry false) = load_of (entry_base c entry)
    go (Exchange entry v) = Asks (Swap (entry_base c entry) v (locked_word v)) None
    go (Wait entry) = load_of (entry_base c entry)
    go (Info base kind kept) = load_of (info_at base)
    go (Keys n) = keys_turn n.kind n
    go (FirstKeys n count) = load_of (keys_at n.base)
    go (SecondKeys n count first) = load_of (more_keys_at n.base)
    go (Index n j m) = load_of (index_at n.base (8 * j))
    go (LoadChild f slot) = load_of slot
    go (Release n) = release_turn (locks c.variant) n
    go Over = Answers (reply.Pairs s.walk.pairs)

-- Which stage comes next.

-- the first row is released, and the rows are those after it
abbrev pub release_rows : List HeldRow → List (ℕ × ℕ) → ScanAt
release_rows [] pairs = at Over (record { rows = []; pairs = pairs; way = [] })
release_rows (n ∷ rows) pairs = at (Release n) (record { rows = rows; pairs = pairs; way = [] })

abbrev pub close_at : Setting → Walk → ScanAt
close_at c w =
    if locks c.variant then release_rows w.rows w.pairs
    else if leaves_out_check c.variant c.call then release_rows [] w.pairs
    else release_rows w.rows w.pairs

-- the next byte that is tested so and has a slot
abbrev pub slot_at : Option ℕ → (ℕ → ScanAt) → ScanAt → ScanAt
slot_at None child other = other
slot_at (Some slot) child other = child slot

abbrev pub bytes_at : (ℕ → Bool) → (ℕ → Option ℕ) → (ℕ → ℕ → ℕ → ScanAt) → ℕ → ℕ → ScanAt → ScanAt
bytes_at test slot_of child x zero other = other
bytes_at test slot_of child x (suc n) other =
    if test x then slot_at (slot_of x) (child (x + 1) n) (bytes_at test slot_of child (x + 1) n other) else bytes_at test slot_of
    child (x + 1) n other

-- the next index word that holds one of the bytes
abbrev pub index_at_list : HeldRow → Walk → ℕ → ℕ → List ℕ → ScanAt → ScanAt
index_at_list n w j m [] other = other
index_at_list n w j m (x ∷ xs) other = at (Index n j m) w

abbrev pub words_at : ℕ → ℕ → HeldRow → Walk → ℕ → ℕ → ScanAt → ScanAt
words_at lo hi n w j zero other = other
words_at lo hi n w j (suc m) other = index_at_list n w j m (filter (in_word j) (bytes_of lo hi (row_at n)))
    (words_at lo hi n w (j + 1) m other)

-- the slot of a byte
abbrev pub entry_slot : Frame → ℕ → Option ℕ
entry_slot f y =
    if slice_index (entries_of f.keys.first) (y % 8) == 0 then None else Some
    (child_at FortyEight f.row.base (slice_index (entries_of f.keys.first) (y % 8) - 1))

abbrev pub place_slot : Kind → ℕ → Option ℕ → Option ℕ
place_slot kind base None = None
place_slot kind base (Some i) = Some (child_at kind base i)

abbrev pub child_from : Walk → Frame → ℕ → ℕ → ℕ → ScanAt
child_from w f x n slot = at (LoadChild (record {
  row = f.row;
  keys = f.keys;
  byte = x;
  left = n;
  index = f.index;
  words =
      f.words;
}) slot) w

abbrev pub word_test : ℕ → ℕ → Frame → ℕ → Bool
word_test lo hi f x = lies lo hi f x && in_word f.index x

-- the walk has the way above the frame
abbrev pub frame_at : Kind → ℕ → ℕ → Walk → Frame → ScanAt → ScanAt
frame_at FortyEight lo hi w f other =
    bytes_at (word_test lo hi f) (entry_slot f) (child_from w f) f.byte f.left (words_at lo hi f.row w (f.index + 1) f.words other)
frame_at Full lo hi w f other = bytes_at (lies lo hi f) (λ x. Some (child_at Full f.row.base x)) (child_from w f) f.byte f.left other
frame_at kind lo hi w f other =
    bytes_at (lies lo hi f) (λ x. place_slot f.row.kind f.row.base (place_of x (keys_among kind f.keys))) (child_from w f)
    f.byte f.left other

abbrev pub way_at : Setting → ℕ → ℕ → Walk → List Frame → ScanAt
way_at c lo hi w [] = close_at c w
way_at c lo hi w (f ∷ fs) = frame_at f.row.kind lo hi (on_way w fs) f (way_at c lo hi w fs)

abbrev pub resume_at : Setting → ℕ → ℕ → Walk → ScanAt
resume_at c lo hi w = way_at c lo hi w w.way

abbrev pub with_frame : Walk → Frame → Walk
with_frame w f = on_way w (f ∷ w.way)

-- a row is met
abbrev pub with_held : HeldRow → Walk → Walk
with_held n w = if has_row n.base (map row_at w.rows) then w else record { rows = w.rows ++ n ∷ []; pairs = w.pairs; way = w.way }

abbrev pub row_begins : Kind → Setting → ℕ → ℕ → HeldRow → Walk → ScanAt
row_begins FortyEight c lo hi n w = words_at lo hi n w 0 32 (resume_at c lo hi w)
row_begins Full c lo hi n w = frame_at Full lo hi w (frame_of n (keys_one 0) 0 0) (resume_at c lo hi w)
row_begins kind c lo hi n w = at (Keys n) w

abbrev pub visit_list : Setting → ℕ → ℕ → HeldRow → Walk → List ℕ → ScanAt
visit_list c lo hi n w [] = resume_at c lo hi w
visit_list c lo hi n w (x ∷ xs) = row_begins n.kind c lo hi n w

abbrev pub visit_at : Setting → ℕ → ℕ → HeldRow → Walk → ScanAt
visit_at c lo hi n w = visit_list c lo hi n (with_held n w) (bytes_of lo hi (row_at n))

abbrev pub entry_at : Setting → ℕ → ℕ → Entry → Walk → ℕ → ScanAt
entry_at c lo hi Root w v = visit_at c lo hi (held (root_base c.shape) Full 3 v) w
entry_at c lo hi (Below base kind) w v = at (Info base kind v) w

abbrev pub enter_at : Setting → Entry → Walk → ScanAt
enter_at c entry w = if locks c.variant then at (Lock entry true) w else at (Wait entry) w

abbrev pub child_after : Setting → ℕ → ℕ → Walk → Child → ScanAt
child_after c lo hi w Empty = resume_at c lo hi w
child_after c lo hi w (Leaf key value) = resume_at c lo hi
    (record { rows = w.rows; pairs = (with_leaf lo hi key value (walked w)).pairs; way = w.way })
child_after c lo hi w (ChildRow base kind) = enter_at c (Below base kind) w

abbrev pub keys_after_word : Kind → Setting → ℕ → ℕ → HeldRow → Walk → ℕ → ScanAt
keys_after_word Sixteen c lo hi n w word = at (FirstKeys n word) w
keys_after_word kind c lo hi n w word = resume_at c lo hi (with_frame w (frame_of n (keys_one word) 0 0))

abbrev pub scan_start : Setting → ScanAt
scan_start c = enter_at c Root no_walk

abbrev pub release_after : Setting → HeldRow → Walk → ℕ → ScanAt
release_after c n w word =
    if locks c.variant then release_rows w.rows w.pairs
    else if word == n.kept then close_at c w
    else scan_start c

abbrev pub step_after : Setting → ℕ → ℕ → ScanStep → Walk → ℕ → ScanAt
step_after c lo hi (Lock entry first) w word = if is_locked word then at (Lock entry false) w else at (Exchange entry word) w
step_after c lo hi (Exchange entry v) w word = if word == v then entry_at c lo hi entry w v else at (Lock entry false) w
step_after c lo hi (Wait entry) w word = if is_locked word then at (Wait entry) w else if is_obsolete word then scan_start c else entry_at
    c lo hi entry w word
step_after c lo hi (Info base kind kept) w word = visit_at c lo hi (held base kind word kept) w
step_after c lo hi (Keys n) w word = keys_after_word n.kind c lo hi n w word
step_after c lo hi (FirstKeys n count) w word = at (SecondKeys n count word) w
step_after c lo hi (SecondKeys n count first) w word = resume_at c lo hi (with_frame w (frame_of n (keys16 count first word) 0 0))
step_after c lo hi (Index n j m) w word = resume_at c lo hi (with_frame w (frame_of n (keys_one word) j m))
step_after c lo hi (LoadChild f slot) w word = child_after c lo hi (with_frame w f) (child_of c.shape word)
step_after c lo hi (Release n) w word = release_after c n w word
step_after c lo hi Over w word = at Over w

abbrev pub scan_after : Setting → ℕ → ℕ → ScanAt → ℕ → ScanAt
scan_after c lo hi s word = step_after c lo hi s.step s.walk word
