-- What a call carries at its stage is below 2^64, and so is what it stores.
use Rattle.art_schedules.proofs.Common.{◌≡◌, ℕ, zero, suc, ◌+◌, ◌*◌, ◌-◌, ◌%◌, ◌^◌, ◌<◌, ◌≤◌, Bool, true, false, [], ◌∷◌, ◌++◌, refl, ap, sym}
use Rattle.art_schedules.proofs.inserts.SmallLemmas.{differs-before}
use Rattle.art_schedules.proofs.trees.InfoWords.{path_byte}
use Rattle.art_schedules.proofs.Common.{subst, arith, ◌==◌, nat_lt, nat_le, map, set, slice_index, Option, Some, None, if◌then◌else◌, ltb-true}
use Rattle.art_schedules.proofs.Common.{length-append, Call, Get, Insert, Remove, Scan, Replace, Kind, Four, Sixteen, FortyEight, Full, Child}
use Rattle.art_schedules.proofs.Common.{Empty, ChildRow, Leaf, rows_of, base_of, child_at, keys_at, more_keys_at, is_locked, is_obsolete}
use Rattle.art_schedules.proofs.Common.{locked_word, released_word, obsolete_word, key_bytes, entries_of, place_of, child_of, child_word}
use Rattle.art_schedules.proofs.Common.{row_word, keys4_word, keys16_word, more_keys16_word, entries_word, with_key, key_byte-small}
use Rattle.art_schedules.proofs.Common.{Store, Swap, Turn, Asks, numbers, Setting, is_insert, is_full, locks, key_of}
use Rattle.art_schedules.proofs.Common.{path_differs_at, overwriting, new_leaf, next_kind, new_entry, keys_differ_at, HeldRow, KeyWords, Finding}
use Rattle.art_schedules.proofs.Common.{Has, Lacks, Position, Down, Hold, Pair, Work, Taking, Target, Root, Below, Taken, PairWord, Growing}
use Rattle.art_schedules.proofs.Common.{Spread, Outcome, Refused, Stage, Lock, Exchange, Wait, Leave, Between, Info, Find, FindKeys, FindMore}
use Rattle.art_schedules.proofs.Common.{FindCount, Slot, Check, CheckLast, LetGo, Take, Write, ClaimPair, StorePair, PutLoad, PutStore, PutLeaf}
use Rattle.art_schedules.proofs.Common.{PutKeys, PutMore, PutCount, ClaimGrow, GrowInfo, GrowLoad, GrowStore, SpreadIndex, SpreadLoad}
use Rattle.art_schedules.proofs.Common.{SpreadStore, GrowLeaf, GrowKeys, GrowCount, Hang, Obsolete, Unlock, Over, ScanStep, row_at, held}
use Rattle.art_schedules.proofs.Common.{keys_among, keys_in, count_in, byte_in, keys_after, place_in, old_child, new_child, start_at, hold_alone}
use Rattle.art_schedules.proofs.Common.{end_at, release_at, no_value, moves_at, put_at, work_at, taken_at, pair_work, overwrite_at, seek_coupled}
use Rattle.art_schedules.proofs.Common.{insert_coupled, let_go_at, place_coupled, overwrite_unlocked, seek_unlocked, take_alone, beside_work}
use Rattle.art_schedules.proofs.Common.{grow_unlocked, insert_unlocked, found_at, checked_at, among_at, keys_one, indexed_at, find_at}
use Rattle.art_schedules.proofs.Common.{arrived_at, leaf_work, entered_at, below_at, pair_after, put_keys_after, copies_at, spreads_at}
use Rattle.art_schedules.proofs.Common.{entries_at, fill_at, leaf_after, keys_at_after, after_with, turn_at, between_turn, find_turn, pair_turn}
use Rattle.art_schedules.proofs.Common.{put_keys_turn, grow_keys_turn, grow_leaf_turn, grow_count_turn, store_of, Walk, at, scan_turn, keys_turn}
use Rattle.art_schedules.proofs.Common.{CallAt, OnKey, OnScan, begun_as, call_after, call_turn}
use Rattle.art_schedules.proofs.versions.WordFacts.{count-most}
use Rattle.art_schedules.proofs.words.WordLemmas.{again_below}
use Rattle.art_rows.specs.Rows.{releases_early, leaves_out_check, takes_unchecked}
use Rattle.art_rows.specs.Updates.{lesser, greater, Under}
use Rattle.art_control_states.specs.declared.stage.Work.TheVariants as work
use Rattle.art_control_states.specs.declared.stage.PairWord.TheVariants as pair_word
use Rattle.art_control_states.specs.declared.stage.ScanStep.TheVariants as scan
use Rattle.art_control_states.specs.Stages.{keys_before}
use Rattle.art_control_states.specs.Automaton.{take_at, down_from, words_at}
use Rattle.art_control_states.specs.Scans.{release_turn}
use Rattle.art_schedules.proofs.calm.SmallWordLemmas.{grown-info, pair-info, differ-level, two-keys, keys4-with, keys-few, keys16-with}
use Rattle.art_schedules.proofs.calm.SmallWordLemmas.{entries-with, entries-new}

-- What is carried.

abbrev SmallChild : Child → Type 0
SmallChild child = child_word child < 2 ^ 64

abbrev SmallPair : Pair → Type 0
SmallPair p = (p.level ≤ 3) × (p.byte < 256) × SmallChild p.child

abbrev SmallWork : Work → Type 0
SmallWork (work.Write slot word reply) = word < 2 ^ 64
SmallWork (work.Pair p) = SmallPair p
SmallWork (work.Put keys) = Unit {0}
SmallWork (work.Grow slot keys) = Unit {0}

abbrev SmallDown : Down → Type 0
SmallDown d = row_word d.base < 2 ^ 64

abbrev SmallTarget : Target → Type 0
SmallTarget Root = Unit {0}
SmallTarget (Below d) = SmallDown d
SmallTarget (Taken t) = SmallWork t.work

abbrev SmallFinding : Finding → Type 0
SmallFinding (Has slot child) = SmallChild child
SmallFinding (Lacks keys) = Unit {0}

abbrev SmallGrowing : Growing → Type 0
SmallGrowing g = row_word g.base < 2 ^ 64

abbrev pub SmallStage : Stage → Type 0
SmallStage (Lock t first) = SmallTarget t
SmallStage (Exchange t v) = SmallTarget t
SmallStage (Wait t) = SmallTarget t
SmallStage (Leave d) = SmallDown d
SmallStage (Between d kept) = SmallDown d
SmallStage (Info d kept) = SmallDown d
SmallStage (Check p f) = SmallFinding f
SmallStage (LetGo above p f) = SmallFinding f
SmallStage (Take t) = SmallWork t.work
SmallStage (Write h slot word reply) = word < 2 ^ 64
SmallStage (ClaimPair h p) = SmallPair p
SmallStage (StorePair h p base word) = SmallPair p × (row_word base < 2 ^ 64)
SmallStage (PutStore h keys left word) = word < 2 ^ 64
SmallStage (GrowInfo g) = SmallGrowing g
SmallStage (GrowLoad g place left) = SmallGrowing g
SmallStage (GrowStore g place left word) = SmallGrowing g × (word < 2 ^ 64)
SmallStage (SpreadIndex g place left) = SmallGrowing g
SmallStage (SpreadLoad s entry left) = SmallGrowing s.growing
SmallStage (SpreadStore s entry left word) = SmallGrowing s.growing × (word < 2 ^ 64)
SmallStage (GrowLeaf g) = SmallGrowing g
SmallStage (GrowKeys g place left) = SmallGrowing g
SmallStage (GrowCount g) = SmallGrowing g
SmallStage (Hang g) = SmallGrowing g
SmallStage stage = Unit {0}

abbrev pub SmallAt : CallAt → Type 0
SmallAt (OnKey stage) = SmallStage stage
SmallAt (OnScan low high scan) = Unit {0}

-- a turn whose word is so, if it stores one or exchanges for one
abbrev pub SmallTurn : Turn → Type 0
SmallTurn (Asks (Store word value) mark) = value < 2 ^ 64
SmallTurn (Asks (Swap word from to) mark) = to < 2 ^ 64
SmallTurn turn = Unit {0}

-- A call whose leaves are so, on a table whose rows are.
pub record IsFine (c : Setting) : Type 0 where
  pub leaf : child_word (new_leaf c.call) < 2 ^ 64
  pub over : (value word : ℕ) → overwriting c.call value ≡ Some word → word < 2 ^ 64
  pub rows : (kind : Kind) (number : ℕ) → number < rows_of c.shape kind → row_word (base_of c.shape kind number) < 2 ^ 64

if-small : (b : Bool) (x y : Stage) → SmallStage x → SmallStage y → SmallStage (if b then x else y)
if-small true x y h k = h
if-small false x y h k = k

small-start : (l : Bool) → SmallStage (start_at l)
small-start true = tt
small-start false = tt

small-end : (l : Bool) (o : Option Outcome) → SmallStage (end_at l o)
small-end l None = small-start l
small-end l (Some outcome) = tt

small-release : (l : Bool) (o : Option HeldRow) (outcome : Option Outcome) → SmallStage (release_at l o outcome)
small-release l None outcome = small-end l outcome
small-release l (Some n) outcome = tt

small-moves : (h : Hold) (keys : KeyWords) (n : ℕ) → SmallStage (moves_at h keys n)
small-moves h keys zero = tt
small-moves h keys (suc n) = tt

module _ (c : Setting) (fine : IsFine c) where
  small-put : (kind : Kind) (h : Hold) (keys : KeyWords) → SmallStage (put_at kind c h keys)
  small-put Four h keys = small-moves h keys (count_in Four keys - place_in c h keys)
  small-put Sixteen h keys = small-moves h keys (count_in Sixteen keys - place_in c h keys)
  small-put FortyEight h keys = tt
  small-put Full h keys = tt

  small-work : (h : Hold) (w : Work) → SmallWork w → SmallStage (work_at c h w)
  small-work h (work.Write slot word reply) s = s
  small-work h (work.Pair p) s = s
  small-work h (work.Put keys) s = small-put h.row.kind h keys
  small-work h (work.Grow slot keys) s = tt

  small-take : (t : Taking) → SmallWork t.work → SmallStage (take_at c t)
  small-take t s = if-small (takes_unchecked c.variant) (Lock (Taken t) true) (Take t) s s

  small-alone : (n : HeldRow) (w : Work) → SmallWork w → SmallStage (take_alone c n w)
  small-alone n w s = small-take (record { row = n; held = None; below = None; work = w }) s

  small-taken : (above below : Option HeldRow) (w : Work) (n : HeldRow) → SmallWork w → SmallStage (taken_at c above below w n)
  small-taken above None w n s = small-work (record { row = n; above = above }) w s
  small-taken above (Some m) w n s = small-take (record { row = m; held = Some n; below = None; work = w }) s

  small-pair : (slot key value : ℕ) → SmallChild (Leaf key value) → SmallWork (pair_work c slot key value)
  small-pair slot key value s = (differ-level key (key_of c.call), key_byte-small key (keys_differ_at key (key_of c.call)), s)

  small-overwrite : (n : HeldRow) (slot value : ℕ) (o : Option ℕ) → ((word : ℕ) → o ≡ Some word → word < 2 ^ 64)
      → SmallStage (overwrite_at n slot value o)
  small-overwrite n slot value None few = tt
  small-overwrite n slot value (Some word) few = few word refl

  small-overwritten : (n : HeldRow) (slot value : ℕ) (o : Option ℕ) → ((word : ℕ) → o ≡ Some word → word < 2 ^ 64)
      → SmallStage (overwrite_unlocked c n slot value o)
  small-overwritten n slot value None few = tt
  small-overwritten n slot value (Some word) few = small-alone n (work.Write slot word (Some value)) (few word refl)

  seeks-coupled : (e : Bool) (n : HeldRow) (f : Finding) → SmallFinding f → SmallStage (seek_coupled e c n f)
  seeks-coupled e n (Lacks keys) s = tt
  seeks-coupled e n (Has slot Empty) s = tt
  seeks-coupled e n (Has slot (Leaf key value)) s =
      if-small (key == key_of c.call) (overwrite_at n slot value (overwriting c.call value)) (Unlock (hold_alone n) (Some no_value))
      (small-overwrite n slot value (overwriting c.call value) (fine.over value)) tt
  seeks-coupled e n (Has slot (ChildRow base kind)) s =
      if-small e (Leave (down_from n slot base kind)) (Lock (Below (down_from n slot base kind)) true) s s

  inserts-coupled : (n : HeldRow) (f : Finding) → SmallFinding f → SmallStage (insert_coupled c n f)
  inserts-coupled n (Lacks keys) s = small-work (hold_alone n) (work.Put keys) tt
  inserts-coupled n (Has slot Empty) s = fine.leaf
  inserts-coupled n (Has slot (Leaf key value)) s =
      if-small (key == key_of c.call) (Write (hold_alone n) slot (child_word (new_leaf c.call)) (Some value))
      (work_at c (hold_alone n) (pair_work c slot key value)) fine.leaf
      (small-work (hold_alone n) (pair_work c slot key value) (small-pair slot key value s))
  inserts-coupled n (Has slot (ChildRow base kind)) s = s

  small-let-go : (n : HeldRow) (o : Option HeldRow) (slot : ℕ) (f : Finding) → SmallFinding f → SmallStage (let_go_at c n o slot f)
  small-let-go n None slot f s = inserts-coupled n f s
  small-let-go n (Some above) slot f s = s

  places-coupled : (p : Position) (f : Finding) → SmallFinding f → SmallStage (place_coupled c p f)
  places-coupled p (Has slot child) s = small-let-go p.row p.above p.slot (Has slot child) s
  places-coupled p (Lacks keys) s =
      if-small (is_full (row_at p.row) (count_in p.row.kind keys)) (ClaimGrow (record { row = p.row; above = p.above }) p.slot keys)
      (let_go_at c p.row p.above p.slot (Lacks keys)) tt (small-let-go p.row p.above p.slot (Lacks keys) tt)

  seeks-unlocked : (n : HeldRow) (f : Finding) → SmallFinding f → SmallStage (seek_unlocked c n f)
  seeks-unlocked n (Lacks keys) s = tt
  seeks-unlocked n (Has slot Empty) s = tt
  seeks-unlocked n (Has slot (Leaf key value)) s =
      if-small (key == key_of c.call) (overwrite_unlocked c n slot value (overwriting c.call value)) (Over no_value)
      (small-overwritten n slot value (overwriting c.call value) (fine.over value)) tt
  seeks-unlocked n (Has slot (ChildRow base kind)) s = s

  grows-unlocked : (n : HeldRow) (o : Option HeldRow) (slot : ℕ) (keys : KeyWords) → SmallStage (grow_unlocked c n o slot keys)
  grows-unlocked n None slot keys = small-alone n (work.Grow slot keys) tt
  grows-unlocked n (Some above) slot keys = small-take (record { row = above; held = None; below = Some n; work = work.Grow slot keys }) tt

  inserts-unlocked : (p : Position) (f : Finding) → SmallFinding f → SmallStage (insert_unlocked c p f)
  inserts-unlocked p (Lacks keys) s =
      if-small (is_full (row_at p.row) (count_in p.row.kind keys)) (grow_unlocked c p.row p.above p.slot keys)
      (take_alone c p.row (work.Put keys))
      (grows-unlocked p.row p.above p.slot keys) (small-alone p.row (work.Put keys) tt)
  inserts-unlocked p (Has slot Empty) s = small-alone p.row (leaf_work c slot None) fine.leaf
  inserts-unlocked p (Has slot (Leaf key value)) s =
      if-small (key == key_of c.call) (take_alone c p.row (leaf_work c slot (Some value)))
      (if nat_le (keys_differ_at key (key_of c.call)) (row_at p.row).level then Wait Root else take_alone c p.row
      (pair_work c slot key value))
      (small-alone p.row (leaf_work c slot (Some value)) fine.leaf)
      (if-small (nat_le (keys_differ_at key (key_of c.call)) (row_at p.row).level) (Wait Root)
      (take_alone c p.row (pair_work c slot key value)) tt
      (small-alone p.row (pair_work c slot key value) (small-pair slot key value s)))
  inserts-unlocked p (Has slot (ChildRow base kind)) s = s

  small-found : (l i e : Bool) (p : Position) (f : Finding) → SmallFinding f → SmallStage (found_at l i e c p f)
  small-found true false e p f s = seeks-coupled e p.row f s
  small-found true true e p f s = places-coupled p f s
  small-found false false e p f s = seeks-unlocked p.row f s
  small-found false true e p f s = inserts-unlocked p f s

  small-checked : (l i e : Bool) (p : Position) (f : Finding) → SmallFinding f → SmallStage (checked_at l i e c p f)
  small-checked true i e p f s = small-found true i e p f s
  small-checked false i e p f s = if-small (leaves_out_check c.variant c.call) (found_at false i e c p f) (Check p f)
      (small-found false i e p f s) s

  small-among : (l i e : Bool) (p : Position) (keys : KeyWords) (o : Option ℕ) → SmallStage (among_at l i e c p keys o)
  small-among l i e p keys None = small-checked l i e p (Lacks keys) tt
  small-among l i e p keys (Some place) = tt

  small-words : (l i e : Bool) (p : Position) (keys : KeyWords) → SmallStage (words_at l i e c p keys)
  small-words l i e p keys = small-among l i e p keys (place_of (byte_in c p.row) (keys_among p.row.kind keys))

  small-indexed : (l i e : Bool) (p : Position) (index entry : ℕ) → SmallStage (indexed_at l i e c p index entry)
  small-indexed l i e p index entry =
      if-small (entry == 0) (if is_insert c.call then FindCount p index else checked_at l i e c p (Lacks (keys_one index)))
      (Slot p (child_at FortyEight p.row.base (entry - 1)))
      (if-small (is_insert c.call) (FindCount p index) (checked_at l i e c p (Lacks (keys_one index))) tt
      (small-checked l i e p (Lacks (keys_one index)) tt)) tt

  small-find : (l i e : Bool) (kind : Kind) (p : Position) (w : ℕ) → w < 2 ^ 64 → SmallStage (find_at l i e kind c p w)
  small-find l i e Four p w few = small-words l i e p (keys_one w)
  small-find l i e Sixteen p w few = tt
  small-find l i e FortyEight p w few = small-indexed l i e p w (slice_index (entries_of w) (byte_in c p.row % 8))
  small-find l i e Full p w few =
      small-checked l i e p (Has (child_at Full p.row.base (byte_in c p.row)) (child_of c.shape w)) (again_below c.shape w few)

  small-arrived : (l i e : Bool) (d : Down) (v : ℕ) → SmallDown d → SmallStage (arrived_at l i e c d v)
  small-arrived true true e d v s = s
  small-arrived true false true d v s = s
  small-arrived true false false d v s = s
  small-arrived false i e d v s = if-small (leaves_out_check c.variant c.call) (Info d v) (Between d v) s s

  small-entered : (l i e : Bool) (t : Target) (v : ℕ) → SmallTarget t → SmallStage (entered_at l i e c t v)
  small-entered l i e Root v s = tt
  small-entered l i e (Below d) v s = small-arrived l i e d v s
  small-entered l i e (Taken t) v s = small-taken t.held t.below t.work (held t.row.base t.row.kind t.row.info v) s

  small-below : (l i : Bool) (d : Down) (m : HeldRow) (o : Option ℕ) → row_word m.base < 2 ^ 64 → ((x : ℕ) → o ≡ Some x → x ≤ 3)
      → SmallStage (below_at l i c d m o)
  small-below l i d m None s few = tt
  small-below true false d m (Some x) s few = tt
  small-below true true d m (Some x) s few = (few x refl, path_byte m.kind m.info x, s)
  small-below false false d m (Some x) s few = if-small (leaves_out_check c.variant c.call) (Over no_value) (CheckLast m) tt tt
  small-below false true d m (Some x) s few =
      if-small (nat_le x (row_at d.above).level) (Wait Root) (take_alone c d.above (beside_work d.slot m x)) tt
      (small-alone d.above (beside_work d.slot m x) (few x refl, path_byte m.kind m.info x, s))

  differs-few : (m : HeldRow) (x : ℕ) → path_differs_at c (row_at m) ≡ Some x → x ≤ 3
  differs-few m x e = let less = differs-before (row_at m).path (key_bytes (key_of c.call)) x e in omega (arith, less)

  small-pair-after : (h : Hold) (p : Pair) (base : ℕ) (word : PairWord) → SmallPair p → row_word base < 2 ^ 64
      → SmallStage (pair_after h p base word)
  small-pair-after h p base pair_word.Info s r = (s, r)
  small-pair-after h p base pair_word.Keys s r = (s, r)
  small-pair-after h p base pair_word.Lesser s r = (s, r)
  small-pair-after h p base pair_word.Greater s r = r

  small-keys-after : (l : Bool) (kind : Kind) (h : Hold) (keys : KeyWords) → SmallStage (put_keys_after l kind h keys)
  small-keys-after l Four h keys = tt
  small-keys-after l Sixteen h keys = tt
  small-keys-after l FortyEight h keys = tt
  small-keys-after l Full h keys = small-release l h.above (Some no_value)

  small-copies : (g : Growing) (i n : ℕ) → SmallGrowing g → SmallStage (copies_at g i n)
  small-copies g i zero s = s
  small-copies g i (suc n) s = s

  small-spreads : (g : Growing) (j n : ℕ) → SmallGrowing g → SmallStage (spreads_at g j n)
  small-spreads g j zero s = s
  small-spreads g j (suc n) s = s

  small-entries : (x : Spread) (i n : ℕ) → SmallGrowing x.growing → SmallStage (entries_at x i n)
  small-entries x i zero s = small-spreads x.growing (x.place + 1) x.left s
  small-entries x i (suc n) s =
      if-small (slice_index (entries_of x.word) i == 0) (entries_at x (i + 1) n) (SpreadLoad x i n) (small-entries x (i + 1) n s) s

  small-fill : (kind : Kind) (g : Growing) → SmallGrowing g → SmallStage (fill_at kind g)
  small-fill Four g s = small-copies g 0 (count_in Four g.keys) s
  small-fill Sixteen g s = small-copies g 0 (count_in Sixteen g.keys) s
  small-fill FortyEight g s = s
  small-fill Full g s = s

  small-leaf-after : (kind : Kind) (g : Growing) → SmallGrowing g → SmallStage (leaf_after kind g)
  small-leaf-after Four g s = s
  small-leaf-after Sixteen g s = s
  small-leaf-after FortyEight g s = s
  small-leaf-after Full g s = s

  small-keys-at : (g : Growing) (j n : ℕ) → SmallGrowing g → SmallStage (keys_at_after g j n)
  small-keys-at g j zero s = s
  small-keys-at g j (suc n) s = s

  small-claimed-pair : (h : Hold) (p : Pair) (w : ℕ) (b : Bool) → nat_lt w (rows_of c.shape Four) ≡ b → SmallPair p
      → SmallStage (if b then StorePair h p (base_of c.shape Four w) pair_word.Info else Unlock h (Some Refused))
  small-claimed-pair h p w true e s = (s, fine.rows Four w (ltb-true w (rows_of c.shape Four) e))
  small-claimed-pair h p w false e s = tt

  small-claimed-row : (h : Hold) (slot : ℕ) (keys : KeyWords) (w : ℕ) (b : Bool) → nat_lt w (rows_of c.shape (next_kind h.row.kind)) ≡ b
      → SmallStage
      (if b then GrowInfo (record {
        hold = h;
        slot = slot;
        keys = keys;
        base = base_of c.shape (next_kind h.row.kind) w;
      }) else Unlock h (Some Refused))
  small-claimed-row h slot keys w true e = fine.rows (next_kind h.row.kind) w (ltb-true w (rows_of c.shape (next_kind h.row.kind)) e)
  small-claimed-row h slot keys w false e = tt

  small-after : (l i e : Bool) (stage : Stage) (w : ℕ) → w < 2 ^ 64 → SmallStage stage → SmallStage (after_with l i e c stage w)
  small-after l i e (Lock t first) w few s = if-small (is_locked w) (Lock t false) (Exchange t w) s s
  small-after l i e (Exchange t v) w few s = if-small (w == v) (entered_at l i e c t v) (Lock t false) (small-entered l i e t v s) s
  small-after l i e (Wait t) w few s =
      if-small (is_locked w) (Wait t) (if is_obsolete w then start_at l else entered_at l i e c t w) s
      (if-small (is_obsolete w) (start_at l) (entered_at l i e c t w) (small-start l) (small-entered l i e t w s))
  small-after l i e (Leave d) w few s = s
  small-after true i e (Between d kept) w few s = s
  small-after false i e (Between d kept) w few s = if-small (w == d.above.kept) (Info d kept) (Wait Root) s tt
  small-after l i e (Info d kept) w few s =
      small-below l i d (held d.base d.kind w kept) (path_differs_at c (row_at (held d.base d.kind w kept))) s
      (differs-few (held d.base d.kind w kept))
  small-after l i e (Find p) w few s = small-find l i e p.row.kind p w few
  small-after l i e (FindKeys p count) w few s = tt
  small-after l i e (FindMore p count first) w few s = small-words l i e p (record { first = first; second = w; count = count })
  small-after l i e (FindCount p index) w few s = small-checked l i e p (Lacks (record { first = index; second = 0; count = w })) tt
  small-after l i e (Slot p slot) w few s = small-checked l i e p (Has slot (child_of c.shape w)) (again_below c.shape w few)
  small-after l i e (Check p f) w few s = if-small (w == p.row.kept) (found_at l i e c p f) (start_at l)
      (small-found l i e p f s) (small-start l)
  small-after l i e (CheckLast n) w few s = if-small (w == n.kept) (Over no_value) (start_at l) tt (small-start l)
  small-after l i e (LetGo above p f) w few s = small-found l i e p f s
  small-after l i e (Take t) w few s =
      if-small (w == t.row.kept) (taken_at c t.held t.below t.work t.row) (release_at l t.held None)
      (small-taken t.held t.below t.work t.row s)
      (small-release l t.held None)
  small-after l i e (Write h slot word value) w few s = tt
  small-after l i e (ClaimPair h p) w few s = small-claimed-pair h p w (nat_lt w (rows_of c.shape Four)) refl s
  small-after l i e (StorePair h p base word) w few s = small-pair-after h p base word s.0 s.1
  small-after l i e (PutLoad h keys left) w few s = again_below c.shape w few
  small-after l i e (PutStore h keys left word) w few s = small-moves h keys left
  small-after l i e (PutLeaf h keys) w few s = tt
  small-after l i e (PutKeys h keys) w few s = small-keys-after l h.row.kind h keys
  small-after l i e (PutMore h keys) w few s = tt
  small-after l i e (PutCount h keys) w few s = tt
  small-after l i e (ClaimGrow h slot keys) w few s =
      small-claimed-row h slot keys w (nat_lt w (rows_of c.shape (next_kind h.row.kind))) refl
  small-after l i e (GrowInfo g) w few s = small-fill g.hold.row.kind g s
  small-after l i e (GrowLoad g place left) w few s = (s, again_below c.shape w few)
  small-after l i e (GrowStore g place left word) w few s = small-copies g (place + 1) left s.0
  small-after l i e (SpreadIndex g j left) w few s = small-entries (record { growing = g; place = j; left = left; word = w }) 0 8 s
  small-after l i e (SpreadLoad x entry left) w few s = (s, again_below c.shape w few)
  small-after l i e (SpreadStore x entry left word) w few s = small-entries x (entry + 1) left s.0
  small-after l i e (GrowLeaf g) w few s = small-leaf-after g.hold.row.kind g s
  small-after l i e (GrowKeys g j left) w few s = small-keys-at g j left s
  small-after l i e (GrowCount g) w few s = s
  small-after l i e (Hang g) w few s = tt
  small-after l i e (Obsolete h) w few s = small-release l h.above (Some no_value)
  small-after l i e (Unlock h outcome) w few s = small-release l h.above outcome
  small-after l i e (Over outcome) w few s = tt

  pub call-after-small : (at : CallAt) (w : ℕ) → w < 2 ^ 64 → SmallAt at → SmallAt (call_after c at w)
  call-after-small (OnKey stage) w few s = small-after (locks c.variant) (is_insert c.call) (releases_early c.variant) stage w few s
  call-after-small (OnScan low high x) w few s = tt

  -- What is stored.

  released-small : (n : HeldRow) → released_word n.kept < 2 ^ 64
  released-small n = omega arith

  locked-small : (v : ℕ) → locked_word v < 2 ^ 64
  locked-small v = omega arith

  obsolete-small : (v : ℕ) → obsolete_word v < 2 ^ 64
  obsolete-small v = omega arith

  between-small : (l : Bool) (d : Down) → SmallTurn (between_turn l d)
  between-small true d = released-small d.above
  between-small false d = tt

  find-small : (kind : Kind) (n : HeldRow) → SmallTurn (find_turn kind c n)
  find-small Four n = tt
  find-small Sixteen n = tt
  find-small FortyEight n = tt
  find-small Full n = tt

  byte-small : (n : HeldRow) → byte_in c n < 256
  byte-small n = key_byte-small (key_of c.call) (row_at n).level

  new-byte : (p : Pair) → (new_child c p).byte < 256
  new-byte p = key_byte-small (key_of c.call) p.level

  either-byte : (b : Bool) (x y : Under) → x.byte < 256 → y.byte < 256 → (if b then x else y).byte < 256
  either-byte true x y h k = h
  either-byte false x y h k = k

  either-child : (b : Bool) (x y : Under) → SmallChild x.child → SmallChild y.child → SmallChild (if b then x else y).child
  either-child true x y h k = h
  either-child false x y h k = k

  pair-small : (p : Pair) (base : ℕ) (word : PairWord) → SmallPair p → SmallTurn (pair_turn c p base word)
  pair-small p base pair_word.Info s = pair-info p.level (key_of c.call) s.0
  pair-small p base pair_word.Keys s =
      two-keys (lesser (old_child p) (new_child c p)).byte (greater (old_child p) (new_child c p)).byte
      (either-byte (nat_lt (old_child p).byte (new_child c p).byte) (old_child p) (new_child c p) s.1 (new-byte p))
      (either-byte (nat_lt (old_child p).byte (new_child c p).byte) (new_child c p) (old_child p) (new-byte p) s.1)
  pair-small p base pair_word.Lesser s =
      either-child (nat_lt (old_child p).byte (new_child c p).byte) (old_child p) (new_child c p) s.2 fine.leaf
  pair-small p base pair_word.Greater s =
      either-child (nat_lt (old_child p).byte (new_child c p).byte) (new_child c p) (old_child p) fine.leaf s.2

  counted : (kind : Kind) (keys : KeyWords) → count_in kind keys + 1 < 2 ^ 64
  counted Four keys = omega (arith, count-most Four keys)
  counted Sixteen keys = omega (arith, count-most Sixteen keys)
  counted FortyEight keys = omega (arith, count-most FortyEight keys)
  counted Full keys = omega arith

  keys-small : (kind : Kind) (h : Hold) (keys : KeyWords) → h.row.kind ≡ kind → SmallTurn (put_keys_turn kind c h keys)
  keys-small Four h keys e =
      subst (λ ks. keys4_word (with_key (byte_in c h.row) ks) < 2 ^ 64) (ap (λ k. keys_in k keys) (sym e))
      (keys4-with (byte_in c h.row) keys.first (byte-small h.row))
  keys-small Sixteen h keys e = (keys16-with h.row.kind keys (byte_in c h.row) (byte-small h.row)).0
  keys-small FortyEight h keys e =
      subst (λ ks. entries_word (set ks (byte_in c h.row % 8) (count_in FortyEight keys + 1)) < 2 ^ 64) (ap (λ k. keys_in k keys) (sym e))
      (entries-with keys.first (byte_in c h.row % 8) (count_in FortyEight keys + 1) (omega (arith, count-most FortyEight keys)))
  keys-small Full h keys e = released-small h.row

  index-small : (g : Growing) (j : ℕ)
      → entries_word (map (new_entry (keys_before g.hold g.keys ++ byte_in c g.hold.row ∷ [])) (numbers (8 * j) 8)) < 2 ^ 64
  index-small g j = entries-new (keys_before g.hold g.keys ++ byte_in c g.hold.row ∷ []) (8 * j)
      (omega (arith, length-append (keys_before g.hold g.keys) (byte_in c g.hold.row ∷ []), keys-few g.hold.row.kind g.keys))

  grow-keys-small : (kind : Kind) (g : Growing) (j : ℕ) → SmallTurn (grow_keys_turn kind c g j)
  grow-keys-small Four g j = go (j == 0)
    where
      words : (keys16_word (keys_after c g.hold g.keys) < 2 ^ 64) × (more_keys16_word (keys_after c g.hold g.keys) < 2 ^ 64)
      words = keys16-with g.hold.row.kind g.keys (byte_in c g.hold.row) (byte-small g.hold.row)

      go : (b : Bool) → SmallTurn (if b then store_of (keys_at g.base) (keys16_word (keys_after c g.hold g.keys))
          else store_of (more_keys_at g.base) (more_keys16_word (keys_after c g.hold g.keys)))
      go true = words.0
      go false = words.1
  grow-keys-small Sixteen g j = index-small g j
  grow-keys-small FortyEight g j = index-small g j
  grow-keys-small Full g j = index-small g j

  grow-leaf-small : (kind : Kind) (g : Growing) → SmallTurn (grow_leaf_turn kind c g)
  grow-leaf-small Four g = fine.leaf
  grow-leaf-small Sixteen g = fine.leaf
  grow-leaf-small FortyEight g = fine.leaf
  grow-leaf-small Full g = fine.leaf

  grow-count-small : (kind : Kind) (g : Growing) → SmallTurn (grow_count_turn kind g)
  grow-count-small Four g = counted Four g.keys
  grow-count-small Sixteen g = omega arith
  grow-count-small FortyEight g = omega arith
  grow-count-small Full g = omega arith

  turn-small : (stage : Stage) → SmallStage stage → SmallTurn (turn_at c stage)
  turn-small (Lock t true) s = tt
  turn-small (Lock t false) s = tt
  turn-small (Exchange t v) s = locked-small v
  turn-small (Wait t) s = tt
  turn-small (Leave d) s = released-small d.above
  turn-small (Between d kept) s = between-small (locks c.variant) d
  turn-small (Info d kept) s = tt
  turn-small (Find p) s = find-small p.row.kind p.row
  turn-small (FindKeys p count) s = tt
  turn-small (FindMore p count first) s = tt
  turn-small (FindCount p index) s = tt
  turn-small (Slot p slot) s = tt
  turn-small (Check p f) s = tt
  turn-small (CheckLast n) s = tt
  turn-small (LetGo above p f) s = released-small above
  turn-small (Take t) s = locked-small t.row.kept
  turn-small (Write h slot word value) s = s
  turn-small (ClaimPair h p) s = tt
  turn-small (StorePair h p base word) s = pair-small p base word s.0
  turn-small (PutLoad h keys left) s = tt
  turn-small (PutStore h keys left word) s = s
  turn-small (PutLeaf h keys) s = fine.leaf
  turn-small (PutKeys h keys) s = keys-small h.row.kind h keys refl
  turn-small (PutMore h keys) s = (keys16-with h.row.kind keys (byte_in c h.row) (byte-small h.row)).1
  turn-small (PutCount h keys) s = counted h.row.kind keys
  turn-small (ClaimGrow h slot keys) s = tt
  turn-small (GrowInfo g) s = grown-info (next_kind g.hold.row.kind) g.hold.row.kind g.hold.row.info
  turn-small (GrowLoad g i left) s = tt
  turn-small (GrowStore g i left word) s = s.1
  turn-small (SpreadIndex g j left) s = tt
  turn-small (SpreadLoad x i left) s = tt
  turn-small (SpreadStore x i left word) s = s.1
  turn-small (GrowLeaf g) s = grow-leaf-small g.hold.row.kind g
  turn-small (GrowKeys g j left) s = grow-keys-small g.hold.row.kind g j
  turn-small (GrowCount g) s = grow-count-small g.hold.row.kind g
  turn-small (Hang g) s = s
  turn-small (Obsolete h) s = obsolete-small h.row.kept
  turn-small (Unlock h outcome) s = released-small h.row
  turn-small (Over outcome) s = tt

  -- a scan stores versions alone
  scan-keys-small : (kind : Kind) (n : HeldRow) → SmallTurn (keys_turn kind n)
  scan-keys-small Four n = tt
  scan-keys-small Sixteen n = tt
  scan-keys-small FortyEight n = tt
  scan-keys-small Full n = tt

  scan-release-small : (l : Bool) (n : HeldRow) → SmallTurn (release_turn l n)
  scan-release-small true n = released-small n
  scan-release-small false n = tt

  scan-small : (step : ScanStep) (w : Walk) → SmallTurn (scan_turn c (at step w))
  scan-small (scan.Lock entry true) w = tt
  scan-small (scan.Lock entry false) w = tt
  scan-small (scan.Exchange entry v) w = locked-small v
  scan-small (scan.Wait entry) w = tt
  scan-small (scan.Info base kind kept) w = tt
  scan-small (scan.Keys n) w = scan-keys-small n.kind n
  scan-small (scan.FirstKeys n count) w = tt
  scan-small (scan.SecondKeys n count first) w = tt
  scan-small (scan.Index n j m) w = tt
  scan-small (scan.Child f slot) w = tt
  scan-small (scan.Release n) w = scan-release-small (locks c.variant) n
  scan-small scan.Over w = tt

  pub call-turn-small : (at : CallAt) → SmallAt at → SmallTurn (call_turn c at)
  call-turn-small (OnKey stage) s = turn-small stage s
  call-turn-small (OnScan low high x) s = scan-small x.step x.walk

  pub begun-small : (call : Call) → SmallAt (begun_as call c)
  begun-small (Get k) = small-start (locks c.variant)
  begun-small (Insert k v) = small-start (locks c.variant)
  begun-small (Remove k) = small-start (locks c.variant)
  begun-small (Replace k a b) = small-start (locks c.variant)
  begun-small (Scan low high) = tt
