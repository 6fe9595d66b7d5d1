-- One step of each stage of a scan.
use Rattle.art_control_states.proofs.Common.{◌≡◌, ℕ, zero, suc, ◌+◌, ◌-◌, ◌*◌, List, [], ◌∷◌, ◌++◌, refl, ap, sym, ◌∙◌, Bool, true, false, if◌then◌else◌}
use Rattle.art_control_states.proofs.Common.{◌==◌, nat_lt, nat_le, slice_index, Option, Some, None, Scan, Reply, Kind, Four, Sixteen, FortyEight, Full}
use Rattle.art_control_states.proofs.Common.{Empty, ChildRow, Leaf, child_at, is_locked, is_obsolete, locked_word, entries_of, child_of, HeldRow, ScanStep}
use Rattle.art_control_states.proofs.Common.{FirstKeys, SecondKeys, Index, Release, Rest, Part, ◌>>=◌, ◌>>◌, give, start_again, load, swap, each}
use Rattle.art_control_states.proofs.Common.{Setting, locks, leaves_out_check, lock_again, lock, wait, unlock, unlock_all, check, check_of, load_child}
use Rattle.art_control_states.proofs.Common.{procedure, act, lock_turn, lock_again-body, wait_turn, wait-body, act-body, row_at, held, ends, keys_one}
use Rattle.art_control_states.proofs.Common.{ScanAt, at, scan_in, keys_turn, release_turn, scan_turn, scan_start, scan_after}
use Rattle.std.proofs.Common.{◌%◌, map}
use Rattle.std.specs.Prelude.{◌&&◌, length, filter}
use Rattle.events.specs.declared.event.Reply.TheVariants as reply
use Rattle.art_rows.specs.declared.table.Child.{Child}
use Rattle.art_rows.specs.Table.{root_base, index_at}
use Rattle.art_rows.specs.Words.{place_of}
use Rattle.events.specs.Limits.{pair_limit}
use Rattle.art_control_states.specs.declared.stage.Keys.{Keys as KeyWords}
use Rattle.art_control_states.specs.declared.stage.Entry.{Entry}
use Rattle.art_control_states.specs.declared.stage.Entry.TheVariants.{Root, Below}
use Rattle.art_control_states.specs.declared.stage.Frame.{Frame}
use Rattle.art_control_states.specs.declared.stage.ScanStep.TheVariants.{Lock, Exchange, Wait, Info, Keys, Child as LoadChild, Over}
use Rattle.art_rows.specs.Steps.{over, numbers}
use Rattle.art_rows.specs.Rows.{Row}
use Rattle.art_rows.specs.Scan.{Walked, enter, bytes_of, with_leaf, has_row, walk_child, walk_slot, walk_place, walk_keys, walk_entry}
use Rattle.art_rows.specs.Scan.{walk_index, walk_in, walk_bytes, scan}
use Rattle.art_rows.proofs.GuardLemmas.{walk_from-body}
use Rattle.art_control_states.specs.Stages.{keys_among}
use Rattle.art_control_states.specs.Scans.{Walk, no_walk, walked, on_way, walk_on, lies, in_word, words_rest, frame_rest, close, scan_rest, visit_rest}
use Rattle.art_control_states.specs.Scans.{entry_base, entry_rest, frame_of, keys16, release_rest, scan_part, release_rows, close_at, slot_at, bytes_at}
use Rattle.art_control_states.specs.Scans.{index_at_list, words_at, entry_slot, place_slot, child_from, word_test, frame_at, way_at, resume_at}
use Rattle.art_control_states.specs.Scans.{with_frame, with_held, row_begins, visit_list, visit_at, entry_at, enter_at, child_after, keys_after_word}
use Rattle.art_control_states.specs.Scans.{release_after, step_after}

-- what is left at a stage, where the call starts again so
abbrev left : Setting → ℕ → ℕ → Rest → ScanAt → Rest
left c lo hi again s = scan_part c lo hi s.step s.walk again ends

-- Releases

release_step : (c : Setting) (lo hi : ℕ) (again : Rest) (rows : List HeldRow) (pairs : List (ℕ × ℕ)) (rest : List ℕ) → locks c.variant ≡ true
    → left c lo hi again (release_rows rows pairs) rest ≡ (unlock_all (map row_at rows) >> give (reply.Pairs pairs)) again ends rest
unfolding unlock_all
release_step c lo hi again [] pairs rest l = refl
release_step c lo hi again (n ∷ rows) pairs rest l =
    ap (λ b. release_rest b c n (record { rows = rows; pairs = pairs; way = [] }) again ends rest) l

-- a check, where it is left out or not
check_if : Bool → Row → Part (Unit {0})
check_if b n = if b then give tt else check n

no_checks : (rows : List Row) (p : Part Reply) (again : Rest) (rest : List ℕ)
    → p again ends rest ≡ (each rows (check_if true) >> p) again ends rest
unfolding check_if
no_checks [] p again rest = refl
no_checks (n ∷ rows) p again rest = no_checks rows p again rest

checks_step : (c : Setting) (lo hi : ℕ) (again : Rest) (rows : List HeldRow) (pairs : List (ℕ × ℕ)) (rest : List ℕ) → locks c.variant ≡ false
    → leaves_out_check c.variant c.call ≡ false
    → left c lo hi again (release_rows rows pairs) rest ≡ (each (map row_at rows) (check_of c) >> give (reply.Pairs pairs)) again ends rest
unfolding check_of
checks_step c lo hi again [] pairs rest l o = refl
checks_step c lo hi again (n ∷ rows) pairs rest l o =
    ap (λ b. release_rest b c n (record { rows = rows; pairs = pairs; way = [] }) again ends rest) l
    ∙ ap (λ b. ((if b then give tt else check (row_at n)) >> (each (map row_at rows) (check_of c) >> give (reply.Pairs pairs))) again
    ends rest) (sym o)

close_step : (c : Setting) (lo hi : ℕ) (again : Rest) (w : Walk) (rest : List ℕ)
    → left c lo hi again (close_at c w) rest ≡ close c (walked w) again ends rest
unfolding check_of check_if
close_step c lo hi again w rest = go (locks c.variant) (leaves_out_check c.variant c.call) refl refl
  where
    go : (l o : Bool) → locks c.variant ≡ l → leaves_out_check c.variant c.call ≡ o
        → left c lo hi again (if l then release_rows w.rows w.pairs else if o then release_rows [] w.pairs else release_rows
        w.rows w.pairs) rest
        ≡ ((if l then unlock_all (map row_at w.rows) else each (map row_at w.rows) (check_of c)) >> give
        (reply.Pairs w.pairs)) again ends rest
    go true o e f = release_step c lo hi again w.rows w.pairs rest e
    go false true e f = no_checks (map row_at w.rows) (give (reply.Pairs w.pairs)) again rest
        ∙ ap (λ b. (each (map row_at w.rows) (λ n. if b then give tt else check n) >> give (reply.Pairs w.pairs)) again ends rest) (sym f)
    go false false e f = checks_step c lo hi again w.rows w.pairs rest e f

-- Bytes

abbrev walk_option : Setting → ℕ → ℕ → Option ℕ → Walked → Part Walked
walk_option c lo hi None w = give w
walk_option c lo hi (Some slot) w = walk_slot c lo hi (walk_on c lo hi) slot w

bytes_step : (c : Setting) (lo hi : ℕ) (again : Rest) (test : ℕ → Bool) (slot_of : ℕ → Option ℕ) (child : ℕ → ℕ → ℕ → ScanAt)
    (some : ℕ → ℕ → List ℕ)
    (part : ℕ → Walked → Part Walked) (w : Walked) (after : Walked → Part Reply) (other : ScanAt)
    → ((x : ℕ) → some x zero ≡ []) → ((x n : ℕ) → some x (suc n) ≡ (if test x then x ∷ some (x + 1) n else some (x + 1) n))
    → ((x : ℕ) → part x w ≡ walk_option c lo hi (slot_of x) w)
    → ((rest : List ℕ) → left c lo hi again other rest ≡ after w again ends rest)
    → ((x n slot : ℕ) (rest : List ℕ)
    → left c lo hi again (child x n slot) rest ≡ (walk_slot c lo hi (walk_on c lo hi) slot w >>= λ v. over (some x n) part v >>=
    after) again ends rest)
    → (x n : ℕ) (rest : List ℕ) → left c lo hi again (bytes_at test slot_of child x n other) rest ≡ (over (some x n) part w >>=
    after) again ends rest
bytes_step c lo hi again test slot_of child some part w after other none more same on next x zero rest =
    on rest ∙ ap (λ xs. (over xs part w >>= after) again ends rest) (sym (none x))
bytes_step c lo hi again test slot_of child some part w after other none more same on next x (suc n) rest =
    go (test x) (slot_of x) (same x) (bytes_step c lo hi again test slot_of child some part w after other none more same on
    next (x + 1) n rest)
    ∙ ap (λ xs. (over xs part w >>= after) again ends rest) (sym (more x n))
  where
    go : (b : Bool) (o : Option ℕ) → part x w ≡ walk_option c lo hi o w
        → left c lo hi again (bytes_at test slot_of child (x + 1) n other) rest ≡ (over (some (x + 1) n) part w >>= after) again ends rest
        → left c lo hi again
        (if b then slot_at o (child (x + 1) n) (bytes_at test slot_of child (x + 1) n other) else bytes_at test slot_of child
        (x + 1) n other) rest
        ≡ (over (if b then x ∷ some (x + 1) n else some (x + 1) n) part w >>= after) again ends rest
    go false o e h = h
    go true None e h = h ∙ ap (λ (p : Part Walked). (p >>= λ v. over (some (x + 1) n) part v >>= after) again ends rest) (sym e)
    go true (Some slot) e h = next (x + 1) n slot rest
        ∙ ap (λ (p : Part Walked). (p >>= λ v. over (some (x + 1) n) part v >>= after) again ends rest) (sym e)

-- Index words

words_step : (c : Setting) (lo hi : ℕ) (again : Rest) (base info kept : ℕ) (w : Walk) (other : ScanAt) (j m : ℕ) (rest : List ℕ)
    → ((rest : List ℕ) → left c lo hi again other rest ≡ scan_rest c lo hi w.way (walked w) again ends rest)
    → left c lo hi again (words_at lo hi (held base FortyEight info kept) w j m other) rest
    ≡ (words_rest c lo hi (held base FortyEight info kept) j m (walked w) >>= scan_rest c lo hi w.way) again ends rest
unfolding walk_index
words_step c lo hi again base info kept w other j zero rest on = on rest
words_step c lo hi again base info kept w other j (suc m) rest on =
    go (filter (in_word j) (bytes_of lo hi (row_at (held base FortyEight info kept)))) refl
    (words_step c lo hi again base info kept w other (j + 1) m rest on)
  where
    go : (xs : List ℕ) → filter (in_word j) (bytes_of lo hi (row_at (held base FortyEight info kept))) ≡ xs
        → left c lo hi again (words_at lo hi (held base FortyEight info kept) w (j + 1) m other) rest ≡
        (words_rest c lo hi (held base FortyEight info kept) (j + 1) m (walked w) >>= scan_rest c lo hi w.way) again ends rest
        → left c lo hi again (index_at_list (held base FortyEight info kept) w j m xs (words_at lo hi (held base FortyEight info kept) w
        (j + 1) m other)) rest
        ≡ (walk_index c lo hi (walk_on c lo hi) (row_at (held base FortyEight info kept)) j xs (walked w) >>= λ v. words_rest c lo hi
        (held base FortyEight info kept) (j + 1) m v >>= scan_rest c lo hi w.way) again ends rest
    go [] e h = h
    go (x ∷ xs) e h =
        ap (λ ys.
        (load (index_at base (8 * j)) >>= λ entries. over ys
        (λ y. walk_entry c lo hi (walk_on c lo hi) (row_at (held base FortyEight info kept)) (slice_index (entries_of entries) (y % 8)))
        (walked w) >>= λ v. words_rest c lo hi (held base FortyEight info kept) (j + 1) m v >>= scan_rest c lo hi w.way) again ends rest) e

-- What each stage does next

keys_next : (c : Setting) (lo hi base : ℕ) (kind : Kind) (info kept : ℕ) (w : Walk)
    → scan_in c lo hi (at (Keys (held base kind info kept)) w) [] ≡ keys_turn kind (held base kind info kept)
unfolding scan_in
keys_next c lo hi base Four info kept w = refl
keys_next c lo hi base Sixteen info kept w = refl
keys_next c lo hi base FortyEight info kept w = refl
keys_next c lo hi base Full info kept w = refl

release_next : (l : Bool) (c : Setting) (n : HeldRow) (w : Walk) (again : Rest) → release_rest l c n w again ends [] ≡ release_turn l n
unfolding unlock check
release_next true c n w again = refl
release_next false c n w again = refl

step_next : (c : Setting) (lo hi : ℕ) (step : ScanStep) (w : Walk) → scan_in c lo hi (at step w) [] ≡ scan_turn c (at step w)
unfolding scan_in lock lock_again wait load_child
step_next c lo hi (Lock entry true) w = refl
step_next c lo hi (Lock entry false) w = refl
step_next c lo hi (Exchange entry v) w = refl
step_next c lo hi (Wait entry) w = refl
step_next c lo hi (Info base kind kept) w = refl
step_next c lo hi (Keys n) w = keys_next c lo hi n.base n.kind n.info n.kept w
step_next c lo hi (FirstKeys n count) w = refl
step_next c lo hi (SecondKeys n count first) w = refl
step_next c lo hi (Index n j m) w = refl
step_next c lo hi (LoadChild f slot) w = refl
step_next c lo hi (Release n) w = release_next (locks c.variant) c n w (act c.shape c.variant c.call)
step_next c lo hi Over w = refl

pub scan_next : (c : Setting) (lo hi : ℕ) (s : ScanAt) → scan_in c lo hi s [] ≡ scan_turn c s
scan_next c lo hi s = step_next c lo hi s.step s.walk

-- Rows on the way

place_same : (c : Setting) (lo hi base : ℕ) (kind : Kind) (info kept : ℕ) (o : Option ℕ) (w : Walked)
    → walk_place c lo hi (walk_on c lo hi) (row_at (held base kind info kept)) o w ≡ walk_option c lo hi (place_slot kind base o) w
unfolding walk_place
place_same c lo hi base kind info kept None w = refl
place_same c lo hi base kind info kept (Some i) w = refl

entry_same : (c : Setting) (lo hi base info kept e : ℕ) (w : Walked)
    → walk_entry c lo hi (walk_on c lo hi) (row_at (held base FortyEight info kept)) e w ≡ walk_option c lo hi
    (if e == 0 then None else Some (child_at FortyEight base (e - 1))) w
unfolding walk_entry
entry_same c lo hi base info kept e w = go (e == 0)
  where
    go : (b : Bool)
        → (if b then give w else walk_slot c lo hi (walk_on c lo hi) (child_at FortyEight base (e - 1)) w) ≡ walk_option c lo hi
        (if b then None else Some (child_at FortyEight base (e - 1))) w
    go true = refl
    go false = refl

both : (p q : ℕ → Bool) (x : ℕ) (xs : List ℕ) → filter q (filter p (x ∷ xs)) ≡ (if p x && q x then x ∷ filter q
    (filter p xs) else filter q (filter p xs))
both p q x xs = go (p x)
  where
    go : (b : Bool) → filter q (if b then x ∷ filter p xs else filter p xs) ≡ (if b && q x then x ∷ filter q
        (filter p xs) else filter q (filter p xs))
    go true = refl
    go false = refl

abbrev frame : ℕ → Kind → ℕ → ℕ → KeyWords → ℕ → ℕ → ℕ → ℕ → Frame
frame base kind info kept keys byte n index words =
    record { row = held base kind info kept; keys = keys; byte = byte; left = n; index = index; words = words }

frame_step : (c : Setting) (lo hi : ℕ) (again : Rest) (base : ℕ) (kind : Kind) (info kept : ℕ) (keys : KeyWords)
    (byte n index words : ℕ) (w : Walk)
    (other : ScanAt) (rest : List ℕ)
    → ((rest : List ℕ) → left c lo hi again other rest ≡ scan_rest c lo hi w.way (walked w) again ends rest)
    → left c lo hi again (frame_at kind lo hi w (frame base kind info kept keys byte n index words) other) rest
    ≡ (frame_rest kind c lo hi (frame base kind info kept keys byte n index words) (walked w) >>= scan_rest c lo hi w.way) again ends rest
unfolding walk_slot
frame_step c lo hi again base Four info kept keys byte n index words w other rest on =
    bytes_step c lo hi again (lies lo hi (frame base Four info kept keys byte n index words))
    (λ x. place_slot Four base (place_of x (keys_among Four keys)))
    (child_from w (frame base Four info kept keys byte n index words))
    (λ x n. filter (lies lo hi (frame base Four info kept keys byte n index words)) (numbers x n))
    (λ x. walk_place c lo hi (walk_on c lo hi) (row_at (held base Four info kept)) (place_of x (keys_among Four keys))) (walked w)
    (scan_rest c lo hi w.way) other
    (λ x. refl) (λ x n. refl) (λ x. place_same c lo hi base Four info kept (place_of x (keys_among Four keys)) (walked w)) on
    (λ x n slot rest. refl) byte n rest
frame_step c lo hi again base Sixteen info kept keys byte n index words w other rest on =
    bytes_step c lo hi again (lies lo hi (frame base Sixteen info kept keys byte n index words))
    (λ x. place_slot Sixteen base (place_of x (keys_among Sixteen keys)))
    (child_from w (frame base Sixteen info kept keys byte n index words))
    (λ x n. filter (lies lo hi (frame base Sixteen info kept keys byte n index words)) (numbers x n))
    (λ x. walk_place c lo hi (walk_on c lo hi) (row_at (held base Sixteen info kept)) (place_of x (keys_among Sixteen keys))) (walked w)
    (scan_rest c lo hi w.way) other
    (λ x. refl) (λ x n. refl) (λ x. place_same c lo hi base Sixteen info kept (place_of x (keys_among Sixteen keys)) (walked w)) on
    (λ x n slot rest. refl) byte n rest
frame_step c lo hi again base FortyEight info kept keys byte n index words w other rest on =
    bytes_step c lo hi again (word_test lo hi (frame base FortyEight info kept keys byte n index words))
    (entry_slot (frame base FortyEight info kept keys byte n index words))
    (child_from w (frame base FortyEight info kept keys byte n index words))
    (λ x n. filter (in_word index) (filter (lies lo hi (frame base FortyEight info kept keys byte n index words)) (numbers x n)))
    (λ y. walk_entry c lo hi (walk_on c lo hi) (row_at (held base FortyEight info kept))
    (slice_index (entries_of keys.first) (y % 8))) (walked w)
    (λ v. words_rest c lo hi (held base FortyEight info kept) (index + 1) words v >>= scan_rest c lo hi w.way)
    (words_at lo hi (held base FortyEight info kept) w (index + 1) words other)
    (λ x. refl) (λ x n. both (lies lo hi (frame base FortyEight info kept keys byte n index words)) (in_word index) x (numbers (x + 1) n))
    (λ x. entry_same c lo hi base info kept (slice_index (entries_of keys.first) (x % 8)) (walked w))
    (λ rest. words_step c lo hi again base info kept w other (index + 1) words rest on) (λ x n slot rest. refl) byte n rest
frame_step c lo hi again base Full info kept keys byte n index words w other rest on =
    bytes_step c lo hi again (lies lo hi (frame base Full info kept keys byte n index words)) (λ x. Some (child_at Full base x))
    (child_from w (frame base Full info kept keys byte n index words))
    (λ x n. filter (lies lo hi (frame base Full info kept keys byte n index words)) (numbers x n))
    (λ x. walk_slot c lo hi (walk_on c lo hi) (child_at Full base x)) (walked w) (scan_rest c lo hi w.way) other
    (λ x. refl) (λ x n. refl) (λ x. refl) on (λ x n slot rest. refl) byte n rest

way_step : (c : Setting) (lo hi : ℕ) (again : Rest) (w : Walk) (fs : List Frame) (rest : List ℕ)
    → left c lo hi again (way_at c lo hi w fs) rest ≡ scan_rest c lo hi fs (walked w) again ends rest
way_step c lo hi again w [] rest = close_step c lo hi again w rest
way_step c lo hi again w (f ∷ fs) rest =
    frame_step c lo hi again f.row.base f.row.kind f.row.info f.row.kept f.keys f.byte f.left f.index f.words (on_way w fs)
    (way_at c lo hi w fs) rest
    (λ rest. way_step c lo hi again w fs rest)

resume_step : (c : Setting) (lo hi : ℕ) (again : Rest) (w : Walk) (rest : List ℕ)
    → left c lo hi again (resume_at c lo hi w) rest ≡ scan_rest c lo hi w.way (walked w) again ends rest
resume_step c lo hi again w rest = way_step c lo hi again w w.way rest

-- A row is met

begins_step : (c : Setting) (lo hi : ℕ) (again : Rest) (base : ℕ) (kind : Kind) (info kept : ℕ) (w : Walk) (xs : List ℕ) (rest : List ℕ)
    → bytes_of lo hi (row_at (held base kind info kept)) ≡ xs
    → left c lo hi again (row_begins kind c lo hi (held base kind info kept) w) rest
    ≡ (walk_in c lo hi (walk_on c lo hi) kind (row_at (held base kind info kept)) xs (walked w) >>= scan_rest c lo hi w.way) again ends rest
unfolding walk_in walk_keys
begins_step c lo hi again base Four info kept w xs rest e =
    ap (λ ys. (walk_in c lo hi (walk_on c lo hi) Four (row_at (held base Four info kept)) ys (walked w) >>= scan_rest c lo hi w.way)
    again ends rest) e
begins_step c lo hi again base Sixteen info kept w xs rest e =
    ap (λ ys. (walk_in c lo hi (walk_on c lo hi) Sixteen (row_at (held base Sixteen info kept)) ys (walked w) >>= scan_rest c lo hi w.way)
    again ends rest) e
begins_step c lo hi again base FortyEight info kept w xs rest e =
    words_step c lo hi again base info kept w (resume_at c lo hi w) 0 32 rest (λ rest. way_step c lo hi again w w.way rest)
    ∙ ap (λ ys.
    (walk_in c lo hi (walk_on c lo hi) FortyEight (row_at (held base FortyEight info kept)) ys (walked w) >>= scan_rest c lo hi w.way)
    again ends rest) e
begins_step c lo hi again base Full info kept w xs rest e =
    frame_step c lo hi again base Full info kept (keys_one 0) 0 256 0 0 w (resume_at c lo hi w) rest
    (λ rest. way_step c lo hi again w w.way rest)
    ∙ ap (λ ys. (walk_in c lo hi (walk_on c lo hi) Full (row_at (held base Full info kept)) ys (walked w) >>= scan_rest c lo hi w.way)
    again ends rest) e

list_step : (c : Setting) (lo hi : ℕ) (again : Rest) (n : HeldRow) (w : Walk) (xs : List ℕ) (rest : List ℕ) → bytes_of lo hi (row_at n) ≡ xs
    → left c lo hi again (visit_list c lo hi n w xs) rest ≡
    (walk_bytes c lo hi (walk_on c lo hi) (row_at n) xs (walked w) >>= scan_rest c lo hi w.way) again ends rest
unfolding walk_bytes
list_step c lo hi again n w [] rest e = way_step c lo hi again w w.way rest
list_step c lo hi again n w (x ∷ xs) rest e = begins_step c lo hi again n.base n.kind n.info n.kept w (x ∷ xs) rest e

map_snoc : (rows : List HeldRow) (n : HeldRow) → map row_at (rows ++ n ∷ []) ≡ map row_at rows ++ row_at n ∷ []
map_snoc [] n = refl
map_snoc (m ∷ rows) n = ap (λ ns. row_at m ∷ ns) (map_snoc rows n)

visit_step : (c : Setting) (lo hi : ℕ) (again : Rest) (n : HeldRow) (w : Walk) (rest : List ℕ)
    → left c lo hi again (visit_at c lo hi n w) rest ≡ visit_rest c lo hi n w again ends rest
visit_step c lo hi again n w rest =
    list_step c lo hi again n (with_held n w) (bytes_of lo hi (row_at n)) rest refl
    ∙ sym (walk_from-body c lo hi (record { row = row_at n; walked = walked (with_held n w) }) again
    (λ v. scan_rest c lo hi (with_held n w).way v again ends) rest)
    ∙ go (has_row n.base (map row_at w.rows))
  where
    go : (b : Bool)
        → (walk_on c lo hi (row_at n) (walked (if b then w else record { rows = w.rows ++ n ∷ []; pairs = w.pairs; way = w.way }))
        >>= scan_rest c lo hi
        (if b then w else record { rows = w.rows ++ n ∷ []; pairs = w.pairs; way = w.way }).way) again ends rest
        ≡ (walk_on c lo hi (row_at n)
        (if b then walked w else record { rows = map row_at w.rows ++ row_at n ∷ []; pairs = w.pairs }) >>= scan_rest c lo hi
        w.way) again ends rest
    go true = refl
    go false =
        ap (λ rows. (walk_on c lo hi (row_at n) (record { rows = rows; pairs = w.pairs }) >>= scan_rest c lo hi w.way) again ends rest)
        (map_snoc w.rows n)

entry_step : (c : Setting) (lo hi : ℕ) (again : Rest) (entry : Entry) (w : Walk) (v : ℕ) (rest : List ℕ)
    → left c lo hi again (entry_at c lo hi entry w v) rest ≡ entry_rest c lo hi entry w v again ends rest
entry_step c lo hi again Root w v rest = visit_step c lo hi again (held (root_base c.shape) Full 3 v) w rest
entry_step c lo hi again (Below base kind) w v rest = refl

enter_step : (c : Setting) (lo hi : ℕ) (again : Rest) (entry : Entry) (w : Walk) (rest : List ℕ)
    → left c lo hi again (enter_at c entry w) rest ≡ (enter c (entry_base c entry) >>= entry_rest c lo hi entry w) again ends rest
enter_step c lo hi again entry w rest = go (locks c.variant)
  where
    go : (b : Bool)
        → left c lo hi again (if b then at (Lock entry true) w else at (Wait entry) w) rest ≡
        ((if b then lock c.shape (entry_base c entry) else wait (entry_base c entry)) >>= entry_rest c lo hi entry w) again ends rest
    go true = refl
    go false = refl

-- a leaf counts or not
leaf_same : (lo hi key value : ℕ) (w : Walk)
    → walked (record { rows = w.rows; pairs = (with_leaf lo hi key value (walked w)).pairs; way = w.way }) ≡ with_leaf lo hi
    key value (walked w)
leaf_same lo hi key value w = go (nat_le lo key && nat_le key hi && nat_lt (length w.pairs) pair_limit)
  where
    go : (b : Bool)
        → walked
        (record {
          rows = w.rows;
          pairs = (if b then record { rows = map row_at w.rows; pairs = w.pairs ++ (key, value) ∷ [] } else walked w).pairs;
          way = w.way;
        })
        ≡ (if b then record { rows = map row_at w.rows; pairs = w.pairs ++ (key, value) ∷ [] } else walked w)
    go true = refl
    go false = refl

child_step : (c : Setting) (lo hi : ℕ) (again : Rest) (w : Walk) (child : Child) (rest : List ℕ)
    → left c lo hi again (child_after c lo hi w child) rest ≡
    (walk_child c lo hi (walk_on c lo hi) child (walked w) >>= scan_rest c lo hi w.way) again ends rest
unfolding walk_child
child_step c lo hi again w Empty rest = way_step c lo hi again w w.way rest
child_step c lo hi again w (Leaf key value) rest =
    way_step c lo hi again (record { rows = w.rows; pairs = (with_leaf lo hi key value (walked w)).pairs; way = w.way }) w.way rest
    ∙ ap (λ v. scan_rest c lo hi w.way v again ends rest) (leaf_same lo hi key value w)
child_step c lo hi again w (ChildRow base kind) rest = enter_step c lo hi again (Below base kind) w rest

-- Every step

abbrev Starts : Setting → ℕ → ℕ → Rest → Type 0
Starts c lo hi again = (rest : List ℕ) → left c lo hi again (scan_start c) rest ≡ again rest

lock_step : (c : Setting) (lo hi : ℕ) (again : Rest) (entry : Entry) (w : Walk) (word : ℕ) (rest : List ℕ)
    → left c lo hi again (if is_locked word then at (Lock entry false) w else at (Exchange entry word) w) rest ≡ lock_again
    (entry_base c entry) again
    (λ v. entry_rest c lo hi entry w v again ends) (word ∷ rest)
unfolding lock_turn
lock_step c lo hi again entry w word rest =
    go (is_locked word) ∙ sym (lock_again-body (entry_base c entry) again (λ v. entry_rest c lo hi entry w v again ends) (word ∷ rest))
  where
    go : (b : Bool) → left c lo hi again (if b then at (Lock entry false) w else at (Exchange entry word) w) rest
        ≡ (if b then lock_again (entry_base c entry) else
        (swap (entry_base c entry) word (locked_word word) >>= λ was. if was == word then give word else lock_again
        (entry_base c entry))) again
        (λ v. entry_rest c lo hi entry w v again ends) rest
    go true = refl
    go false = refl

exchange_step : (c : Setting) (lo hi : ℕ) (again : Rest) (entry : Entry) (w : Walk) (v word : ℕ) (rest : List ℕ)
    → left c lo hi again (if word == v then entry_at c lo hi entry w v else at (Lock entry false) w) rest ≡ left c lo hi again
    (at (Exchange entry v) w)
    (word ∷ rest)
exchange_step c lo hi again entry w v word rest = go (word == v)
  where
    go : (b : Bool)
        → left c lo hi again (if b then entry_at c lo hi entry w v else at (Lock entry false) w) rest ≡
        ((if b then give v else lock_again (entry_base c entry)) >>= entry_rest c lo hi entry w) again ends rest
    go true = entry_step c lo hi again entry w v rest
    go false = refl

wait_step : (c : Setting) (lo hi : ℕ) (again : Rest) (starts : Starts c lo hi again) (entry : Entry) (w : Walk) (word : ℕ) (rest : List ℕ)
    → left c lo hi again (step_after c lo hi (Wait entry) w word) rest ≡ left c lo hi again (at (Wait entry) w) (word ∷ rest)
unfolding wait_turn
wait_step c lo hi again starts entry w word rest =
    go (is_locked word) (is_obsolete word) ∙ sym (wait-body (entry_base c entry) again (λ v. entry_rest c lo hi entry w v again
    ends) (word ∷ rest))
  where
    go : (b d : Bool) → left c lo hi again (if b then at (Wait entry) w else if d then scan_start c else entry_at c lo hi entry w word) rest
        ≡ (if b then wait (entry_base c entry) else (if d then start_again else give word)) again
        (λ v. entry_rest c lo hi entry w v again ends) rest
    go true d = refl
    go false true = starts rest
    go false false = entry_step c lo hi again entry w word rest

keys_step : (c : Setting) (lo hi : ℕ) (again : Rest) (base : ℕ) (kind : Kind) (info kept : ℕ) (w : Walk) (word : ℕ) (rest : List ℕ)
    → left c lo hi again (keys_after_word kind c lo hi (held base kind info kept) w word) rest ≡ left c lo hi again
    (at (Keys (held base kind info kept)) w)
    (word ∷ rest)
keys_step c lo hi again base Four info kept w word rest =
    resume_step c lo hi again (with_frame w (frame_of (held base Four info kept) (keys_one word) 0 0)) rest
keys_step c lo hi again base Sixteen info kept w word rest = refl
keys_step c lo hi again base FortyEight info kept w word rest =
    resume_step c lo hi again (with_frame w (frame_of (held base FortyEight info kept) (keys_one word) 0 0)) rest
keys_step c lo hi again base Full info kept w word rest =
    resume_step c lo hi again (with_frame w (frame_of (held base Full info kept) (keys_one word) 0 0)) rest

release_rest_step : (c : Setting) (lo hi : ℕ) (again : Rest) (starts : Starts c lo hi again) (n : HeldRow) (w : Walk) (word : ℕ)
    (l : Bool) (rest : List ℕ)
    → locks c.variant ≡ l
    → left c lo hi again (release_after c n w word) rest ≡ release_rest l c n w again ends (word ∷ rest)
unfolding unlock check
release_rest_step c lo hi again starts n w word true rest e =
    ap (λ b. left c lo hi again (if b then release_rows w.rows w.pairs else if word == n.kept then close_at c w else scan_start c) rest) e
    ∙ release_step c lo hi again w.rows w.pairs rest e
release_rest_step c lo hi again starts n w word false rest e =
    ap (λ b. left c lo hi again (if b then release_rows w.rows w.pairs else if word == n.kept then close_at c w else scan_start c) rest) e
    ∙ go (word == n.kept)
  where
    go : (b : Bool)
        → left c lo hi again (if b then close_at c w else scan_start c) rest ≡
        ((if b then give {A = Unit {0}} tt else start_again) >>
        (each (map row_at w.rows) (check_of c) >> give (reply.Pairs w.pairs))) again ends rest
    go true =
        close_step c lo hi again w rest
        ∙ ap (λ b. ((if b then unlock_all (map row_at w.rows) else each (map row_at w.rows) (check_of c)) >> give (reply.Pairs w.pairs))
        again ends rest) e
    go false = starts rest

every_step : (c : Setting) (lo hi : ℕ) (again : Rest) (starts : Starts c lo hi again) (step : ScanStep) (w : Walk)
    (word : ℕ) (rest : List ℕ)
    → left c lo hi again (step_after c lo hi step w word) rest ≡ left c lo hi again (at step w) (word ∷ rest)
unfolding lock load_child
every_step c lo hi again starts (Lock entry true) w word rest = lock_step c lo hi again entry w word rest
every_step c lo hi again starts (Lock entry false) w word rest = lock_step c lo hi again entry w word rest
every_step c lo hi again starts (Exchange entry v) w word rest = exchange_step c lo hi again entry w v word rest
every_step c lo hi again starts (Wait entry) w word rest = wait_step c lo hi again starts entry w word rest
every_step c lo hi again starts (Info base kind kept) w word rest = visit_step c lo hi again (held base kind word kept) w rest
every_step c lo hi again starts (Keys n) w word rest = keys_step c lo hi again n.base n.kind n.info n.kept w word rest
every_step c lo hi again starts (FirstKeys n count) w word rest = refl
every_step c lo hi again starts (SecondKeys n count first) w word rest =
    resume_step c lo hi again (with_frame w (frame_of n (keys16 count first word) 0 0)) rest
every_step c lo hi again starts (Index n j m) w word rest = resume_step c lo hi again (with_frame w (frame_of n (keys_one word) j m)) rest
every_step c lo hi again starts (LoadChild f slot) w word rest = child_step c lo hi again (with_frame w f) (child_of c.shape word) rest
every_step c lo hi again starts (Release n) w word rest = release_rest_step c lo hi again starts n w word (locks c.variant) rest refl
every_step c lo hi again starts Over w word rest = refl

scan_procedure : (c : Setting) (lo hi : ℕ) (again : Rest) (rest : List ℕ)
    → left c lo hi again (scan_start c) rest ≡ procedure c (Scan lo hi) again ends rest
unfolding procedure scan
scan_procedure c lo hi again rest = enter_step c lo hi again Root no_walk rest

-- A scan that has made no access is at its first stage.
pub scan_begins : (c : Setting) (lo hi : ℕ) (rest : List ℕ) → c.call ≡ Scan lo hi
    → scan_in c lo hi (scan_start c) rest ≡ act c.shape c.variant c.call rest
unfolding scan_in
scan_begins c lo hi rest e =
    scan_procedure c lo hi (act c.shape c.variant c.call) rest
    ∙ ap (λ call. procedure c call (act c.shape c.variant c.call) ends rest) (sym e)
    ∙ sym (act-body c.shape c.variant c.call rest)

-- What is left after a word is what is left at the next stage.
pub scan_goes_on : (c : Setting) (lo hi : ℕ) (s : ScanAt) (word : ℕ) (rest : List ℕ) → c.call ≡ Scan lo hi
    → scan_in c lo hi (scan_after c lo hi s word) rest ≡ scan_in c lo hi s (word ∷ rest)
unfolding scan_in
scan_goes_on c lo hi s word rest e =
    every_step c lo hi (act c.shape c.variant c.call) (λ rest. scan_begins c lo hi rest e) s.step s.walk word rest
