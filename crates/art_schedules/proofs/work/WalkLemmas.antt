-- A scan that locks what it reads holds each row that it reads, or that is on its way.
use Rattle.art_schedules.proofs.Common.{◌≡◌, ℕ, zero, suc, ◌+◌, List, [], ◌∷◌, ◌++◌, refl, Bool, true, false, inl, inr, ◌==◌, filter, Option}
use Rattle.art_schedules.proofs.Common.{Some, None, if◌then◌else◌, Call, Get, Insert, Remove, Scan, Replace, Shape, Kind, Four, Sixteen}
use Rattle.art_schedules.proofs.Common.{FortyEight, Full, Child, Empty, ChildRow, Leaf, root_base, child_at, is_locked, is_obsolete, place_of}
use Rattle.art_schedules.proofs.Common.{child_of, Coupled, Setting, is_insert, bytes_of, with_leaf, has_row, HeldRow, Entry, Frame, ScanStep}
use Rattle.art_schedules.proofs.Common.{FirstKeys, SecondKeys, Index, LoadChild, Release, setting, row_at, held, keys_among, keys_one, Walk}
use Rattle.art_schedules.proofs.Common.{ScanAt, at, walked, on_way, lies, in_word, frame_of, keys16, release_rows, slot_at, bytes_at}
use Rattle.art_schedules.proofs.Common.{index_at_list, words_at, place_slot, child_from, word_test, frame_at, way_at, resume_at, with_frame}
use Rattle.art_schedules.proofs.Common.{visit_list, visit_at, entry_at, child_after, keys_after_word, scan_start, step_after, CallAt, OnKey}
use Rattle.art_schedules.proofs.Common.{OnScan, call_after, begun_as, call_begun, after_all, call_after_words, Each, IsAmong, IsWalked, ReadsWalked}
use Rattle.art_schedules.proofs.Common.{ReadsHeld}
use Rattle.std.proofs.Common.{map}
use Rattle.art_control_states.specs.declared.stage.Entry.TheVariants.{Root, Below}
use Rattle.art_control_states.specs.declared.stage.ScanStep.TheVariants.{Lock, Exchange, Wait, Info, Keys, Over}
use Rattle.art_control_states.specs.Scans.{entry_slot, row_begins}
use Rattle.art_schedules.proofs.versions.KeyLemmas.{each-weaker}
use Rattle.art_schedules.proofs.versions.KnownLemmas.{among-last, found-row}
use Rattle.art_schedules.proofs.work.ReadLemmas.{key-reads}

abbrev Good : ScanAt → Type 0
Good x = ReadsWalked x.step x.walk.rows × Each (λ f. IsWalked f.row x.walk.rows) x.walk.way

abbrev Ways : Walk → Type 0
Ways w = Each (λ f. IsWalked f.row w.rows) w.way

pick : (b : Bool) (x y : ScanAt) → Good x → Good y → Good (if b then x else y)
pick true x y g h = g
pick false x y g h = h

among-more : (row n : HeldRow) (rows : List HeldRow) → IsAmong row rows → IsAmong row (rows ++ n ∷ [])
among-more row n [] a = absurd a
among-more row n (x ∷ rows) (inl e) = inl e
among-more row n (x ∷ rows) (inr a) = inr (among-more row n rows a)

module _ (shape : Shape) (call : Call) (lo hi : ℕ) where
  abbrev c : Setting
  c = setting shape Coupled call

  slot-good : (w : Walk) (f : Frame) (x n : ℕ) (o : Option ℕ) (other : ScanAt) → IsWalked f.row w.rows → Ways w → Good other
      → Good (slot_at o (child_from w f x n) other)
  slot-good w f x n None other here ways rest = rest
  slot-good w f x n (Some slot) other here ways rest = (here, ways)

  bytes-good : (test : ℕ → Bool) (slot_of : ℕ → Option ℕ) (w : Walk) (f : Frame) (x n : ℕ) (other : ScanAt) → IsWalked f.row w.rows
      → Ways w → Good other
      → Good (bytes_at test slot_of (child_from w f) x n other)
  bytes-good test slot_of w f x zero other here ways rest = rest
  bytes-good test slot_of w f x (suc n) other here ways rest =
      let later = bytes-good test slot_of w f (x + 1) n other here ways rest in
      pick (test x) (slot_at (slot_of x) (child_from w f (x + 1) n) (bytes_at test slot_of (child_from w f) (x + 1) n other))
      (bytes_at test slot_of (child_from w f) (x + 1) n other)
      (slot-good w f (x + 1) n (slot_of x) (bytes_at test slot_of (child_from w f) (x + 1) n other) here ways later) later

  list-good : (n : HeldRow) (w : Walk) (j m : ℕ) (xs : List ℕ) (other : ScanAt) → IsWalked n w.rows → Ways w → Good other
      → Good (index_at_list n w j m xs other)
  list-good n w j m [] other here ways rest = rest
  list-good n w j m (x ∷ xs) other here ways rest = (here, ways)

  words-good : (n : HeldRow) (w : Walk) (j m : ℕ) (other : ScanAt) → IsWalked n w.rows → Ways w → Good other
      → Good (words_at lo hi n w j m other)
  words-good n w j zero other here ways rest = rest
  words-good n w j (suc m) other here ways rest =
      list-good n w j m (filter (in_word j) (bytes_of lo hi (row_at n))) (words_at lo hi n w (j + 1) m other) here ways
      (words-good n w (j + 1) m other here ways rest)

  frame-good : (kind : Kind) (w : Walk) (f : Frame) (other : ScanAt) → IsWalked f.row w.rows → Ways w → Good other
      → Good (frame_at kind lo hi w f other)
  frame-good Four w f other here ways rest =
      bytes-good (lies lo hi f) (λ x. place_slot f.row.kind f.row.base (place_of x (keys_among Four f.keys))) w f f.byte f.left
      other here ways rest
  frame-good Sixteen w f other here ways rest =
      bytes-good (lies lo hi f) (λ x. place_slot f.row.kind f.row.base (place_of x (keys_among Sixteen f.keys))) w f f.byte f.left
      other here ways rest
  frame-good FortyEight w f other here ways rest =
      bytes-good (word_test lo hi f) (entry_slot f) w f f.byte f.left (words_at lo hi f.row w (f.index + 1) f.words other) here ways
      (words-good f.row w (f.index + 1) f.words other here ways rest)
  frame-good Full w f other here ways rest =
      bytes-good (lies lo hi f) (λ x. Some (child_at Full f.row.base x)) w f f.byte f.left other here ways rest

  released : (rows : List HeldRow) (pairs : List (ℕ × ℕ)) → Good (release_rows rows pairs)
  released [] pairs = (tt, tt)
  released (n ∷ rows) pairs = (tt, tt)

  way-good : (w : Walk) (fs : List Frame) → Each (λ f. IsWalked f.row w.rows) fs → Good (way_at c lo hi w fs)
  way-good w [] ways = released w.rows w.pairs
  way-good w (f ∷ fs) ways = frame-good f.row.kind (on_way w fs) f (way_at c lo hi w fs) ways.0 ways.1 (way-good w fs ways.1)

  resume-good : (w : Walk) → Ways w → Good (resume_at c lo hi w)
  resume-good w ways = way-good w w.way ways

  begins-good : (kind : Kind) (n : HeldRow) (w : Walk) → IsWalked n w.rows → Ways w → Good (row_begins kind c lo hi n w)
  begins-good Four n w here ways = (here, ways)
  begins-good Sixteen n w here ways = (here, ways)
  begins-good FortyEight n w here ways = words-good n w 0 32 (resume_at c lo hi w) here ways (resume-good w ways)
  begins-good Full n w here ways = frame-good Full w (frame_of n (keys_one 0) 0 0) (resume_at c lo hi w) here ways (resume-good w ways)

  listed-good : (n : HeldRow) (w : Walk) (xs : List ℕ) → IsWalked n w.rows → Ways w → Good (visit_list c lo hi n w xs)
  listed-good n w [] here ways = resume-good w ways
  listed-good n w (x ∷ xs) here ways = begins-good n.kind n w here ways

  visit-good : (n : HeldRow) (w : Walk) → Ways w → Good (visit_at c lo hi n w)
  visit-good n w ways = go (has_row n.base (map row_at w.rows)) refl
    where
      more : Walk
      more = record { rows = w.rows ++ n ∷ []; pairs = w.pairs; way = w.way }

      go : (b : Bool) → has_row n.base (map row_at w.rows) ≡ b
          → Good (visit_list c lo hi n (if b then w else more) (bytes_of lo hi (row_at n)))
      go true e = listed-good n w (bytes_of lo hi (row_at n)) (found-row n.base w.rows e) ways
      go false e = listed-good n more (bytes_of lo hi (row_at n)) (n, among-last n w.rows, refl)
          (each-weaker (λ (f : Frame). IsWalked f.row w.rows) (λ (f : Frame). IsWalked f.row (w.rows ++ n ∷ []))
          (λ f x. (x.0, among-more x.0 n w.rows x.1, x.2)) w.way ways)

  entry-good : (entry : Entry) (w : Walk) (v : ℕ) → Ways w → Good (entry_at c lo hi entry w v)
  entry-good Root w v ways = visit-good (held (root_base shape) Full 3 v) w ways
  entry-good (Below base kind) w v ways = (tt, ways)

  child-good : (w : Walk) (child : Child) → Ways w → Good (child_after c lo hi w child)
  child-good w Empty ways = resume-good w ways
  child-good w (Leaf key value) ways =
      resume-good (record { rows = w.rows; pairs = (with_leaf lo hi key value (walked w)).pairs; way = w.way }) ways
  child-good w (ChildRow base kind) ways = (tt, ways)

  keys-good : (kind : Kind) (n : HeldRow) (w : Walk) (word : ℕ) → IsWalked n w.rows → Ways w → Good (keys_after_word kind c lo hi n w word)
  keys-good Four n w word here ways = resume-good (with_frame w (frame_of n (keys_one word) 0 0)) (here, ways)
  keys-good Sixteen n w word here ways = (here, ways)
  keys-good FortyEight n w word here ways = resume-good (with_frame w (frame_of n (keys_one word) 0 0)) (here, ways)
  keys-good Full n w word here ways = resume-good (with_frame w (frame_of n (keys_one word) 0 0)) (here, ways)

  scan-reads : (step : ScanStep) (w : Walk) (word : ℕ) → Good (at step w) → Good (step_after c lo hi step w word)
  scan-reads (Lock entry first) w word g = pick (is_locked word) (at (Lock entry false) w) (at (Exchange entry word) w) (tt, g.1) (tt, g.1)
  scan-reads (Exchange entry v) w word g =
      pick (word == v) (entry_at c lo hi entry w v) (at (Lock entry false) w) (entry-good entry w v g.1) (tt, g.1)
  scan-reads (Wait entry) w word g =
      pick (is_locked word) (at (Wait entry) w) (if is_obsolete word then scan_start c else entry_at c lo hi entry w word) (tt, g.1)
      (pick (is_obsolete word) (scan_start c) (entry_at c lo hi entry w word) (tt, tt) (entry-good entry w word g.1))
  scan-reads (Info base kind kept) w word g = visit-good (held base kind word kept) w g.1
  scan-reads (Keys n) w word g = keys-good n.kind n w word g.0 g.1
  scan-reads (FirstKeys n count) w word g = (g.0, g.1)
  scan-reads (SecondKeys n count first) w word g = resume-good (with_frame w (frame_of n (keys16 count first word) 0 0)) (g.0, g.1)
  scan-reads (Index n j m) w word g = resume-good (with_frame w (frame_of n (keys_one word) j m)) (g.0, g.1)
  scan-reads (LoadChild f slot) w word g = child-good (with_frame w f) (child_of shape word) (g.0, g.1)
  scan-reads (Release n) w word g = released w.rows w.pairs
  scan-reads Over w word g = (tt, g.1)

module _ (shape : Shape) (call : Call) where
  abbrev own : Setting
  own = setting shape Coupled call

  pub reads-on : (x : CallAt) (word : ℕ) → ReadsHeld x → ReadsHeld (call_after own x word)
  reads-on (OnKey stage) word g = key-reads shape call (is_insert call) stage word
  reads-on (OnScan low high x) word g = scan-reads shape call low high x.step x.walk word g

  reads-all : (x : CallAt) (got : List ℕ) → ReadsHeld x → ReadsHeld (after_all own x got)
  reads-all x [] g = g
  reads-all x (word ∷ got) g = reads-all (call_after own x word) got (reads-on x word g)

  begun-reads : (other : Call) → ReadsHeld (begun_as other own)
  begun-reads (Get k) = tt
  begun-reads (Insert k v) = tt
  begun-reads (Remove k) = tt
  begun-reads (Scan low high) = (tt, tt)
  begun-reads (Replace k old new) = tt

  pub reads-held : (got : List ℕ) → ReadsHeld (call_after_words own got)
  reads-held got = reads-all (call_begun own) got (begun-reads call)
