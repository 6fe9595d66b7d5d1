-- A step of a scan that knows the calm tree.
use Rattle.art_schedules.proofs.Common.{◌≡◌, ℕ, zero, suc, ◌+◌, ◌-◌, ◌*◌, ◌/◌, ◌%◌, ◌<◌, ◌≤◌, List, [], ◌∷◌, ◌++◌, refl, sym, ap, ◌∙◌, subst}
use Rattle.art_schedules.proofs.Common.{Bool, true, false, arith, eqb-true, option_map, map, filter, slice_index, Option, Some, None, and_parts}
use Rattle.art_schedules.proofs.Common.{none-some, Scan, Shape, Kind, Four, Sixteen, FortyEight, Full, Child, Empty, ChildRow, Leaf, root_base}
use Rattle.art_schedules.proofs.Common.{keys_at, more_keys_at, index_at, count_at, child_at, is_locked, keys4_of, keys16_of, place_of}
use Rattle.art_schedules.proofs.Common.{entries_of, child_of, Coupled, Load, Point, Asks, Setting, bytes_of, with_leaf, has_row, HeldRow, KeyWords}
use Rattle.art_schedules.proofs.Common.{Frame, Entry, ScanStep, FirstKeys, SecondKeys, Index, LoadChild, Release, row_at, held, setting}
use Rattle.art_schedules.proofs.Common.{keys_one, Walk, ScanAt, at, on_way, walked, frame_of, keys16, in_word, scan_turn, release_rows, slot_at}
use Rattle.art_schedules.proofs.Common.{bytes_at, index_at_list, words_at, place_slot, child_from, word_test, lies, frame_at, way_at, resume_at}
use Rattle.art_schedules.proofs.Common.{with_frame, with_held, visit_list, visit_at, entry_at, child_after, keys_after_word, step_after, OnScan}
use Rattle.art_schedules.proofs.Common.{Reached, root, below, child_in, slot_of, IsAtRest, Each, ReadsHeld, is_lock, KnowsWords, KnowsFrame}
use Rattle.art_schedules.proofs.Common.{KnowsEntry, KnowsTree}
use Rattle.std.proofs.Common.{◌==◌, if◌then◌else◌}
use Rattle.art_control_states.specs.declared.stage.Entry.TheVariants.{Root, Below}
use Rattle.art_control_states.specs.declared.stage.ScanStep.TheVariants.{Lock, Exchange, Wait, Info, Keys, Over}
use Rattle.art_control_states.specs.Scans.{close_at, row_begins}
use Rattle.art_schedules.proofs.versions.ByteLemmas.{index-small}
use Rattle.art_schedules.specs.coupled.Scanning.{HangsOnHeld, ScansKnowTrees}

module _ (shape : Shape) (low high n : ℕ) (calm : List ℕ) (rest : IsAtRest shape n calm) where
  abbrev c : Setting
  c = setting shape Coupled (Scan low high)

  abbrev Good : ScanAt → Type 0
  Good x = KnowsTree shape calm x

  abbrev Known : List Frame → Type 0
  Known way = Each (KnowsFrame shape calm) way

  bytes-good : (test : ℕ → Bool) (slots : ℕ → Option ℕ) (w : Walk) (f : Frame) (x n : ℕ) (other : ScanAt)
      → KnowsFrame shape calm f → Known w.way
      → ((y slot : ℕ) → test y ≡ true → slots y ≡ Some slot → slot_of calm f.row.base f.row.kind y ≡ Some slot) → x + n ≤ 256 → Good other
      → Good (bytes_at test slots (child_from w f) x n other)
  bytes-good test slots w f x zero other k way is few rest = rest
  bytes-good test slots w f x (suc n) other k way is few rest =
      go (test x) refl (bytes-good test slots w f (x + 1) n other k way is (omega (arith, few)) rest)
    where
      rest-of : ScanAt
      rest-of = bytes_at test slots (child_from w f) (x + 1) n other

      slot-good : (o : Option ℕ) → test x ≡ true → slots x ≡ o → Good rest-of → Good (slot_at o (child_from w f (x + 1) n) rest-of)
      slot-good None t e later = later
      slot-good (Some slot) t e later = record {
        step = (
          record { reached = k.reached; words = k.words; fits = omega (arith, few); few = k.few },
          (x, omega (arith, few), is x slot t e),
        );
        way = way;
      }

      go : (b : Bool) → test x ≡ b → Good rest-of → Good (if b then slot_at (slots x) (child_from w f (x + 1) n) rest-of else rest-of)
      go true t later = slot-good (slots x) t refl later
      go false t later = later

  words-good : (r : HeldRow) (w : Walk) (j m : ℕ) (other : ScanAt) → Reached shape calm r.base r.kind → r.kind ≡ FortyEight
      → Known w.way → Good other
      → Good (words_at low high r w j m other)
  words-good r w j zero other reached is way rest = rest
  words-good r w j (suc m) other reached is way rest =
      go (filter (in_word j) (bytes_of low high (row_at r))) refl (words-good r w (j + 1) m other reached is
      way rest)
    where
      go : (xs : List ℕ) → filter (in_word j) (bytes_of low high (row_at r)) ≡ xs → Good (words_at low high r w (j + 1) m other)
          → Good (index_at_list r w j m xs (words_at low high r w (j + 1) m other))
      go [] e later = later
      go (x ∷ xs) e later = record { step = (reached, is, index-small low high (row_at r) j x xs e); way = way }

  place-slots : (kind : Kind) (base slot : ℕ) (o : Option ℕ) → place_slot kind base o ≡ Some slot
      → option_map (child_at kind base) o ≡ Some slot
  place-slots kind base slot None e = absurd (none-some slot e)
  place-slots kind base slot (Some i) e = e

  abbrev frame : ℕ → Kind → ℕ → ℕ → KeyWords → ℕ → ℕ → ℕ → ℕ → Frame
  frame base kind info kept keys byte left index words = record {
    row = held base kind info kept;
    keys = keys;
    byte = byte;
    left = left;
    index = index;
    words =
        words;
  }

  frame-good : (w : Walk) (base : ℕ) (kind : Kind) (info was : ℕ) (keys : KeyWords) (byte left index words : ℕ) (other : ScanAt)
      → KnowsFrame shape calm (frame base kind info was keys byte left index words) → Known w.way → Good other
      → Good (frame_at kind low high w (frame base kind info was keys byte left index words) other)
  frame-good w base Four info was keys byte left index words other k way rest =
      bytes-good _ _ w (frame base Four info was keys byte left index words) byte left other k way
      (λ y slot t e. ap (λ v. option_map (child_at Four base) (place_of y (keys4_of v))) (sym k.words)
      ∙ place-slots Four base slot (place_of y (keys4_of keys.first)) e) k.fits rest
  frame-good w base Sixteen info was keys byte left index words other k way rest =
      bytes-good _ _ w (frame base Sixteen info was keys byte left index words) byte left other k way
      (λ y slot t e. ap (λ ks. option_map (child_at Sixteen base) (place_of y ks))
      (ap (λ v. keys16_of v (slice_index calm (keys_at base)) (slice_index calm (more_keys_at base))) (sym k.words.0)
      ∙ (ap (λ v. keys16_of keys.count v (slice_index calm (more_keys_at base))) (sym k.words.1)
      ∙ ap (keys16_of keys.count keys.first) (sym k.words.2)))
      ∙ place-slots Sixteen base slot (place_of y (keys16_of keys.count keys.first keys.second)) e) k.fits rest
  frame-good w base FortyEight info was keys byte left index words other k way rest =
      bytes-good _ _ w (frame base FortyEight info was keys byte left index words) byte left _ k way slots k.fits
      (words-good (held base FortyEight info was) w (index + 1) words other k.reached refl way rest)
    where
      slots : (y slot : ℕ) → word_test low high (frame base FortyEight info was keys byte left index words) y ≡ true
          → (if slice_index (entries_of keys.first) (y % 8) == 0 then None else Some
          (child_at FortyEight base (slice_index (entries_of keys.first) (y % 8) -
          1))) ≡ Some slot
          → slot_of calm base FortyEight y ≡ Some slot
      slots y slot t e =
          let same : y / 8 ≡ index = eqb-true (y / 8) index (and_parts (lies low high (frame base FortyEight info was keys byte left index
          words) y) (in_word index y) t).1 in
          let word : index_at base y ≡ index_at base (8 * index) = omega (arith, same) in
          ap (λ v. if slice_index (entries_of v) (y % 8) == 0 then None else Some
          (child_at FortyEight base (slice_index (entries_of v) (y % 8) - 1)))
          (ap (slice_index calm) word ∙ sym k.words) ∙ e
  frame-good w base Full info was keys byte left index words other k way rest =
      bytes-good _ _ w (frame base Full info was keys byte left index words) byte left other k way (λ y slot t e. e) k.fits rest

  closed : (w : Walk) → Good (close_at c w)
  closed w = go w.rows
    where
      go : (hs : List HeldRow) → Good (release_rows hs w.pairs)
      go [] = record { step = tt; way = tt }
      go (x ∷ hs) = record { step = tt; way = tt }

  way-good : (w : Walk) (fs : List Frame) → Known fs → Good (way_at c low high w fs)
  way-good w [] k = closed w
  way-good w (f ∷ fs) k =
      frame-good (on_way w fs) f.row.base f.row.kind f.row.info f.row.kept f.keys f.byte f.left f.index f.words
      (way_at c low high w fs) k.0 k.1
      (way-good w fs k.1)

  resumed : (w : Walk) → Known w.way → Good (resume_at c low high w)
  resumed w k = way-good w w.way k

  begins : (base : ℕ) (kind : Kind) (info was : ℕ) (w : Walk) → Reached shape calm base kind → Known w.way
      → Good (row_begins kind c low high (held base kind info was) w)
  begins base Four info was w reached way = record { step = reached; way = way }
  begins base Sixteen info was w reached way = record { step = reached; way = way }
  begins base FortyEight info was w reached way = words-good (held base FortyEight info was) w 0 32 _ reached refl way (resumed w way)
  begins base Full info was w reached way =
      frame-good w base Full info was (keys_one 0) 0 256 0 0 _
      (record { reached = reached; words = tt; fits = omega arith; few = omega arith }) way (resumed w
      way)

  listed : (r : HeldRow) (w : Walk) (xs : List ℕ) → Reached shape calm r.base r.kind → Known w.way → Good (visit_list c low high r w xs)
  listed r w [] reached way = resumed w way
  listed r w (x ∷ xs) reached way = begins r.base r.kind r.info r.kept w reached way

  visited : (r : HeldRow) (w : Walk) → Reached shape calm r.base r.kind → Known w.way → Good (visit_at c low high r w)
  visited r w reached way = listed r (with_held r w) (bytes_of low high (row_at r)) reached (go (has_row r.base (map row_at w.rows)))
    where
      go : (b : Bool) → Known (if b then w else record { rows = w.rows ++ r ∷ []; pairs = w.pairs; way = w.way }).way
      go true = way
      go false = way

  framed : (w : Walk) (base : ℕ) (kind : Kind) (info was : ℕ) (keys : KeyWords) (index words : ℕ) → Reached shape calm base kind
      → KnowsWords kind calm base keys index → index < 32 → Known w.way
      → Good (resume_at c low high (with_frame w (frame_of (held base kind info was) keys index words)))
  framed w base kind info was keys index words reached known small way =
      resumed (with_frame w (frame_of (held base kind info was) keys index words)) (
        record {
          reached = reached;
          words = known;
          fits = omega arith;
          few = small;
        },
        way,
      )

  -- the child that was read
  child-good : (w : Walk) (child : Child) → Known w.way
      → ((base : ℕ) (kind : Kind) → child ≡ ChildRow base kind → HangsOnHeld shape calm w.rows base kind)
      → Good (child_after c low high w child)
  child-good w Empty way hangs = resumed w way
  child-good w (Leaf key value) way hangs = resumed (record {
    rows = w.rows;
    pairs = (with_leaf low high key value (walked w)).pairs;
    way = w.way;
  }) way
  child-good w (ChildRow base kind) way hangs = record { step = hangs base kind refl; way = way }

  abbrev Gets : ScanAt → ℕ → Type 0
  Gets x word = (at-word : ℕ) (mark : Option Point) → is_lock (OnScan low high x) ≡ false → scan_turn c x ≡ Asks (Load at-word) mark
      → word ≡ slice_index calm at-word

  keys-good : (base : ℕ) (kind : Kind) (info was : ℕ) (w : Walk) (word : ℕ) → Reached shape calm base kind → Known w.way
      → Gets (at (Keys (held base kind info was)) w) word → Good (keys_after_word kind c low high (held base kind info was) w word)
  keys-good base Four info was w word reached way got =
      framed w base Four info was (keys_one word) 0 0 reached (got (keys_at base) None refl refl) (omega
      arith) way
  keys-good base Sixteen info was w word reached way got =
      record { step = (reached, refl, got (count_at Sixteen base) None refl refl); way = way }
  keys-good base FortyEight info was w word reached way got =
      let none : keys_at base ≡ index_at base (8 * 0) = omega arith in
      framed w base FortyEight info was (keys_one word) 0 0 reached
      (got (keys_at base) None refl refl ∙ ap (slice_index calm) none) (omega arith) way
  keys-good base Full info was w word reached way got = framed w base Full info was (keys_one word) 0 0 reached tt (omega arith) way

  second-good : (base : ℕ) (kind : Kind) (info was : ℕ) (w : Walk) (count first word : ℕ) → kind ≡ Sixteen → Reached shape calm base kind
      → count ≡ slice_index calm (count_at Sixteen base) → first ≡ slice_index calm (keys_at base)
      → word ≡ slice_index calm (more_keys_at base) → Known w.way
      → Good (resume_at c low high (with_frame w (frame_of (held base kind info was) (keys16 count first word) 0 0)))
  second-good base kind info was w count first word is reached a b d way =
      framed w base kind info was (keys16 count first word) 0 0 reached
      (subst (λ k. KnowsWords k calm base (keys16 count first word) 0) (sym is) (a, b, d))
      (omega arith) way

  index-good : (base : ℕ) (kind : Kind) (info was : ℕ) (w : Walk) (j m word : ℕ) → kind ≡ FortyEight → Reached shape calm base kind
      → word ≡ slice_index calm (index_at base (8 * j)) → j < 32 → Known w.way
      → Good (resume_at c low high (with_frame w (frame_of (held base kind info was) (keys_one word) j m)))
  index-good base kind info was w j m word is reached a small way =
      framed w base kind info was (keys_one word) j m reached (subst (λ k. KnowsWords k calm base (keys_one word) j) (sym is) a) small way

  entered : (entry : Entry) (v : ℕ) (w : Walk) → KnowsEntry shape calm w.rows entry → Known w.way → Good (entry_at c low high entry w v)
  entered Root v w k way = visited (held (root_base shape) Full 3 v) w root way
  entered (Below base kind) v w k way = record { step = below k.reached k.byte k.is_byte k.hangs; way = way }

  next : (step : ScanStep) (w : Walk) (word : ℕ) → ReadsHeld (OnScan low high (at step w)) → KnowsTree shape calm (at step w)
      → Gets (at step w) word
      → Good (step_after c low high step w word)
  next (Lock entry first) w word reads k got = go (is_locked word)
    where
      go : (b : Bool) → Good (if b then at (Lock entry false) w else at (Exchange entry word) w)
      go true = record { step = k.step; way = k.way }
      go false = record { step = k.step; way = k.way }
  next (Exchange entry v) w word reads k got = go (word == v)
    where
      go : (b : Bool) → Good (if b then entry_at c low high entry w v else at (Lock entry false) w)
      go true = entered entry v w k.step k.way
      go false = record { step = k.step; way = k.way }
  next (Wait entry) w word reads k got = absurd k.step
  next (Info base kind kept) w word reads k got = visited (held base kind word kept) w k.step k.way
  next (Keys r) w word reads k got = keys-good r.base r.kind r.info r.kept w word k.step k.way got
  next (FirstKeys r count) w word reads k got =
      record { step = (k.step.0, k.step.1, k.step.2, got (keys_at r.base) None refl refl); way = k.way }
  next (SecondKeys r count first) w word reads k got =
      second-good r.base r.kind r.info r.kept w count first word k.step.1 k.step.0 k.step.2 k.step.3
      (got (more_keys_at r.base) None refl refl) k.way
  next (Index r j m) w word reads k got = index-good r.base r.kind r.info r.kept w j m word k.step.1 k.step.0
      (got (index_at r.base (8 * j)) None refl refl)
      k.step.2 k.way
  next (LoadChild f slot) w word reads k got = child-good (with_frame w f) (child_of shape word) (k.step.0, k.way) (λ base kind is. record {
    row = f.row;
    walked = reads.0;
    reached = k.step.0.reached;
    byte = k.step.1.0;
    is_byte = k.step.1.1;
    hangs = ap (child_in shape calm) k.step.1.2 ∙ (ap (child_of shape) (sym (got slot None refl refl)) ∙ is);
  })
  next (Release r) w word reads k got = go w.rows
    where
      go : (hs : List HeldRow) → Good (release_rows hs w.pairs)
      go [] = record { step = tt; way = tt }
      go (x ∷ hs) = record { step = tt; way = tt }
  next Over w word reads k got = k

pub scans-know-trees : ScansKnowTrees
scans-know-trees shape low high n calm x word rest reads k got = next shape low high n calm rest x.step x.walk word reads k got
