-- What each access of a scan does.
use Rattle.art_schedules.proofs.Common.{Variant, Coupled, Optimistic, false≢true, locks, setting, lock_of, locks_of, scan_held, FitsScan, IsKept}
use Rattle.art_schedules.proofs.Common.{IsAmong, IsWith, Releases, Takes, ap, eq-eqb, holds, inl, inr, ne_eqb, subst, zero, ℕ, ◌∙◌, ◌≡◌, ◌≢◌}
use Rattle.art_schedules.specs.versions.Effects.{Has}
use Rattle.art_schedules.proofs.Common.{suc, ◌+◌, ◌-◌, ◌%◌, ◌<◌, ◌≤◌, List, [], ◌∷◌, ◌++◌, refl, sym, Bool, true, false, arith, ◌==◌}
use Rattle.art_schedules.proofs.Common.{if◌then◌else◌, slice_index, map, filter, Option, Some, None, none-some, same_Some, Call, Kind, Four}
use Rattle.art_schedules.proofs.Common.{Sixteen, FortyEight, Full, Shape, Child, Empty, ChildRow, Leaf, kind_at, child_at, root_base, is_locked}
use Rattle.art_schedules.proofs.Common.{HeldRow, KeyWords, Setting, bytes_of, child_of, entries_of, has_row, is_obsolete, place_of, with_leaf}
use Rattle.art_control_states.specs.declared.stage.Entry.TheVariants.{Below}
use Rattle.art_schedules.proofs.Common.{FirstKeys, Frame, Index, LoadChild, Release, ScanStep, SecondKeys, held, row_at}
use Rattle.art_control_states.specs.declared.stage.ScanStep.TheVariants.{Exchange, Keys, Lock}
use Rattle.art_schedules.proofs.Common.{keys_among, keys_one, Walk, ScanAt, at, walked, on_way, in_word, frame_of, keys16, release_rows, close_at}
use Rattle.art_schedules.proofs.Common.{slot_at, bytes_at, index_at_list, words_at, child_from, frame_at, way_at, resume_at, with_frame}
use Rattle.art_schedules.proofs.Common.{visit_list, entry_at, child_after, scan_start, step_after, OnScan, OfRows, Each, IsSlot, child_rows}
use Rattle.art_schedules.proofs.Common.{IsNamed, FitsFrame, KnowsScanRows, Reads, Answered, AccessDoes}
use Rattle.art_rows.specs.Rows.{leaves_out_check}
use Rattle.art_control_states.specs.Scans.{enter_at, place_slot, row_begins, visit_at}
use Rattle.art_schedules.specs.versions.Locking.{scan_locked}
use Rattle.art_schedules.specs.versions.Holding.{rows_entered, rows_walked}
use Rattle.art_schedules.proofs.versions.WithLemmas.{with-last}
use Rattle.art_rows.proofs.AccessLemmas.{each-append}
use Rattle.art_control_states.specs.declared.stage.Entry.{Entry}
use Rattle.art_control_states.specs.declared.stage.Entry.TheVariants.{Root}
use Rattle.art_control_states.specs.declared.stage.ScanStep.TheVariants.{Wait, Info, Over}
use Rattle.art_schedules.proofs.versions.ByteLemmas.{index-small}
use Rattle.art_schedules.proofs.versions.WordFacts.{place-fits, entry-fits}

-- the rows that a scan holds, where it has walked these
abbrev pub walked_held : Bool → List HeldRow → List HeldRow
walked_held true rows = rows
walked_held false rows = []

-- a row that is met again, and one that is not
fresh-row : (base : ℕ) (rows : List HeldRow) → Each (λ n. n.base ≢ base) rows → has_row base (map row_at rows) ≡ false
fresh-row base [] h = refl
fresh-row base (n ∷ rows) h = ap (λ b. if b then true else has_row base (map row_at rows)) (ne_eqb n.base base h.0)
    ∙ fresh-row base rows h.1

each-init : {A : Type 0} (Q : A → Type 0) (xs : List A) (x : A) → Each Q (xs ++ x ∷ []) → Each Q xs × Q x
each-init Q [] x h = (tt, h.0)
each-init Q (y ∷ xs) x h = let rest = each-init Q xs x h.1 in ((h.0, rest.0), rest.1)

locks-end : (rows : List HeldRow) (n : HeldRow) → locks_of (rows ++ n ∷ []) ≡ locks_of rows ++ lock_of n ∷ []
locks-end [] n = refl
locks-end (x ∷ rows) n = ap (λ xs. lock_of x ∷ xs) (locks-end rows n)

among-all : (Q : HeldRow → Type 0) (rows : List HeldRow) → ((x : HeldRow) → IsAmong x (locks_of rows) → Q x)
    → ((x : HeldRow) → Q (lock_of x) → Q x) → Each Q rows
among-all Q [] h back = tt
among-all Q (x ∷ rows) h back = (back x (h (lock_of x) (inl refl)), among-all Q rows (λ y a. h y (inr a)) back)

pub place-good : (kind : Kind) (base : ℕ) (keys : KeyWords) (y slot : ℕ) → place_slot kind base (place_of y (keys_among kind keys)) ≡ Some slot
    → IsSlot base kind slot
place-good kind base keys y slot h = go (place_of y (keys_among kind keys)) refl h
  where
    go : (o : Option ℕ) → place_of y (keys_among kind keys) ≡ o → place_slot kind base o ≡ Some slot → IsSlot base kind slot
    go None e f = absurd (none-some slot f)
    go (Some i) e f = (i, place-fits kind keys y i e, sym (same_Some _ slot f))

pub entry-good : (base word y slot : ℕ) → (if slice_index (entries_of word) (y % 8) == 0 then None else Some
    (child_at FortyEight base (slice_index (entries_of word) (y % 8) - 1))) ≡ Some slot → IsSlot base FortyEight slot
entry-good base word y slot h = go (slice_index (entries_of word) (y % 8) == 0) h
  where
    go : (b : Bool) → (if b then None else Some (child_at FortyEight base (slice_index (entries_of word) (y % 8) - 1))) ≡ Some slot
        → IsSlot base FortyEight slot
    go true f = absurd (none-some slot f)
    go false f = (slice_index (entries_of word) (y % 8) - 1, entry-fits word (y % 8), sym (same_Some _ slot f))

module _ (variant : Variant) (s : Shape) (call : Call) (P : OfRows) (is_row : (b : ℕ) (k : Kind) → P b k → kind_at s b ≡ Some k)
    (root : P (root_base s) Full) (lo hi : ℕ) where
  abbrev c : Setting
  c = setting s variant call

  abbrev l : Bool
  l = locks variant

  -- the scan is there, and holds these rows that it has walked
  module _ (rows : List HeldRow) where
    abbrev pub GoodAt : Bool → ScanAt → Type 0
    GoodAt l x = KnowsScanRows P l x × (scan_held l x.step x.walk ≡ walked_held l rows)

    abbrev pub Good : ScanAt → Type 0
    Good x = GoodAt l x

    abbrev pub AreKept : Type 0
    AreKept = Each (IsKept l P) (walked_held l rows)

    -- at a step between rows
    at-step : (step : ScanStep) (w : Walk) → w.rows ≡ rows → scan_locked step w ≡ w.rows → AreKept
        → Each (IsNamed P) (rows_walked step) → FitsScan l P step w → Each (FitsFrame P) w.way → Good (at step w)
    at-step step w is held kept known fits way = go l refl kept fits
      where
        all : scan_locked step w ≡ rows
        all = held ∙ is

        go : (b : Bool) → l ≡ b → Each (IsKept b P) (walked_held b rows) → FitsScan b P step w → GoodAt b (at step w)
        go true e kept fits = (record { kept = subst (Each (IsKept true P)) (sym all) kept; known = known; fits = fits; way = way }, all)
        go false e kept fits = (record { kept = tt; known = known; fits = fits; way = way }, refl)

    -- a loop over bytes

    slot-good : (w : Walk) (f : Frame) (x n : ℕ) (o : Option ℕ) (other : ScanAt) → w.rows ≡ rows → AreKept
        → ((slot : ℕ) → o ≡ Some slot → IsSlot f.row.base f.row.kind slot)
        → P f.row.base f.row.kind → x + n ≤ 256 → Each (FitsFrame P) w.way → Good other → Good (slot_at o (child_from w f x n) other)
    slot-good w f x n None other is kept slots p few way rest = rest
    slot-good w f x n (Some slot) other is kept slots p few way rest =
        at-step (LoadChild (record { row = f.row; keys = f.keys; byte = x; left = n; index = f.index; words = f.words })
        slot) w is refl kept tt
        ((p, few), slots slot refl) way

    bytes-good : (test : ℕ → Bool) (slot_of : ℕ → Option ℕ) (w : Walk) (f : Frame) (x n : ℕ) (other : ScanAt) → w.rows ≡ rows → AreKept
        → ((y slot : ℕ) → y < 256 → slot_of y ≡ Some slot → IsSlot f.row.base f.row.kind slot)
        → P f.row.base f.row.kind → x + n ≤ 256 → Each (FitsFrame P) w.way → Good other
        → Good (bytes_at test slot_of (child_from w f) x n other)
    bytes-good test slot_of w f x zero other is kept slots p few way rest = rest
    bytes-good test slot_of w f x (suc n) other is kept slots p few way rest =
        go (test x) (bytes-good test slot_of w f (x + 1) n other is kept slots p (omega (arith, few)) way rest)
      where
        go : (b : Bool) → Good (bytes_at test slot_of (child_from w f) (x + 1) n other)
            → Good (if b then slot_at (slot_of x) (child_from w f (x + 1) n) (bytes_at test slot_of (child_from w f) (x + 1) n other)
            else bytes_at test slot_of (child_from w f) (x + 1) n other)
        go true later = slot-good w f (x + 1) n (slot_of x) _ is kept (λ slot e. slots x slot (omega (arith, few)) e) p
            (omega (arith, few)) way later
        go false later = later

    words-good : (n : HeldRow) (w : Walk) (j m : ℕ) (other : ScanAt) → w.rows ≡ rows → AreKept → n.kind ≡ FortyEight → P n.base n.kind
        → Each (FitsFrame P) w.way → Good other → Good (words_at lo hi n w j m other)
    words-good n w j zero other is kept full p way rest = rest
    words-good n w j (suc m) other is kept full p way rest =
        go (filter (in_word j) (bytes_of lo hi (row_at n))) refl (words-good n w (j + 1) m other is kept full p way rest)
      where
        go : (xs : List ℕ) → filter (in_word j) (bytes_of lo hi (row_at n)) ≡ xs → Good (words_at lo hi n w (j + 1) m other)
            → Good (index_at_list n w j m xs (words_at lo hi n w (j + 1) m other))
        go [] e later = later
        go (x ∷ xs) e later = at-step (Index n j m) w is refl kept (p, tt) (full, index-small lo hi (row_at n) j x xs e) way

    abbrev frame : ℕ → Kind → ℕ → ℕ → KeyWords → ℕ → ℕ → ℕ → ℕ → Frame
    frame base kind info kept keys byte left index words =
        record { row = held base kind info kept; keys = keys; byte = byte; left = left; index = index; words = words }

    frame-good : (w : Walk) (base : ℕ) (kind : Kind) (info was : ℕ) (keys : KeyWords) (byte left index words : ℕ) (other : ScanAt)
        → w.rows ≡ rows → AreKept → P base kind → byte + left ≤ 256 → Each (FitsFrame P) w.way → Good other
        → Good (frame_at kind lo hi w (frame base kind info was keys byte left index words) other)
    frame-good w base Four info was keys byte left index words other is kept p few way rest =
        bytes-good _ _ w (frame base Four info was keys byte left index words) byte left other is kept
        (λ y slot l e. place-good Four base keys y slot e) p few way rest
    frame-good w base Sixteen info was keys byte left index words other is kept p few way rest =
        bytes-good _ _ w (frame base Sixteen info was keys byte left index words) byte left other is kept
        (λ y slot l e. place-good Sixteen base keys y slot e) p few way rest
    frame-good w base FortyEight info was keys byte left index words other is kept p few way rest =
        bytes-good _ _ w (frame base FortyEight info was keys byte left index words) byte left _ is kept
        (λ y slot l e. entry-good base keys.first y slot e) p few way
        (words-good (held base FortyEight info was) w (index + 1) words other is kept refl p way rest)
    frame-good w base Full info was keys byte left index words other is kept p few way rest =
        bytes-good _ _ w (frame base Full info was keys byte left index words) byte left other is kept
        (λ y slot l e. (y, l, sym (same_Some (child_at Full base y) slot e))) p few way rest

    closed : (w : Walk) → w.rows ≡ rows → AreKept → Good (close_at c w)
    closed w is kept = go l (leaves_out_check variant call) kept
      where
        released : (hs : List HeldRow) → hs ≡ rows → (b : Bool) → Each (IsKept b P) (walked_held b rows) → GoodAt b (release_rows hs w.pairs)
        released [] e true kept = (record { kept = tt; known = tt; fits = tt; way = tt }, e)
        released [] e false kept = (record { kept = tt; known = tt; fits = tt; way = tt }, refl)
        released (n ∷ hs) e true kept = (record { kept = subst (Each (IsKept true P)) (sym e) kept; known = tt; fits = tt; way = tt }, e)
        released (n ∷ hs) e false kept = (record { kept = tt; known = tt; fits = tt; way = tt }, refl)

        none : GoodAt false (release_rows [] w.pairs)
        none = (record { kept = tt; known = tt; fits = tt; way = tt }, refl)

        go : (b d : Bool) → Each (IsKept b P) (walked_held b rows)
            → GoodAt b (if b then release_rows w.rows w.pairs else if d then release_rows [] w.pairs else release_rows w.rows w.pairs)
        go true d kept = released w.rows is true kept
        go false true kept = none
        go false false kept = released w.rows is false kept

    way-good : (w : Walk) (fs : List Frame) → w.rows ≡ rows → AreKept → Each (FitsFrame P) fs → Good (way_at c lo hi w fs)
    way-good w [] is kept h = closed w is kept
    way-good w (f ∷ fs) is kept h =
        frame-good (on_way w fs) f.row.base f.row.kind f.row.info f.row.kept f.keys f.byte f.left f.index f.words
        (way_at c lo hi w fs) is kept
        h.0.0 h.0.1 h.1 (way-good w fs is kept h.1)

    pub resumed : (w : Walk) → w.rows ≡ rows → AreKept → Each (FitsFrame P) w.way → Good (resume_at c lo hi w)
    resumed w is kept h = way-good w w.way is kept h

    begins : (base : ℕ) (kind : Kind) (info was : ℕ) (w : Walk) → w.rows ≡ rows → AreKept → P base kind → Each (FitsFrame P) w.way
        → Good (row_begins kind c lo hi (held base kind info was) w)
    begins base Four info was w is kept p way = at-step (Keys (held base Four info was)) w is refl kept (p, tt) tt way
    begins base Sixteen info was w is kept p way = at-step (Keys (held base Sixteen info was)) w is refl kept (p, tt) tt way
    begins base FortyEight info was w is kept p way =
        words-good (held base FortyEight info was) w 0 32 _ is kept refl p way (resumed w is kept way)
    begins base Full info was w is kept p way =
        frame-good w base Full info was (keys_one 0) 0 256 0 0 _ is kept p (omega arith) way (resumed w is kept way)

    listed : (n : HeldRow) (w : Walk) (xs : List ℕ) → w.rows ≡ rows → AreKept → P n.base n.kind → Each (FitsFrame P) w.way
        → Good (visit_list c lo hi n w xs)
    listed n w [] is kept p way = resumed w is kept way
    listed n w (x ∷ xs) is kept p way = begins n.base n.kind n.info n.kept w is kept p way

    enters : (entry : Entry) (w : Walk) → w.rows ≡ rows → AreKept → Each (IsNamed P) (rows_entered entry) → Each (FitsFrame P) w.way
        → Good (enter_at c entry w)
    enters entry w is kept known way = go l kept
      where
        go : (b : Bool) → Each (IsKept b P) (walked_held b rows) → GoodAt b (if b then at (Lock entry true) w else at (Wait entry) w)
        go true kept = (record { kept = subst (Each (IsKept true P)) (sym is) kept; known = known; fits = tt; way = way }, is)
        go false kept = (record { kept = tt; known = known; fits = tt; way = way }, refl)

    child-after : (w : Walk) (child : Child) → w.rows ≡ rows → AreKept → Each (FitsFrame P) w.way → Each (IsNamed P) (child_rows child)
        → Good (child_after c lo hi w child)
    child-after w Empty is kept way known = resumed w is kept way
    child-after w (Leaf key value) is kept way known =
        resumed (record { rows = w.rows; pairs = (with_leaf lo hi key value (walked w)).pairs; way = w.way }) is kept way
    child-after w (ChildRow base kind) is kept way known = enters (Below base kind) w is kept known way

  -- what a scan does, where it holds the rows that it has walked
  module _ (w : Walk) where
    abbrev Doing : ScanStep → Type 0
    Doing step = AccessDoes P c (OnScan lo hi (at step w))

    locked-same : (rows : List HeldRow) (step : ScanStep) → scan_locked step w ≡ rows → scan_held l step w ≡ walked_held l rows
    locked-same rows step e = go l
      where
        go : (b : Bool) → scan_held b step w ≡ walked_held b rows
        go true = e
        go false = refl

    -- a word of a row is read, and the rows stay
    leads : (step : ScanStep) (x : ScanAt) → scan_locked step w ≡ w.rows → Good w.rows x
        → Has P c (OnScan lo hi x) (holds c (OnScan lo hi (at step w))) []
    leads step x e good = (good.0, ap locks_of (good.1 ∙ sym (locked-same w.rows step e)), refl)

    rows-kept : (step : ScanStep) → scan_locked step w ≡ w.rows → KnowsScanRows P l (at step w) → AreKept w.rows
    rows-kept step e k = subst (Each (IsKept l P)) (locked-same w.rows step e) k.kept

    keys-does : (base : ℕ) (kind : Kind) (info was : ℕ) → KnowsScanRows P l (at (Keys (held base kind info was)) w)
        → Doing (Keys (held base kind info was))
    keys-does base Four info was k = Reads _ _ refl (λ value good. leads (Keys (held base Four info was)) _ refl
        (resumed w.rows (with_frame w (frame_of (held base Four info was) (keys_one value) 0 0)) refl
        (rows-kept (Keys (held base Four info was)) refl k)
        ((k.known.0, omega arith), k.way)))
    keys-does base Sixteen info was k = Reads _ _ refl (λ value good. leads (Keys (held base Sixteen info was)) _ refl
        (at-step w.rows (FirstKeys (held base Sixteen info was) value) w refl refl (rows-kept (Keys (held base Sixteen info was)) refl k)
        k.known tt k.way))
    keys-does base FortyEight info was k = Reads _ _ refl (λ value good. leads (Keys (held base FortyEight info was)) _ refl
        (resumed w.rows (with_frame w (frame_of (held base FortyEight info was) (keys_one value) 0 0)) refl
        (rows-kept (Keys (held base FortyEight info was)) refl k)
        ((k.known.0, omega arith), k.way)))
    keys-does base Full info was k = Reads _ _ refl (λ value good. leads (Keys (held base Full info was)) _ refl
        (resumed w.rows (with_frame w (frame_of (held base Full info was) (keys_one value) 0 0)) refl
        (rows-kept (Keys (held base Full info was)) refl k)
        ((k.known.0, omega arith), k.way)))

    -- Stages that are not the same in both trees.
    pub record Own : Type 0 where
      pub lock : (entry : Entry) (first : Bool) → KnowsScanRows P l (at (Lock entry first) w) → Doing (Lock entry first)
      pub exchange : (entry : Entry) (v : ℕ) → KnowsScanRows P l (at (Exchange entry v) w) → Doing (Exchange entry v)
      pub wait : (entry : Entry) → KnowsScanRows P l (at (Wait entry) w) → Doing (Wait entry)
      pub info : (base : ℕ) (kind : Kind) (kept : ℕ) → KnowsScanRows P l (at (Info base kind kept) w) → Doing (Info base kind kept)
      pub release : (n : HeldRow) → KnowsScanRows P l (at (Release n) w) → Doing (Release n)

    pub step-does : Own → (step : ScanStep) → KnowsScanRows P l (at step w) → Doing step
    step-does own (Lock entry first) k = own.lock entry first k
    step-does own (Exchange entry v) k = own.exchange entry v k
    step-does own (Wait entry) k = own.wait entry k
    step-does own (Info base kind kept) k = own.info base kind kept k
    step-does own (Release n) k = own.release n k
    step-does own (Keys n) k = keys-does n.base n.kind n.info n.kept k
    step-does own (FirstKeys n count) k = Reads _ _ refl (λ value good. leads (FirstKeys n count) _ refl
        (at-step w.rows (SecondKeys n count value) w refl refl (rows-kept (FirstKeys n count) refl k) k.known tt k.way))
    step-does own (SecondKeys n count first) k = Reads _ _ refl (λ value good. leads (SecondKeys n count first) _ refl
        (resumed w.rows (with_frame w (frame_of n (keys16 count first value) 0 0)) refl (rows-kept (SecondKeys n count first) refl k)
        ((k.known.0, omega arith), k.way)))
    step-does own (Index n j m) k = Reads _ _ refl (λ value good. leads (Index n j m) _ refl
        (resumed w.rows (with_frame w (frame_of n (keys_one value) j m)) refl (rows-kept (Index n j m) refl k)
        ((k.known.0, omega arith), k.way)))
    step-does own (LoadChild f slot) k = Reads _ _ refl (λ value good. leads (LoadChild f slot) _ refl
        (child-after w.rows (with_frame w f) (child_of s value) refl (rows-kept (LoadChild f slot) refl k) (k.fits.0, k.way)
        (good f.row.base f.row.kind (is_row f.row.base f.row.kind k.fits.0.0) k.fits.1)))
    step-does own Over k = Answered _ refl (ap locks_of (locked-same [] Over refl) ∙ none l)
      where
        none : (b : Bool) → locks_of (walked_held b []) ≡ []
        none true = refl
        none false = refl

-- A scan of the optimistic tree.
module _ (s : Shape) (call : Call) (P : OfRows) (is_row : (b : ℕ) (k : Kind) → P b k → kind_at s b ≡ Some k)
    (root : P (root_base s) Full) (lo hi : ℕ) where
  abbrev optimistic-setting : Setting
  optimistic-setting = setting s Optimistic call

  met : (n : HeldRow) (w : Walk) → P n.base n.kind → Each (FitsFrame P) w.way
      → Has P optimistic-setting (OnScan lo hi (visit_at optimistic-setting lo hi n w)) [] []
  met n w p way = go (bytes_of lo hi (row_at n)) (has_row n.base (map row_at w.rows))
    where
      here : Bool → Walk
      here b = if b then w else record { rows = w.rows ++ n ∷ []; pairs = w.pairs; way = w.way }

      same : (b : Bool) → Each (FitsFrame P) (here b).way
      same true = way
      same false = way

      go : (xs : List ℕ) (b : Bool) → Has P optimistic-setting (OnScan lo hi (visit_list optimistic-setting lo hi n (here b) xs)) [] []
      go xs b = let k = listed Optimistic s call P is_row root lo hi (here b).rows n (here b) xs refl tt p
          (same b) in (k.0, ap locks_of k.1, refl)

  entered : (entry : Entry) (w : Walk) (v : ℕ) → KnowsScanRows P false (at (Wait entry) w)
      → Has P optimistic-setting (OnScan lo hi (entry_at optimistic-setting lo hi entry w v)) [] []
  entered Root w v k = met (held (root_base s) Full 3 v) w root k.way
  entered (Below base kind) w v k = (record { kept = tt; known = k.known; fits = tt; way = k.way }, refl, refl)

  begun : Has P optimistic-setting (OnScan lo hi (scan_start optimistic-setting)) [] []
  begun = (record { kept = tt; known = tt; fits = tt; way = tt }, refl, refl)

  waits : (entry : Entry) (w : Walk) (value : ℕ) → KnowsScanRows P false (at (Wait entry) w)
      → Has P optimistic-setting (OnScan lo hi (step_after optimistic-setting lo hi (Wait entry) w value)) [] []
  waits entry w value k = choose (is_locked value) (is_obsolete value)
    where
      choose : (b d : Bool) → Has P optimistic-setting (OnScan lo hi (if b then at (Wait entry) w else if d then scan_start
          optimistic-setting else entry_at optimistic-setting lo hi entry w value)) [] []
      choose true d = (k, refl, refl)
      choose false true = begun
      choose false false = entered entry w value k

  checks : (w : Walk) (b : Bool) → Has P optimistic-setting (OnScan lo hi (if b then close_at optimistic-setting w else scan_start
      optimistic-setting)) [] []
  checks w true = let k = closed Optimistic s call P is_row root lo hi w.rows w refl tt in (k.0, ap locks_of k.1, refl)
  checks w false = begun

  pub optimistic-scan-does : (x : ScanAt) → KnowsScanRows P false x → AccessDoes P optimistic-setting (OnScan lo hi x)
  optimistic-scan-does x k = step-does Optimistic s call P is_row root lo hi x.walk (record {
    lock = λ entry first k. absurd k.fits;
    exchange = λ entry v k. absurd k.fits.0;
    wait = λ entry k. Reads _ _ refl (λ value good. waits entry x.walk value k);
    info = λ base kind kept k. Reads _ _ refl (λ value good. met (held base kind value kept) x.walk k.known.0 k.way);
    release = λ n k. Reads _ _ refl (λ value good. checks x.walk (value == n.kept));
  }) x.step k

-- A scan of the coupled tree.
module _ (s : Shape) (call : Call) (P : OfRows) (is_row : (b : ℕ) (k : Kind) → P b k → kind_at s b ≡ Some k)
    (root : P (root_base s) Full) (lo hi : ℕ) where
  abbrev coupled-setting : Setting
  coupled-setting = setting s Coupled call

  -- a row that was locked last is met
  locked-row : (n : HeldRow) (w : Walk) → Each (λ x. x.base ≢ n.base) w.rows → Each (IsKept true P) w.rows → IsKept true P n
      → Each (FitsFrame P) w.way
      → Has P coupled-setting (OnScan lo hi (visit_at coupled-setting lo hi n w)) (locks_of (w.rows ++ n ∷ [])) []
  locked-row n w fresh kept new way = go (bytes_of lo hi (row_at n)) (has_row n.base (map row_at w.rows)) (fresh-row n.base w.rows fresh)
    where
      all : Walk
      all = record { rows = w.rows ++ n ∷ []; pairs = w.pairs; way = w.way }

      go : (xs : List ℕ) (b : Bool) → b ≡ false
          → Has P coupled-setting (OnScan lo hi (visit_list coupled-setting lo hi n (if b then w else all) xs))
          (locks_of (w.rows ++ n ∷ [])) []
      go xs true e = absurd (false≢true (sym e))
      go xs false e =
          let k = listed Coupled s call P is_row root lo hi (w.rows ++ n ∷ []) n all xs refl
          (each-append (IsKept true P) w.rows n kept new) new.1 way in
          (k.0, ap locks_of k.1, refl)

  locks-does : (w : Walk) (entry : Entry) (first : Bool) → KnowsScanRows P true (at (Lock entry first) w)
      → AccessDoes P coupled-setting (OnScan lo hi (at (Lock entry first) w))
  locks-does w entry first k = go first
    where
      after : (value : ℕ) (b : Bool) → is_locked value ≡ b
          → Has P coupled-setting (OnScan lo hi (if b then at (Lock entry false) w else at (Exchange entry value) w)) (locks_of w.rows) []
      after value true e = (record { kept = k.kept; known = k.known; fits = tt; way = k.way }, refl, refl)
      after value false e = (record { kept = k.kept; known = k.known; fits = (tt, e); way = k.way }, refl, refl)

      go : (first : Bool) → AccessDoes P coupled-setting (OnScan lo hi (at (Lock entry first) w))
      go true = Reads _ _ refl (λ value good. after value (is_locked value) refl)
      go false = Reads _ _ refl (λ value good. after value (is_locked value) refl)

  apart-rows : (base : ℕ) (rows : List HeldRow) → ((x : HeldRow) → IsAmong x (locks_of rows) → x.base ≢ base) → Each (λ x. x.base ≢ base) rows
  apart-rows base rows h = among-all (λ x. x.base ≢ base) rows h (λ x y. y)

  exchanges-does : (w : Walk) (entry : Entry) (v : ℕ) → KnowsScanRows P true (at (Exchange entry v) w)
      → AccessDoes P coupled-setting (OnScan lo hi (at (Exchange entry v) w))
  exchanges-does w Root v k =
      let n = held (root_base s) Full 0 v in
      Takes n (locks_of (w.rows ++ n ∷ [])) _ refl
      (subst (IsWith n (locks_of w.rows)) (sym (locks-end w.rows n)) (with-last n (locks_of w.rows))) refl (k.fits.1, root)
      (λ apart. subst (λ b. Has P coupled-setting (OnScan lo hi (if b then entry_at coupled-setting lo hi Root w v else at
      (Lock Root false) w)) (locks_of (w.rows ++ n ∷ [])) [])
      (sym (eq-eqb v v refl)) (same-locks (locked-row (held (root_base s) Full 3 v) w (apart-rows (root_base s) w.rows apart) k.kept
      (k.fits.1, root) k.way)))
      (λ value other. subst (λ b. Has P coupled-setting (OnScan lo hi (if b then entry_at coupled-setting lo hi Root w v else at
      (Lock Root false) w)) (locks_of w.rows) [])
      (sym (ne_eqb value v other)) again)
    where
      again : Has P coupled-setting (OnScan lo hi (at (Lock Root false) w)) (locks_of w.rows) []
      again = (record { kept = k.kept; known = k.known; fits = tt; way = k.way }, refl, refl)

      same-locks : {x : ScanAt} → Has P coupled-setting (OnScan lo hi x) (locks_of (w.rows ++ held (root_base s) Full 3 v ∷ [])) []
          → Has P coupled-setting (OnScan lo hi x) (locks_of (w.rows ++ held (root_base s) Full 0 v ∷ [])) []
      same-locks h = (
        h.0,
        h.1 ∙ (locks-end w.rows (held (root_base s) Full 3 v) ∙ sym
            (locks-end w.rows (held (root_base s) Full 0 v))),
        h.2,
      )
  exchanges-does w (Below base kind) v k =
      let n = held base kind 0 v in
      Takes n (locks_of (w.rows ++ n ∷ [])) _ refl
      (subst (IsWith n (locks_of w.rows)) (sym (locks-end w.rows n)) (with-last n (locks_of w.rows))) refl
      (k.fits.1, k.known.0)
      (λ apart. subst (λ b. Has P coupled-setting (OnScan lo hi (if b then at (Info base kind v) w else at (Lock (Below base kind) false)
      w)) (locks_of (w.rows ++ n ∷ [])) [])
      (sym (eq-eqb v v refl)) (
        record {
          kept = each-append (IsKept true P) w.rows n k.kept (k.fits.1, k.known.0);
          known = k.known;
          fits = apart-rows base w.rows apart;
          way = k.way;
        },
        refl,
        refl,
      ))
      (λ value other. subst (λ b. Has P coupled-setting (OnScan lo hi (if b then at (Info base kind v) w else at
      (Lock (Below base kind) false) w)) (locks_of w.rows) [])
      (sym (ne_eqb value v other)) (record { kept = k.kept; known = k.known; fits = tt; way = k.way }, refl, refl))

  infos-does : (w : Walk) (base : ℕ) (kind : Kind) (kept : ℕ) → KnowsScanRows P true (at (Info base kind kept) w)
      → AccessDoes P coupled-setting (OnScan lo hi (at (Info base kind kept) w))
  infos-does w base kind kept k = Reads _ _ refl (λ value good.
      let parts = each-init (IsKept true P) w.rows (held base kind 0 kept) k.kept in
      same-locks value (locked-row (held base kind value kept) w k.fits parts.0 parts.1 k.way))
    where
      same-locks : (value : ℕ) {x : ScanAt} → Has P coupled-setting (OnScan lo hi x)
          (locks_of (w.rows ++ held base kind value kept ∷ [])) []
          → Has P coupled-setting (OnScan lo hi x) (locks_of (w.rows ++ held base kind 0 kept ∷ [])) []
      same-locks value h = (h.0, h.1 ∙ (locks-end w.rows (held base kind value kept) ∙ sym (locks-end w.rows (held base kind 0 kept))), h.2)

  releases-does : (w : Walk) (n : HeldRow) → KnowsScanRows P true (at (Release n) w)
      → AccessDoes P coupled-setting (OnScan lo hi (at (Release n) w))
  releases-does w n k = Releases (lock_of n) (locks_of w.rows) _ _ refl (inl (refl, refl)) refl (inl refl) k.kept.0 (go w.rows k.kept.1)
    where
      go : (rows : List HeldRow) → Each (IsKept true P) rows
          → Has P coupled-setting (OnScan lo hi (release_rows rows w.pairs)) (locks_of rows) []
      go [] kept = (record { kept = tt; known = tt; fits = tt; way = tt }, refl, refl)
      go (m ∷ rows) kept = (record { kept = kept; known = tt; fits = tt; way = tt }, refl, refl)

  pub coupled-scan-does : (x : ScanAt) → KnowsScanRows P true x → AccessDoes P coupled-setting (OnScan lo hi x)
  coupled-scan-does x k = step-does Coupled s call P is_row root lo hi x.walk (record {
    lock = locks-does x.walk;
    exchange = exchanges-does x.walk;
    wait = λ entry k. absurd k.fits;
    info = infos-does x.walk;
    release = releases-does x.walk;
  }) x.step k
