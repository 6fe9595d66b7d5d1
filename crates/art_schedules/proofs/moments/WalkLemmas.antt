-- The stages of an attempt of a scan, and what it has read there.
use Rattle.art_schedules.proofs.Common.{◌≡◌, ℕ, zero, suc, ◌+◌, ◌<◌, ◌≤◌, List, [], ◌∷◌, refl, sym, subst, Bool, true, false, arith}
use Rattle.art_schedules.proofs.Common.{if◌then◌else◌, filter, Option, Some, None, same_Some, Kind, Four, Sixteen, FortyEight, Full, Shape}
use Rattle.art_schedules.proofs.Common.{Frame, HeldRow, Index, KeyWords, LoadChild, Setting, Walk, bytes_of, child_at, held, keys_one, row_at}
use Rattle.art_control_states.specs.declared.stage.ScanStep.TheVariants.{Keys}
use Rattle.art_schedules.proofs.Common.{ScanAt, at, on_way, in_word, release_rows, slot_at, bytes_at, index_at_list, words_at, child_from}
use Rattle.art_schedules.proofs.Common.{frame_at, way_at, resume_at, visit_list, OfRows, Each, IsSlot, FitsFrame}
use Rattle.art_control_states.specs.Scans.{row_begins}
use Rattle.art_schedules.proofs.versions.ByteLemmas.{index-small}
use Rattle.art_schedules.proofs.versions.ScanLemmas.{place-good, entry-good}

-- Where a walk resumes: whatever is so of the stages that can come is so.
module _ (s : Shape) (lo hi : ℕ) (rows : List HeldRow) (P : OfRows) (G : ScanAt → Type 0)
    (child : (f : Frame) (slot : ℕ) (w : Walk) → w.rows ≡ rows → FitsFrame P f → IsSlot f.row.base f.row.kind slot
    → Each (FitsFrame P) w.way
    → G (at (LoadChild f slot) w))
    (index : (n : HeldRow) (j m : ℕ) (w : Walk) → j < 32 → w.rows ≡ rows → n.kind ≡ FortyEight → P n.base n.kind → Each (FitsFrame P) w.way
    → G (at (Index n j m) w))
    (keys : (n : HeldRow) (w : Walk) → w.rows ≡ rows → P n.base n.kind → Each (FitsFrame P) w.way → G (at (Keys n) w))
    (done : (pairs : List (ℕ × ℕ)) → G (release_rows rows pairs)) where
  abbrev c : Setting
  c = Rattle.art_schedules.proofs.moments.AttemptLemmas.c s lo hi

  slot-good : (w : Walk) (f : Frame) (x n : ℕ) (o : Option ℕ) (other : ScanAt) → w.rows ≡ rows
      → ((slot : ℕ) → o ≡ Some slot → IsSlot f.row.base f.row.kind slot)
      → P f.row.base f.row.kind → x + n ≤ 256 → Each (FitsFrame P) w.way → G other → G (slot_at o (child_from w f x n) other)
  slot-good w f x n None other r slots p few way rest = rest
  slot-good w f x n (Some slot) other r slots p few way rest = child _ slot w r (p, few) (slots slot refl) way

  bytes-good : (test : ℕ → Bool) (slot_of : ℕ → Option ℕ) (w : Walk) (f : Frame) (x n : ℕ) (other : ScanAt) → w.rows ≡ rows
      → ((y slot : ℕ) → y < 256 → slot_of y ≡ Some slot → IsSlot f.row.base f.row.kind slot)
      → P f.row.base f.row.kind → x + n ≤ 256 → Each (FitsFrame P) w.way → G other → G (bytes_at test slot_of (child_from w f) x n other)
  bytes-good test slot_of w f x zero other r slots p few way rest = rest
  bytes-good test slot_of w f x (suc n) other r slots p few way rest =
      go (test x) (bytes-good test slot_of w f (x + 1) n other r slots p (omega (arith, few)) way rest)
    where
      go : (b : Bool) → G (bytes_at test slot_of (child_from w f) (x + 1) n other)
          → G (if b then slot_at (slot_of x) (child_from w f (x + 1) n) (bytes_at test slot_of (child_from w f) (x + 1) n other)
          else bytes_at test slot_of (child_from w f) (x + 1) n other)
      go true later = slot-good w f (x + 1) n (slot_of x) _ r (λ slot e. slots x slot (omega (arith, few)) e) p
          (omega (arith, few)) way later
      go false later = later

  words-good : (n : HeldRow) (w : Walk) (j m : ℕ) (other : ScanAt) → w.rows ≡ rows → n.kind ≡ FortyEight → P n.base n.kind
      → Each (FitsFrame P) w.way → G other
      → G (words_at lo hi n w j m other)
  words-good n w j zero other r is p way rest = rest
  words-good n w j (suc m) other r is p way rest =
      go (filter (in_word j) (bytes_of lo hi (row_at n))) refl (words-good n w (j + 1) m other r is p way rest)
    where
      go : (xs : List ℕ) → filter (in_word j) (bytes_of lo hi (row_at n)) ≡ xs → G (words_at lo hi n w (j + 1) m other)
          → G (index_at_list n w j m xs (words_at lo hi n w (j + 1) m other))
      go [] e later = later
      go (x ∷ xs) e later = index n j m w (index-small lo hi (row_at n) j x xs e) r is p way

  abbrev frame : ℕ → Kind → ℕ → ℕ → KeyWords → ℕ → ℕ → ℕ → ℕ → Frame
  frame base kind info kept k byte left index words =
      record { row = held base kind info kept; keys = k; byte = byte; left = left; index = index; words = words }

  frame-good : (w : Walk) (base : ℕ) (kind : Kind) (info kept : ℕ) (k : KeyWords) (byte left index words : ℕ)
      (other : ScanAt) → w.rows ≡ rows
      → P base kind → byte + left ≤ 256 → Each (FitsFrame P) w.way → G other
      → G (frame_at kind lo hi w (frame base kind info kept k byte left index words) other)
  frame-good w base Four info kept k byte left index words other r p few way rest =
      bytes-good _ _ w (frame base Four info kept k byte left index words) byte left other r
      (λ y slot l e. place-good Four base k y slot e) p few way rest
  frame-good w base Sixteen info kept k byte left index words other r p few way rest =
      bytes-good _ _ w (frame base Sixteen info kept k byte left index words) byte left other r
      (λ y slot l e. place-good Sixteen base k y slot e) p few way rest
  frame-good w base FortyEight info kept k byte left index words other r p few way rest =
      bytes-good _ _ w (frame base FortyEight info kept k byte left index words) byte left _ r
      (λ y slot l e. entry-good base k.first y slot e) p few way
      (words-good (held base FortyEight info kept) w (index + 1) words other r refl p way rest)
  frame-good w base Full info kept k byte left index words other r p few way rest =
      bytes-good _ _ w (frame base Full info kept k byte left index words) byte left other r
      (λ y slot l e. (y, l, sym (same_Some (child_at Full base y) slot e))) p few way rest

  way-good : (w : Walk) (fs : List Frame) → w.rows ≡ rows → Each (FitsFrame P) fs → G (way_at c lo hi w fs)
  way-good w [] r h = subst (λ l. G (release_rows l w.pairs)) (sym r) (done w.pairs)
  way-good w (f ∷ fs) r h =
      frame-good (on_way w fs) f.row.base f.row.kind f.row.info f.row.kept f.keys f.byte f.left f.index f.words
      (way_at c lo hi w fs) r h.0.0 h.0.1 h.1
      (way-good w fs r h.1)

  pub resumed : (w : Walk) → w.rows ≡ rows → Each (FitsFrame P) w.way → G (resume_at c lo hi w)
  resumed w r h = way-good w w.way r h

  begins : (base : ℕ) (kind : Kind) (info kept : ℕ) (w : Walk) → w.rows ≡ rows → P base kind → Each (FitsFrame P) w.way
      → G (row_begins kind c lo hi (held base kind info kept) w)
  begins base Four info kept w r p way = keys (held base Four info kept) w r p way
  begins base Sixteen info kept w r p way = keys (held base Sixteen info kept) w r p way
  begins base FortyEight info kept w r p way = words-good (held base FortyEight info kept) w 0 32 _ r refl p way (resumed w r way)
  begins base Full info kept w r p way = frame-good w base Full info kept (keys_one 0) 0 256 0 0 _ r p (omega arith) way (resumed w r way)

  pub listed : (n : HeldRow) (w : Walk) (xs : List ℕ) → w.rows ≡ rows → P n.base n.kind → Each (FitsFrame P) w.way
      → G (visit_list c lo hi n w xs)
  listed n w [] r p way = resumed w r way
  listed n w (x ∷ xs) r p way = begins n.base n.kind n.info n.kept w r p way
