-- The next byte, index word or child of a scan, by what is met.
use Rattle.art_scan.proofs.Common.{◌≡◌, ℕ, zero, suc, ◌+◌, ◌-◌, ◌*◌, ◌≤◌, List, [], ◌∷◌, refl, ap, sym, ◌∙◌, Bool, true, false, arith, false≢true}
use Rattle.art_scan.proofs.Common.{and_left, if◌then◌else◌, Option, None, filter, Kind, Four, Sixteen, FortyEight, Full, less_one, bytes_of, can_lie}
use Rattle.art_scan.proofs.Common.{numbers, HeldRow, Frame, Index, row_at, Walk, ScanAt, at, in_word, slot_at, bytes_at, child_from, lies, index_at_list}
use Rattle.art_scan.proofs.Common.{words_at, frame_at, has_any, frame_test, frame_slot, words_that_follow}
use Rattle.std.specs.Prelude.{Some}
use Rattle.art_scan.proofs.ByteLemmas.{none_from}

-- index words

list_some : (n : HeldRow) (w : Walk) (j m : ℕ) (xs : List ℕ) (other : ScanAt) → has_any xs ≡ true
    → index_at_list n w j m xs other ≡ at (Index n j m) w
list_some n w j m [] other h = absurd (false≢true h)
list_some n w j m (x ∷ xs) other h = refl

list_none : (n : HeldRow) (w : Walk) (j m : ℕ) (xs : List ℕ) (other : ScanAt) → has_any xs ≡ false → index_at_list n w j m xs other ≡ other
list_none n w j m [] other h = refl
list_none n w j m (x ∷ xs) other h = absurd (false≢true (sym h))

pub words_some : (low high : ℕ) (n : HeldRow) (w : Walk) (j m : ℕ) (other : ScanAt) → (m ≡ 0 → ⊥)
    → has_any (filter (in_word j) (bytes_of low high (row_at n))) ≡ true → words_at low high n w j m other ≡ at (Index n j (m - 1)) w
words_some low high n w j zero other some h = absurd (some refl)
words_some low high n w j (suc m) other some h =
    list_some n w j m (filter (in_word j) (bytes_of low high (row_at n))) (words_at low high n w (j + 1) m other) h
    ∙ ap (λ k. at (Index n j k) w) (sym (less_one m))

pub words_skip : (low high : ℕ) (n : HeldRow) (w : Walk) (j m : ℕ) (other : ScanAt) → (m ≡ 0 → ⊥)
    → has_any (filter (in_word j) (bytes_of low high (row_at n))) ≡ false
    → words_at low high n w j m other ≡ words_at low high n w (j + 1) (m - 1) other
words_skip low high n w j zero other some h = absurd (some refl)
words_skip low high n w j (suc m) other some h =
    list_none n w j m (filter (in_word j) (bytes_of low high (row_at n))) (words_at low high n w (j + 1) m other) h
    ∙ ap (λ k. words_at low high n w (j + 1) k other) (sym (less_one m))

pub words_past : (low high : ℕ) (n : HeldRow) (w : Walk) (j m : ℕ) (other : ScanAt)
    → ((y : ℕ) → 8 * j ≤ y → can_lie low high (row_at n) y ≡ false) → words_at low high n w j m other ≡ other
words_past low high n w j zero other h = refl
words_past low high n w j (suc m) other h =
    list_none n w j m (filter (in_word j) (bytes_of low high (row_at n))) (words_at low high n w (j + 1) m other)
    (ap has_any (none_from j (can_lie low high (row_at n)) (numbers 0 256) h))
    ∙ words_past low high n w (j + 1) m other (λ y from. h y (omega (arith, from)))

-- bytes

module _ (test : ℕ → Bool) (slot_of : ℕ → Option ℕ) (child : ℕ → ℕ → ℕ → ScanAt) where
  pub bytes_found : (x n slot : ℕ) (other : ScanAt) → (n ≡ 0 → ⊥) → test x ≡ true → slot_of x ≡ Some slot
      → bytes_at test slot_of child x n other ≡ child (x + 1) (n - 1) slot
  bytes_found x zero slot other some t e = absurd (some refl)
  bytes_found x (suc n) slot other some t e =
      ap (λ b. if b then slot_at (slot_of x) (child (x + 1) n) (bytes_at test slot_of child (x + 1) n other)
      else bytes_at test slot_of child (x + 1) n other) t
      ∙ (ap (λ o. slot_at o (child (x + 1) n) (bytes_at test slot_of child (x + 1) n other)) e
      ∙ ap (λ k. child (x + 1) k slot) (sym (less_one n)))

  pub bytes_empty : (x n : ℕ) (other : ScanAt) → (n ≡ 0 → ⊥) → test x ≡ true → slot_of x ≡ None
      → bytes_at test slot_of child x n other ≡ bytes_at test slot_of child (x + 1) (n - 1) other
  bytes_empty x zero other some t e = absurd (some refl)
  bytes_empty x (suc n) other some t e =
      ap (λ b. if b then slot_at (slot_of x) (child (x + 1) n) (bytes_at test slot_of child (x + 1) n other)
      else bytes_at test slot_of child (x + 1) n other) t
      ∙ (ap (λ o. slot_at o (child (x + 1) n) (bytes_at test slot_of child (x + 1) n other)) e
      ∙ ap (λ k. bytes_at test slot_of child (x + 1) k other) (sym (less_one n)))

  pub bytes_not : (x n : ℕ) (other : ScanAt) → (n ≡ 0 → ⊥) → test x ≡ false
      → bytes_at test slot_of child x n other ≡ bytes_at test slot_of child (x + 1) (n - 1) other
  bytes_not x zero other some t = absurd (some refl)
  bytes_not x (suc n) other some t =
      ap (λ b. if b then slot_at (slot_of x) (child (x + 1) n) (bytes_at test slot_of child (x + 1) n other)
      else bytes_at test slot_of child (x + 1) n other) t
      ∙ ap (λ k. bytes_at test slot_of child (x + 1) k other) (sym (less_one n))

-- a row's children: its bytes, and in kind 48 the index words after this one

pub frame_bytes : (kind : Kind) (low high : ℕ) (w : Walk) (f : Frame) (other : ScanAt)
    → frame_at kind low high w f other
    ≡ bytes_at (frame_test kind low high f) (frame_slot kind f) (child_from w f) f.byte f.left
    (words_that_follow kind low high f.row w f.index f.words other)
frame_bytes Four low high w f other = refl
frame_bytes Sixteen low high w f other = refl
frame_bytes FortyEight low high w f other = refl
frame_bytes Full low high w f other = refl

pub behind_none : (kind : Kind) (low high : ℕ) (n : HeldRow) (w : Walk) (j m : ℕ) (other : ScanAt) → (kind ≡ FortyEight → ⊥)
    → words_that_follow kind low high n w j m other ≡ other
behind_none Four low high n w j m other h = refl
behind_none Sixteen low high n w j m other h = refl
behind_none FortyEight low high n w j m other h = absurd (h refl)
behind_none Full low high n w j m other h = refl

-- bytes without a slot are passed over, whether they are walked or not
pub bytes_bare : (test : ℕ → Bool) (slot_of : ℕ → Option ℕ) (child : ℕ → ℕ → ℕ → ScanAt) (x n : ℕ) (other : ScanAt) → (n ≡ 0 → ⊥)
    → slot_of x ≡ None
    → bytes_at test slot_of child x n other ≡ bytes_at test slot_of child (x + 1) (n - 1) other
bytes_bare test slot_of child x n other some e = go (test x) refl
  where
    go : (b : Bool) → test x ≡ b → bytes_at test slot_of child x n other ≡ bytes_at test slot_of child (x + 1) (n - 1) other
    go true t = bytes_empty test slot_of child x n other some t e
    go false t = bytes_not test slot_of child x n other some t

-- if no key can lie, a byte is not walked
pub not_tested : (kind : Kind) (low high : ℕ) (f : Frame) (y : ℕ) → lies low high f y ≡ false → frame_test kind low high f y ≡ false
not_tested Four low high f y e = e
not_tested Sixteen low high f y e = e
not_tested FortyEight low high f y e = and_left _ _ e
not_tested Full low high f y e = e
