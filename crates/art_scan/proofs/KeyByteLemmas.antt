-- Bytes between the key bytes of a row.
use Rattle.art_scan.proofs.Common.{◌≡◌, ℕ, zero, suc, ◌+◌, ◌-◌, ◌/◌, ◌%◌, ◌<◌, ◌≤◌, [], length, refl, ap, sym, ◌∙◌, Bool, true, false, arith, inl}
use Rattle.art_scan.proofs.Common.{inr, ⊎_elim, false≢true, cases_lt, leb-true, ◌⊎◌, ◌&&◌, if◌then◌else◌, nat_le, Option, None, Kind, Four, Sixteen}
use Rattle.art_scan.proofs.Common.{FortyEight, Full, low_bytes, place_of, keys4_of, length-keys4, Frame, can_lie, keys_among, row_at, ScanAt}
use Rattle.art_scan.proofs.Common.{place_slot, bytes_at, is_sound_frame, frame_slot, frame_test, IsPassed}
use Rattle.art_control_states.specs.Sound.{has_keys}
use Rattle.art_scan.proofs.ByteLemmas.{zero_left, zero_right, suc_right}
use Rattle.art_scan.proofs.NextLemmas.{bytes_bare, bytes_not, not_tested}

pub keys4_bytes : (w : ℕ) → keys4_of w ≡ low_bytes (length (keys4_of w)) (w / 256)
keys4_bytes w = go (nat_le (w % 256) 4) ∙ ap (λ n. low_bytes n (w / 256)) (sym (length-keys4 w))
  where
    go : (b : Bool) → (if b then low_bytes (w % 256) (w / 256) else []) ≡ low_bytes (if b then w % 256 else 0) (w / 256)
    go true = refl
    go false = refl

pub bare_slot : (kind : Kind) (f : Frame) (y : ℕ) → has_keys kind ≡ true → place_of y (keys_among kind f.keys) ≡ None
    → frame_slot kind f y ≡ None
bare_slot Four f y h e = ap (place_slot f.row.kind f.row.base) e
bare_slot Sixteen f y h e = ap (place_slot f.row.kind f.row.base) e
bare_slot FortyEight f y h e = absurd (false≢true h)
bare_slot Full f y h e = absurd (false≢true h)

-- bytes that are passed over
pass_bytes : (test : ℕ → Bool) (slot_of : ℕ → Option ℕ) (child : ℕ → ℕ → ℕ → ScanAt) (x d n : ℕ) (other : ScanAt)
    → ((y : ℕ) → x ≤ y → y < x + d → (slot_of y ≡ None) ⊎ (test y ≡ false))
    → bytes_at test slot_of child x (d + n) other ≡ bytes_at test slot_of child (x + d) n other
pass_bytes test slot_of child x zero n other h =
    ap (λ k. bytes_at test slot_of child x k other) (zero_left n) ∙ ap (λ y. bytes_at test slot_of child y n other) (zero_right x)
pass_bytes test slot_of child x (suc d) n other h =
    ⊎_elim (λ e. bytes_bare test slot_of child x (suc d + n) other some e) (λ e. bytes_not test slot_of child x (suc d + n) other some e)
    (h x (omega arith) (omega arith))
    ∙ (ap (λ k. bytes_at test slot_of child (x + 1) k other) (one_less d n)
    ∙ (pass_bytes test slot_of child (x + 1) d n other (λ y a b. h y (omega (arith, a)) (omega (arith, b)))
    ∙ ap (λ y. bytes_at test slot_of child y n other) (suc_right x d)))
  where
    some : suc d + n ≡ 0 → ⊥
    some e = omega (arith, e)

    one_less : (d n : ℕ) → suc d + n - 1 ≡ d + n
    one_less d n = omega arith

pub pass_to : (test : ℕ → Bool) (slot_of : ℕ → Option ℕ) (child : ℕ → ℕ → ℕ → ScanAt) (x n e : ℕ) (other : ScanAt) → x ≤ e → e ≤ x + n
    → ((y : ℕ) → x ≤ y → y < e → (slot_of y ≡ None) ⊎ (test y ≡ false))
    → bytes_at test slot_of child x n other ≡ bytes_at test slot_of child e (x + n - e) other
pass_to test slot_of child x n e other from to h =
    ap (λ k. bytes_at test slot_of child x k other) (whole x n e from to)
    ∙ (pass_bytes test slot_of child x (e - x) (x + n - e) other (λ y a b. h y a (omega (arith, b, from)))
    ∙ ap (λ y. bytes_at test slot_of child y (x + n - e) other) (there x e from))
  where
    whole : (x n e : ℕ) → x ≤ e → e ≤ x + n → n ≡ e - x + (x + n - e)
    whole x n e a b = omega (arith, a, b)

    there : (x e : ℕ) → x ≤ e → x + (e - x) ≡ e
    there x e a = omega (arith, a)

pub pass_all : (test : ℕ → Bool) (slot_of : ℕ → Option ℕ) (child : ℕ → ℕ → ℕ → ScanAt) (x n : ℕ) (other : ScanAt)
    → ((y : ℕ) → x ≤ y → y < x + n → (slot_of y ≡ None) ⊎ (test y ≡ false)) → bytes_at test slot_of child x n other ≡ other
pass_all test slot_of child x n other h =
    pass_to test slot_of child x n (x + n) other (omega arith) (omega arith) h
    ∙ ap (λ k. bytes_at test slot_of child (x + n) k other) (none x n)
  where
    none : (x n : ℕ) → x + n - (x + n) ≡ 0
    none x n = omega arith

-- bytes before the first one under which keys can lie, and bytes up to the next slot
pub passed : (low high : ℕ) (f : Frame) (d e : ℕ)
    → ((h y : ℕ) → f.byte ≤ y → y < f.byte + d → can_lie low h (row_at f.row) y ≡ false)
    → ((y : ℕ) → f.byte + d ≤ y → y < e → IsPassed f.row.kind f y)
    → (y : ℕ) → f.byte ≤ y → y < e → (frame_slot f.row.kind f y ≡ None) ⊎ (frame_test f.row.kind low high f y ≡ false)
passed low high f d e ahead bare y a b =
    ⊎_elim (λ l. inr (not_tested f.row.kind low high f y (ahead high y a l)))
    (λ m. ⊎_elim (λ s. inl s) (λ t. inr (t low high)) (bare y m b)) (cases_lt y (f.byte + d))

pub bytes_within : (f : Frame) → is_sound_frame f ≡ true → f.byte + f.left ≤ 256
bytes_within f e = go (nat_le (f.byte + f.left) 256) refl e
  where
    go : (b : Bool) → nat_le (f.byte + f.left) 256 ≡ b → (b && nat_le (f.index + f.words) 31) ≡ true → f.byte + f.left ≤ 256
    go true is h = leb-true (f.byte + f.left) 256 is
    go false is h = absurd (false≢true h)
