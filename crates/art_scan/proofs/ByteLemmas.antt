-- The bytes of one index word, and bytes that are passed over.
use Rattle.art_scan.proofs.Common.{◌≡◌, ℕ, zero, suc, ◌+◌, ◌-◌, ◌*◌, ◌/◌, ◌<◌, ◌≤◌, List, [], ◌∷◌, ◌++◌, refl, ap, ◌∙◌, Bool, true, false, arith, sym}
use Rattle.art_scan.proofs.Common.{⊎_elim, eq-eqb, ne_eqb, cases_lt, false≢true, if◌then◌else◌, filter, Option, numbers, ScanAt, in_word, slot_at}
use Rattle.art_scan.proofs.Common.{bytes_at, has_any}
use Rattle.std.proofs.lemmas.List.{append-nil}
use Rattle.std.proofs.lemmas.List.Elements.{filter-append}

pub zero_left : (m : ℕ) → 0 + m ≡ m
zero_left m = omega arith

pub zero_right : (x : ℕ) → x ≡ x + 0
zero_right x = omega arith

pub suc_left : (n m : ℕ) → suc n + m ≡ suc (n + m)
suc_left n m = omega arith

pub suc_right : (x n : ℕ) → x + 1 + n ≡ x + suc n
suc_right x n = omega arith

numbers_split : (x n m : ℕ) → numbers x (n + m) ≡ numbers x n ++ numbers (x + n) m
numbers_split x zero m = ap (numbers x) (zero_left m) ∙ ap (λ y. numbers y m) (zero_right x)
numbers_split x (suc n) m =
    ap (numbers x) (suc_left n m)
    ∙ ap (λ ys. x ∷ ys) (numbers_split (x + 1) n m ∙ ap (λ y. numbers (x + 1) n ++ numbers y m) (suc_right x n))

none_in : (j : ℕ) (p : ℕ → Bool) (x n : ℕ) → ((y : ℕ) → x ≤ y → y < x + n → in_word j y ≡ false)
    → filter (in_word j) (filter p (numbers x n)) ≡ []
none_in j p x zero h = refl
none_in j p x (suc n) h = go (p x) (none_in j p (x + 1) n (λ y a b. h y (omega (arith, a)) (omega (arith, b))))
  where
    go : (b : Bool) → filter (in_word j) (filter p (numbers (x + 1) n)) ≡ []
        → filter (in_word j) (if b then x ∷ filter p (numbers (x + 1) n) else filter p (numbers (x + 1) n)) ≡ []
    go true e =
        ap (λ b. if b then x ∷ filter (in_word j) (filter p (numbers (x + 1) n)) else filter (in_word j) (filter p (numbers (x + 1) n)))
        (h x (omega arith) (omega arith)) ∙ e
    go false e = e

all_in : (j : ℕ) (p : ℕ → Bool) (x n : ℕ) → ((y : ℕ) → x ≤ y → y < x + n → in_word j y ≡ true)
    → filter (in_word j) (filter p (numbers x n)) ≡ filter p (numbers x n)
all_in j p x zero h = refl
all_in j p x (suc n) h = go (p x) (all_in j p (x + 1) n (λ y a b. h y (omega (arith, a)) (omega (arith, b))))
  where
    go : (b : Bool) → filter (in_word j) (filter p (numbers (x + 1) n)) ≡ filter p (numbers (x + 1) n)
        → filter (in_word j) (if b then x ∷ filter p (numbers (x + 1) n) else filter p (numbers (x + 1) n))
        ≡ (if b then x ∷ filter p (numbers (x + 1) n) else filter p (numbers (x + 1) n))
    go true e =
        ap (λ b. if b then x ∷ filter (in_word j) (filter p (numbers (x + 1) n)) else filter (in_word j) (filter p (numbers (x + 1) n)))
        (h x (omega arith) (omega arith)) ∙ ap (λ ys. x ∷ ys) e
    go false e = e

pub before : (j y : ℕ) → y < 8 * j → in_word j y ≡ false
before j y h = ne_eqb (y / 8) j (λ e. omega (arith, h, e))

-- none is in the word where those from its first byte on are left out
pub none_from : (j : ℕ) (p : ℕ → Bool) (xs : List ℕ) → ((y : ℕ) → 8 * j ≤ y → p y ≡ false) → filter (in_word j) (filter p xs) ≡ []
none_from j p [] h = refl
none_from j p (x ∷ xs) h = go (p x) refl (none_from j p xs h)
  where
    below : p x ≡ true → x < 8 * j
    below e = ⊎_elim (λ less. less) (λ more. absurd (false≢true (sym (h x more) ∙ e))) (cases_lt x (8 * j))

    go : (b : Bool) → p x ≡ b → filter (in_word j) (filter p xs) ≡ []
        → filter (in_word j) (if b then x ∷ filter p xs else filter p xs) ≡ []
    go true e none =
        ap (λ b. if b then x ∷ filter (in_word j) (filter p xs) else filter (in_word j) (filter p xs)) (before j x (below e)) ∙ none
    go false e none = none

pub within : (j y : ℕ) → 8 * j ≤ y → y < 8 * j + 8 → in_word j y ≡ true
within j y a b = eq-eqb (y / 8) j (omega (arith, a, b))

pub behind : (j y : ℕ) → 8 * j + 8 ≤ y → in_word j y ≡ false
behind j y h = ne_eqb (y / 8) j (λ e. omega (arith, h, e))

abbrev chosen : ℕ → (ℕ → Bool) → List ℕ → List ℕ
chosen j p xs = filter (in_word j) (filter p xs)

chosen_append : (j : ℕ) (p : ℕ → Bool) (xs ys : List ℕ) → chosen j p (xs ++ ys) ≡ chosen j p xs ++ chosen j p ys
chosen_append j p xs ys = ap (filter (in_word j)) (filter-append p xs ys) ∙ filter-append (in_word j) (filter p xs) (filter p ys)

word_split : (j k r : ℕ) (p : ℕ → Bool) → k ≡ 8 → filter (in_word j) (filter p (numbers 0 (8 * j + (k + r)))) ≡ filter p (numbers (8 * j) k)
word_split j k r p e =
    ap (chosen j p) (numbers_split 0 (8 * j) (k + r))
    ∙ (ap (λ x. chosen j p (numbers 0 (8 * j) ++ numbers x (k + r))) (zero_left (8 * j))
    ∙ (ap (λ ys. chosen j p (numbers 0 (8 * j) ++ ys)) (numbers_split (8 * j) k r)
    ∙ (chosen_append j p (numbers 0 (8 * j)) (numbers (8 * j) k ++ numbers (8 * j + k) r)
    ∙ (ap (λ ys. ys ++ chosen j p (numbers (8 * j) k ++ numbers (8 * j + k) r))
    (none_in j p 0 (8 * j) (λ y a b. before j y (omega (arith, b))))
    ∙ (chosen_append j p (numbers (8 * j) k) (numbers (8 * j + k) r)
    ∙ (ap (λ ys. ys ++ chosen j p (numbers (8 * j + k) r)) (all_in j p (8 * j) k (λ y a b. within j y a (omega (arith, b, e))))
    ∙ (ap (λ ys. filter p (numbers (8 * j) k) ++ ys) (none_in j p (8 * j + k) r (λ y a b. behind j y (omega (arith, a, e))))
    ∙ append-nil (filter p (numbers (8 * j) k)))))))))

-- the bytes of an index word are eight
pub word_bytes : (j n k : ℕ) (p : ℕ → Bool) → j ≤ 31 → n ≡ 256 → k ≡ 8
    → filter (in_word j) (filter p (numbers 0 n)) ≡ filter p (numbers (8 * j) k)
word_bytes j n k p h e f = ap (λ m. filter (in_word j) (filter p (numbers 0 m))) (omega (arith, h, e, f)) ∙ word_split j k (248 - 8 * j) p f

-- bytes that are not walked are passed over
pub bytes_past : (test : ℕ → Bool) (slot_of : ℕ → Option ℕ) (child : ℕ → ℕ → ℕ → ScanAt) (x n : ℕ) (other : ScanAt)
    → ((y : ℕ) → x ≤ y → test y ≡ false) → bytes_at test slot_of child x n other ≡ other
bytes_past test slot_of child x zero other h = refl
bytes_past test slot_of child x (suc n) other h =
    ap (λ b. if b then slot_at (slot_of x) (child (x + 1) n) (bytes_at test slot_of child (x + 1) n other)
    else bytes_at test slot_of child (x + 1) n other) (h x (omega arith))
    ∙ bytes_past test slot_of child (x + 1) n other (λ y a. h y (omega (arith, a)))

-- bytes that are not met are passed over

none_met : (p : ℕ → Bool) (x n : ℕ) → ((y : ℕ) → x ≤ y → y < x + n → p y ≡ false) → filter p (numbers x n) ≡ []
none_met p x zero h = refl
none_met p x (suc n) h =
    ap (λ b. if b then x ∷ filter p (numbers (x + 1) n) else filter p (numbers (x + 1) n)) (h x (omega arith) (omega arith))
    ∙ none_met p (x + 1) n (λ y a b. h y (omega (arith, a)) (omega (arith, b)))

skip_met : (p : ℕ → Bool) (x d n : ℕ) → ((y : ℕ) → x ≤ y → y < x + d → p y ≡ false)
    → filter p (numbers x (d + n)) ≡ filter p (numbers (x + d) n)
skip_met p x d n h =
    ap (filter p) (numbers_split x d n)
    ∙ (filter-append p (numbers x d) (numbers (x + d) n) ∙ ap (λ ys. ys ++ filter p (numbers (x + d) n)) (none_met p x d h))

first_met : (p : ℕ → Bool) (x n : ℕ) → p x ≡ true → has_any (filter p (numbers x (suc n))) ≡ true
first_met p x n e = ap (λ b. has_any (if b then x ∷ filter p (numbers (x + 1) n) else filter p (numbers (x + 1) n))) e

-- no byte is met where all are passed over, and else one is where the next is
pub met_none : (p : ℕ → Bool) (x n d : ℕ) → n ≤ d → ((y : ℕ) → x ≤ y → y < x + d → p y ≡ false) → has_any (filter p (numbers x n)) ≡ false
met_none p x n d all h = ap has_any (none_met p x n (λ y a b. h y a (omega (arith, b, all))))

pub met_next : (p : ℕ → Bool) (x n d : ℕ) → d < n → ((y : ℕ) → x ≤ y → y < x + d → p y ≡ false)
    → (p (x + d) ≡ false → (y : ℕ) → x + d ≤ y → p y ≡ false) → p (x + d) ≡ has_any (filter p (numbers x n))
met_next p x n d less before behind = go (p (x + d)) refl
  where
    go : (b : Bool) → p (x + d) ≡ b → p (x + d) ≡ has_any (filter p (numbers x n))
    go true e =
        e ∙ sym (ap (λ m. has_any (filter p (numbers x m))) (omega (arith, less))
        ∙ (ap has_any (skip_met p x d (suc (n - d - 1)) before) ∙ first_met p (x + d) (n - d - 1) e))
    go false e =
        e ∙ sym (ap has_any (none_met p x n (λ y a b. ⊎_elim (before y a) (behind e y) (cases_lt y (x + d)))))
