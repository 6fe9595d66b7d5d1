-- Which numbers are in a set that is kept as its least missing number and bits, and that such a set has one form.
use Rattle.memo.proofs.Common.{◌≡◌, ℕ, ◌+◌, ◌-◌, ◌*◌, ◌/◌, ◌%◌, ◌^◌, ◌<◌, ◌≤◌, List, [], length, get_or, sym, ap, ◌∙◌, subst, inl, inr, ⊎_elim, arith}
use Rattle.memo.proofs.Common.{◌⊎◌, ◌↔◌, ◌==◌, ◌&&◌, nat_lt, All, Contains, Decides, bit_at, range_with_len, IsStrictlyIncreasing, cases_order}
use Rattle.memo.proofs.Common.{cases_lt, cases_eq, Decides-and, Decides-or, Decides-ltb, Decides-eqb, get_or_past, ext_get_or, All-contains}
use Rattle.memo.proofs.Common.{IsStrictlyIncreasing-filter, bit_at-zero, bit_at-lt, same_from_bits_below, Contains-filter, Contains-from_filter}
use Rattle.memo.proofs.Common.{Contains-range, Contains-nil, bit_of, is_among, places_of, IsTrimmed, AreWords, ArePlaces}
use Rattle.events.proofs.RisingLemmas.{rising_unique, IsStrictlyIncreasing-range}

-- a number is below the least one that is not in the set, or its bit is set above that one
abbrev pub IsAmong : ℕ → List ℕ → ℕ → Type 0
IsAmong least words n = (n < least) ⊎ ((least < n) × (bit_of words (n - (least + 1)) ≡ 1))

-- the test decides this
Decides-among : (least : ℕ) (words : List ℕ) (n : ℕ) → Decides (is_among least words n) (IsAmong least words n)
Decides-among least words n =
    Decides-or (nat_lt n least) (nat_lt least n && (bit_of words (n - (least + 1)) == 1)) (Decides-ltb n least)
    (Decides-and (nat_lt least n) (bit_of words (n - (least + 1)) == 1) (Decides-ltb least n)
    (Decides-eqb (bit_of words (n - (least + 1))) 1))

-- past the last word each bit is 0
pub bit_of-past : (words : List ℕ) (n : ℕ) → 64 * length words ≤ n → bit_of words n ≡ 0
bit_of-past words n past = ap (λ (w : ℕ). bit_at w (n % 64)) (get_or_past words (n / 64) 0 (omega arith)) ∙ bit_at-zero (n % 64)

-- a bit that is set is one of a word
pub bit_of-within : (words : List ℕ) (n : ℕ) → bit_of words n ≡ 1 → n < 64 * length words
bit_of-within words n set =
    ⊎_elim (λ within. within) (λ past. absurd (omega (arith, set, bit_of-past words n past))) (cases_lt n (64 * length words))

-- a bit by its word and its place in it
pub bit_of-at : (words : List ℕ) (k i : ℕ) → i < 64 → bit_of words (64 * k + i) ≡ bit_at (get_or words k 0) i
bit_of-at words k i small =
    let word : (64 * k + i) / 64 ≡ k = omega arith in
    let place : (64 * k + i) % 64 ≡ i = omega arith in
    ap (λ (m : ℕ). bit_at (get_or words m 0) ((64 * k + i) % 64)) word ∙ ap (bit_at (get_or words k 0)) place

-- a bit is 0 or 1
pub bit_of-lt : (words : List ℕ) (n : ℕ) → bit_of words n < 2
bit_of-lt words n = bit_at-lt (get_or words (n / 64) 0) (n % 64)

-- exactly these numbers are in the set
pub Contains-places_of : (least : ℕ) (words : List ℕ) (n : ℕ) → Contains (places_of least words) n ↔ IsAmong least words n
unfolding places_of
Contains-places_of least words n = (
  λ h. (Decides-among least words n).0 (Contains-from_filter (is_among least words) numbers n h).1,
  λ among. Contains-filter (is_among least words) numbers n (Contains-range size n (within among)) ((Decides-among least words n).1 among),
)
  where
    size : ℕ
    size = least + 1 + 64 * length words

    numbers : List ℕ
    numbers = range_with_len 0 size

    within : IsAmong least words n → n < size
    within (inl low) = omega (arith, low)
    within (inr high) = omega (arith, high.0, bit_of-within words (n - (least + 1)) high.1)

-- the numbers of a set rise
pub places_of-rises : (least : ℕ) (words : List ℕ) → IsStrictlyIncreasing (places_of least words)
unfolding places_of
places_of-rises least words =
    let size = least + 1 + 64 * length words in
    IsStrictlyIncreasing-filter (is_among least words) (range_with_len 0 size) (IsStrictlyIncreasing-range size)

-- a rising list of exactly these numbers is the set's
pub places_of-is : (least : ℕ) (words numbers : List ℕ) → IsStrictlyIncreasing numbers
    → ((n : ℕ) → Contains numbers n ↔ IsAmong least words n)
    → numbers ≡ places_of least words
places_of-is least words numbers rising same =
    rising_unique numbers (places_of least words) rising (places_of-rises least words)
    (λ n. (λ h. (Contains-places_of least words n).1 ((same n).0 h), λ h. (same n).1 ((Contains-places_of least words n).0 h)))

-- the least number that is not in the set is not
pub least-not_among : (least : ℕ) (words : List ℕ) → IsAmong least words least → ⊥
least-not_among least words (inl low) = omega (arith, low)
least-not_among least words (inr high) = omega (arith, high.0)

-- bits determine the words, if the last is not 0: here one is no longer than the other
no_longer : (a b : List ℕ) → AreWords b → IsTrimmed b → ((n : ℕ) → bit_of a n ≡ bit_of b n) → length a < length b → ⊥
no_longer a b words trimmed same longer =
    let k = length b - 1 in
    let nonzero : 0 < get_or b k 0 = trimmed k (omega (arith, longer)) in
    let zero : get_or b k 0 ≡ 0 = same_from_bits_below 64 (get_or b k 0) 0 (words k) (omega arith)
    (λ i small. sym (bit_of-at b k i small) ∙ sym (same (64 * k + i)) ∙ bit_of-past a (64 * k + i) (omega (arith, longer))
    ∙ sym (bit_at-zero i)) in
    omega (arith, nonzero, zero)

-- words with the same bits are the same, where the last is not 0
pub same_words : (a b : List ℕ) → AreWords a → AreWords b → IsTrimmed a → IsTrimmed b → ((n : ℕ) → bit_of a n ≡ bit_of b n) → a ≡ b
same_words a b words_a words_b trimmed_a trimmed_b same =
    ext_get_or 0 a b len
    (λ k within. same_from_bits_below 64 (get_or a k 0) (get_or b k 0) (words_a k) (words_b k)
    (λ i small. sym (bit_of-at a k i small) ∙ same (64 * k + i) ∙ bit_of-at b k i small))
  where
    len : length a ≡ length b
    len = ⊎_elim (λ is. is)
        (⊎_elim (λ lt. absurd (no_longer a b words_b trimmed_b same lt))
        (λ gt. absurd (no_longer b a words_a trimmed_a (λ n. sym (same n)) gt)))
        (cases_order (length a) (length b))

-- the least number that is not in a set is the same for each form of it
no_lower : (l m : ℕ) (a b : List ℕ) → places_of l a ≡ places_of m b → l < m → ⊥
no_lower l m a b same lower =
    least-not_among l a ((Contains-places_of l a l).0 (subst (λ (v : List ℕ). Contains v l) (sym same)
    ((Contains-places_of m b l).1 (inl lower))))

-- a set has one form: the least number that is not in it
pub same_least : (l m : ℕ) (a b : List ℕ) → places_of l a ≡ places_of m b → l ≡ m
same_least l m a b same =
    ⊎_elim (λ is. is) (⊎_elim (λ lt. absurd (no_lower l m a b same lt)) (λ gt. absurd (no_lower m l b a (sym same) gt))) (cases_order l m)

-- a bit that is set in one form of a set is set in the other
set_too : (l : ℕ) (a b : List ℕ) (n : ℕ) → places_of l a ≡ places_of l b → bit_of a n ≡ 1 → bit_of b n ≡ 1
set_too l a b n same set =
    let at : l + 1 + n - (l + 1) ≡ n = omega arith in
    let there : IsAmong l b (l + 1 + n) = (Contains-places_of l b (l + 1 + n)).0 (subst (λ (v : List ℕ). Contains v (l + 1 + n)) same
    ((Contains-places_of l a (l + 1 + n)).1 (inr (omega arith, ap (bit_of a) at ∙ set)))) in
    ⊎_elim (λ low. absurd (omega (arith, low))) (λ high. sym (ap (bit_of b) at) ∙ high.1) there

-- a set has one form: the words
pub same_places : (l m : ℕ) (a b : List ℕ) → ArePlaces l a → ArePlaces m b → places_of l a ≡ places_of m b → (l ≡ m) × (a ≡ b)
same_places l m a b is_a is_b same =
    let least = same_least l m a b same in
    let at_l : places_of l a ≡ places_of l b = same ∙ ap (λ (k : ℕ). places_of k b) (sym least) in
    (least, same_words a b is_a.each is_b.each is_a.trimmed is_b.trimmed (bits at_l))
  where
    bits : places_of l a ≡ places_of l b → (n : ℕ) → bit_of a n ≡ bit_of b n
    bits at_l n = ⊎_elim (λ one. one ∙ sym (set_too l a b n at_l one))
        (λ not_a. ⊎_elim (λ one. absurd (not_a (set_too l b a n (sym at_l) one)))
        (λ not_b. omega (arith, bit_of-lt a n, bit_of-lt b n, not_a, not_b)) (cases_eq (bit_of b n) 1))
        (cases_eq (bit_of a n) 1)

-- the end of a run of ones above a place that may be put in is one too
pub run_small : (least : ℕ) (words : List ℕ) (run : ℕ) → least < 2 ^ 64 - 1 → All (λ n. n < 2 ^ 64 - 1) (places_of least words)
    → ((n : ℕ) → n < run → bit_of words n ≡ 1)
    → least + run < 2 ^ 64 - 1
run_small least words run here small ones =
    ⊎_elim (λ none. omega (arith, none, here))
    (λ some.
    let at : least + run - (least + 1) ≡ run - 1 = omega arith in
    let last : Contains (places_of least words) (least + run) = (Contains-places_of least words (least + run)).1
    (inr (omega (arith, some), ap (bit_of words) at ∙ ones (run - 1) (omega (arith, some)))) in
    All-contains (λ n. n < 2 ^ 64 - 1) (places_of least words) (least + run) small last)
    (cases_lt run 1)

-- with no words and nothing below, no number is in the set
none_among : (n : ℕ) → IsAmong 0 [] n → ⊥
none_among n (inl low) = omega (arith, low)
none_among n (inr high) = omega (arith, high.1, bit_of-past [] (n - 1) (omega arith))

-- the empty set
pub places_of-none : places_of 0 [] ≡ []
places_of-none =
    sym (places_of-is 0 [] [] (λ k within. absurd (omega (arith, within)))
    (λ n. (λ h. absurd (Contains-nil n h), λ h. absurd (none_among n h))))

-- has the form of sets
pub ArePlaces-none : ArePlaces 0 []
ArePlaces-none = record {
  each = λ k. omega (arith, get_or_past {X = ℕ} [] k 0 (omega arith));
  trimmed = λ k some. absurd (omega (arith, some));
  small = subst (All (λ n. n < 2 ^ 64 - 1)) (sym places_of-none) (λ k d within. absurd (omega (arith, within)));
}
