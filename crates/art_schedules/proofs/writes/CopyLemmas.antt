-- Children that are copied from one row to another.
use Rattle.art_schedules.proofs.Common.{◌≡◌, ℕ, zero, suc, ◌+◌, ◌<◌, ◌≤◌, List, length, refl, ap, sym, subst, ◌∙◌, ⊎_elim, arith, cases_lt}
use Rattle.art_schedules.proofs.Common.{Shape, child_of, child_word, each, numbers, Setting, copy_child, Comes, AreSmall}
use Rattle.std.specs.Prelude.{slice_index, ◌≢◌}
use Rattle.art_schedules.proofs.alone.AloneLemmas.{each_none-comes, each-comes}
use Rattle.art_schedules.proofs.writes.StoreLemmas.{small-copy, with_copy, child-copied, copy_child-comes, stored-other, stored-long}

-- the words with the children of the places i, i + 1, .., n of them, each copied to the slot that `to` says
abbrev pub with_copies : Shape → ℕ → (ℕ → ℕ) → ℕ → ℕ → List ℕ → List ℕ
with_copies s from to i zero words = words
with_copies s from to i (suc n) words = with_copies s from to (i + 1) n (with_copy s words (from + i) (to i))

pub copies-come : (c : Setting) (from : ℕ) (to : ℕ → ℕ) (i n : ℕ) (words : List ℕ)
    → Comes (each (numbers i n) (λ j. copy_child c (from + j) (to j))) words tt (with_copies c.shape from to i n words)
copies-come c from to i zero words = each_none-comes (λ j. copy_child c (from + j) (to j)) words
copies-come c from to i (suc n) words =
    each-comes i (numbers (i + 1) n) (λ j. copy_child c (from + j) (to j)) (copy_child-comes c (from + i) (to i) words)
    (copies-come c from to (i + 1) n (with_copy c.shape words (from + i) (to i)))

pub copies-long : (s : Shape) (from : ℕ) (to : ℕ → ℕ) (i n : ℕ) (words : List ℕ) → length (with_copies s from to i n words) ≡ length words
copies-long s from to i zero words = refl
copies-long s from to i (suc n) words = copies-long s from to (i + 1) n (with_copy s words (from + i) (to i)) ∙ stored-long words (to i) _

pub copies-other : (s : Shape) (from : ℕ) (to : ℕ → ℕ) (i n : ℕ) (words : List ℕ) (word : ℕ) → ((j : ℕ) → i ≤ j → j < i + n → word ≢ to j)
    → slice_index (with_copies s from to i n words) word ≡ slice_index words word
copies-other s from to i zero words word h = refl
copies-other s from to i (suc n) words word h =
    copies-other s from to (i + 1) n (with_copy s words (from + i) (to i)) word (λ j l m. h j (omega (arith, l)) (omega (arith, m)))
    ∙ stored-other words (to i) word _ (h i (omega arith) (omega arith))

-- no child is copied over another one that is still to be read, or that was copied
pub record IsClear (from : ℕ) (to : ℕ → ℕ) (n long : ℕ) : Type 0 where
  pub reads : (k j : ℕ) → k < n → j < n → from + k ≢ to j
  pub once : (k j : ℕ) → k < j → j < n → to k ≢ to j
  pub inside : (k : ℕ) → k < n → to k < long

pub copies-copied : (s : Shape) (from : ℕ) (to : ℕ → ℕ) (i n whole : ℕ) (words : List ℕ)
    → IsClear from to whole (length words) → i + n ≤ whole
    → (k : ℕ) → i ≤ k → k < i + n
    → child_of s (slice_index (with_copies s from to i n words) (to k)) ≡ child_of s (slice_index words (from + k))
copies-copied s from to i zero whole words clear fits k low high = absurd (omega (arith, low, high))
copies-copied s from to i (suc n) whole words clear fits k low high =
    let next : List ℕ = with_copy s words (from + i) (to i) in
    let same : length words ≡ length next = sym (stored-long words (to i) (child_word (child_of s (slice_index words (from + i))))) in
    let more = copies-copied s from to (i + 1) n whole next (subst (IsClear from to whole) same clear) (omega (arith, fits)) k in
    ⊎_elim (λ l. more (omega (arith, l)) (omega (arith, high))
    ∙ ap (child_of s) (stored-other words (to i) (from + k) _ (clear.reads k i (omega (arith, high, fits)) (omega (arith, fits)))))
    (λ l. first (omega (arith, l, low))) (cases_lt i k)
  where
    first : i ≡ k → child_of s (slice_index (with_copies s from to i (suc n) words) (to k)) ≡ child_of s (slice_index words (from + k))
    first e =
        subst (λ k. child_of s (slice_index (with_copies s from to i (suc n) words) (to k)) ≡ child_of s (slice_index words (from + k))) e
        (ap (child_of s) (copies-other s from to (i + 1) n (with_copy s words (from + i) (to i)) (to i)
        (λ j l m. clear.once i j (omega (arith, l)) (omega (arith, m, fits))))
        ∙ child-copied s words (from + i) (to i) (clear.inside i (omega (arith, fits))))

pub copies-small : (s : Shape) (from : ℕ) (to : ℕ → ℕ) (i n : ℕ) (words : List ℕ) → AreSmall words
    → AreSmall (with_copies s from to i n words)
copies-small s from to i zero words h = h
copies-small s from to i (suc n) words h =
    copies-small s from to (i + 1) n (with_copy s words (from + i) (to i)) (small-copy s words (from + i) (to i) h)
