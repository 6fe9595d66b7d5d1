-- Children that are moved up by one, from the last one down.
use Rattle.art_schedules.proofs.Common.{◌≡◌, ℕ, zero, suc, ◌+◌, ◌<◌, ◌≤◌, List, length, refl, ap, sym, subst, ◌∙◌, ⊎_elim, inl, inr, arith}
use Rattle.art_schedules.proofs.Common.{cases_lt, Shape, child_of, child_word, each, numbers_down, Setting, copy_child, Comes, AreSmall}
use Rattle.std.specs.Prelude.{◌⊎◌, slice_index}
use Rattle.art_schedules.proofs.alone.AloneLemmas.{each_none-comes, each-comes}
use Rattle.art_schedules.proofs.writes.StoreLemmas.{small-copy, with_copy, child-copied, copy_child-comes, stored-other, stored-long}

-- the words with the children of the places i, i + 1, .., n of them, each one place later
abbrev pub with_room : Shape → ℕ → ℕ → ℕ → List ℕ → List ℕ
with_room s first i zero words = words
with_room s first i (suc n) words = with_room s first i n (with_copy s words (first + (i + n)) (first + (i + n + 1)))

pub room-comes : (c : Setting) (first i n : ℕ) (words : List ℕ)
    → Comes (each (numbers_down i n) (λ j. copy_child c (first + j) (first + (j + 1)))) words tt (with_room c.shape first i n words)
room-comes c first i zero words = each_none-comes (λ j. copy_child c (first + j) (first + (j + 1))) words
room-comes c first i (suc n) words =
    each-comes (i + n) (numbers_down i n) (λ j. copy_child c (first + j) (first + (j + 1)))
    (copy_child-comes c (first + (i + n)) (first + (i + n + 1)) words)
    (room-comes c first i n (with_copy c.shape words (first + (i + n)) (first + (i + n + 1))))

pub room-long : (s : Shape) (first i n : ℕ) (words : List ℕ) → length (with_room s first i n words) ≡ length words
room-long s first i zero words = refl
room-long s first i (suc n) words =
    room-long s first i n (with_copy s words (first + (i + n)) (first + (i + n + 1))) ∙ stored-long words (first + (i + n + 1)) _

pub room-other : (s : Shape) (first i n : ℕ) (words : List ℕ) (word : ℕ) → (word ≤ first + i) ⊎ (first + (i + n) < word)
    → slice_index (with_room s first i n words) word ≡ slice_index words word
room-other s first i zero words word h = refl
room-other s first i (suc n) words word h =
    room-other s first i n (with_copy s words (first + (i + n)) (first + (i + n + 1))) word
    (⊎_elim (λ l. inl l) (λ l. inr (omega (arith, l))) h)
    ∙ stored-other words (first + (i + n + 1)) word _ (⊎_elim (λ l e. omega (arith, l, e)) (λ l e. omega (arith, l, e)) h)

pub room-moved : (s : Shape) (first i n : ℕ) (words : List ℕ) → first + (i + n) < length words → (j : ℕ) → i ≤ j → j < i + n
    → child_of s (slice_index (with_room s first i n words) (first + (j + 1))) ≡ child_of s (slice_index words (first + j))
room-moved s first i zero words fits j low high = absurd (omega (arith, low, high))
room-moved s first i (suc n) words fits j low high =
    let to : ℕ = first + (i + n + 1) in
    let next : List ℕ = with_copy s words (first + (i + n)) to in
    let more = room-moved s first i n next
    (omega (arith, fits, stored-long words to (child_word (child_of s (slice_index words (first + (i + n))))))) j low in
    ⊎_elim (λ l. more l ∙ ap (child_of s) (stored-other words to (first + j) _ (λ e. omega (arith, l, e)))) (λ l. last l)
    (cases_lt j (i + n))
  where
    last : i + n ≤ j → child_of s (slice_index (with_room s first i (suc n) words) (first + (j + 1))) ≡ child_of s
        (slice_index words (first + j))
    last l =
        let is : j ≡ i + n = omega (arith, l, high) in
        let at : child_of s (slice_index (with_room s first i (suc n) words) (first + (i + n + 1))) ≡ child_of s
        (slice_index words (first + (i + n))) =
        (ap (child_of s) (room-other s first i n (with_copy s words (first + (i + n)) (first + (i + n + 1))) (first + (i + n + 1))
        (inr (omega arith)))
        ∙ child-copied s words (first + (i + n)) (first + (i + n + 1)) (omega (arith, fits))) in
        subst (λ k. child_of s (slice_index (with_room s first i (suc n) words) (first + (k + 1))) ≡ child_of s
        (slice_index words (first + k))) (sym is) at

pub room-small : (s : Shape) (first i n : ℕ) (words : List ℕ) → AreSmall words → AreSmall (with_room s first i n words)
room-small s first i zero words h = h
room-small s first i (suc n) words h =
    room-small s first i n (with_copy s words (first + (i + n)) (first + (i + n + 1)))
    (small-copy s words (first + (i + n)) (first + (i + n + 1)) h)
