-- What calm_after makes of each word.
use Rattle.art_schedules.proofs.Common.{◌≡◌, ℕ, zero, suc, ◌+◌, ◌*◌, ◌-◌, ◌/◌, ◌<◌, ◌≤◌, Bool, true, false, List, length, refl, ap, sym, subst}
use Rattle.art_schedules.proofs.words.TableLemmas.{kind_at-base_of, row_begins, row_ends, rows_apart}
use Rattle.art_schedules.proofs.Common.{◌∙◌, inl, inr, arith, ◌&&◌, nat_lt, map, slice_index, Option, Some, None, if◌then◌else◌, cases_lt}
use Rattle.art_schedules.proofs.Common.{cases_Bool, lt-ltb, ltb-true, or_left, or_right, or_from, get_or_past, Shape, Kind, Four, Sixteen}
use Rattle.art_schedules.proofs.Common.{FortyEight, Full, row_words, rows_of, table_words, base_of, kind_at}
use Rattle.art_schedules.proofs.Common.{numbers, SameWords, is_busy, calm_after}
use Rattle.std.specs.Prelude.{◌⊎◌}
use Rattle.art_schedules.proofs.writes.GrowSixteenLemmas.{entry-at}
use Rattle.art_schedules.specs.calm.Calm.{lies_at, lies_below, is_of_busy_row}

as-many : (f : ℕ → ℕ) (first n : ℕ) → length (map f (numbers first n)) ≡ n
as-many f first zero = refl
as-many f first (suc n) = ap suc (as-many f (first + 1) n)

module _ (shape : Shape) (words : List ℕ) (word : ℕ) where
  low-false : word < 5 → (n : ℕ) → n ≤ suc word → lies_below shape words word n ≡ false
  low-false low zero h = refl
  low-false low (suc n) h = or_from (lies_at words word n (kind_at shape n)) (lies_below shape words word n)
      (here (kind_at shape n) refl)
      (low-false low n (omega (arith, h)))
    where
      here : (o : Option Kind) → kind_at shape n ≡ o → lies_at words word n o ≡ false
      here None e = refl
      here (Some kind) e = absurd (omega (arith, row_begins shape n kind e, low, h))

  module _ (base : ℕ) (kind : Kind) (row : kind_at shape base ≡ Some kind) (low : base ≤ word) (high : word < base + row_words kind) where
    busy-true : is_busy (slice_index words base) ≡ true → (n : ℕ) → base < n → lies_below shape words word n ≡ true
    busy-true busy zero h = absurd (omega (arith, h))
    busy-true busy (suc n) h = elim (cases_lt base n) [
      | inl less ↦ or_right (lies_at words word n (kind_at shape n)) (lies_below shape words word n) (busy-true busy n less)
      | inr more ↦ or_left (lies_at words word n (kind_at shape n)) (lies_below shape words word n) (here n (omega (arith, more, h)))
    ]
      where
        at-base : lies_at words word base (kind_at shape base) ≡ true
        at-base = ap (lies_at words word base) row
            ∙ (ap (λ b. b && is_busy (slice_index words base)) (lt-ltb word (base + row_words kind) high) ∙ busy)

        here : (m : ℕ) → base ≡ m → lies_at words word m (kind_at shape m) ≡ true
        here m e = subst (λ b. lies_at words word b (kind_at shape b) ≡ true) e at-base

    free-false : is_busy (slice_index words base) ≡ false → (n : ℕ) → n ≤ suc word → lies_below shape words word n ≡ false
    free-false free zero h = refl
    free-false free (suc n) h = or_from (lies_at words word n (kind_at shape n)) (lies_below shape words word n)
        (here (kind_at shape n) refl)
        (free-false free n (omega (arith, h)))
      where
        tests : (k : Kind) → kind_at shape n ≡ Some k → (b : Bool) → nat_lt word (n + row_words k) ≡ b
            → (b && is_busy (slice_index words n)) ≡ false
        tests k e false f = refl
        tests k e true f =
            let same = rows_apart shape n base k kind word e row (omega (arith, h)) (ltb-true word (n + row_words k) f) low high in
            ap (λ b. is_busy (slice_index words b)) same.0 ∙ free

        here : (o : Option Kind) → kind_at shape n ≡ o → lies_at words word n o ≡ false
        here None e = refl
        here (Some k) e = tests k e (nat_lt word (n + row_words k)) refl

of-low : (shape : Shape) (words : List ℕ) (word : ℕ) → word < 5 → is_of_busy_row shape words word ≡ false
unfolding is_of_busy_row
of-low shape words word low = low-false shape words word low (suc word) (omega arith)

pub of-busy : (shape : Shape) (words : List ℕ) (word base : ℕ) (kind : Kind) → kind_at shape base ≡ Some kind → base ≤ word
    → word < base + row_words kind
    → is_busy (slice_index words base) ≡ true → is_of_busy_row shape words word ≡ true
unfolding is_of_busy_row
of-busy shape words word base kind row low high busy =
    busy-true shape words word base kind row low high busy (suc word) (omega (arith, low))

pub of-free : (shape : Shape) (words : List ℕ) (word base : ℕ) (kind : Kind) → kind_at shape base ≡ Some kind → base ≤ word
    → word < base + row_words kind
    → is_busy (slice_index words base) ≡ false → is_of_busy_row shape words word ≡ false
unfolding is_of_busy_row
of-free shape words word base kind row low high free = free-false shape words word base kind row low high free (suc word) (omega arith)

module _ (shape : Shape) (calm later : List ℕ) where
  abbrev chosen : ℕ → Bool → ℕ
  chosen word b = if b then slice_index calm word else slice_index later word

  pub after-long : length (calm_after shape calm later) ≡ length later
  unfolding calm_after
  after-long = as-many (λ word. if is_of_busy_row shape later word then slice_index calm word else slice_index later word) 0 (length later)

  after-at : (word : ℕ) → word < length later → slice_index (calm_after shape calm later) word ≡ chosen word
      (is_of_busy_row shape later word)
  unfolding calm_after
  after-at word h =
      entry-at (λ word. if is_of_busy_row shape later word then slice_index calm word else slice_index later word) 0 (length later) word h
      ∙ ap (λ x. chosen x (is_of_busy_row shape later x)) (omega arith)

  pub after-past : (word : ℕ) → length later ≤ word → slice_index (calm_after shape calm later) word ≡ slice_index later word
  after-past word h = get_or_past (calm_after shape calm later) word 0 (omega (arith, after-long, h)) ∙ sym (get_or_past later word 0 h)

  at-false : (word : ℕ) → is_of_busy_row shape later word ≡ false → slice_index (calm_after shape calm later) word ≡ slice_index later word
  at-false word e = elim (cases_lt word (length later)) [
    | inl less ↦ after-at word less ∙ ap (chosen word) e
    | inr more ↦ after-past word more
  ]

  -- words 0 to 4 are the later ones,
  pub after-low : (word : ℕ) → word < 5 → slice_index (calm_after shape calm later) word ≡ slice_index later word
  after-low word low = at-false word (of-low shape later word low)

  -- the words of a row that is not busy are the later ones;
  pub after-free : (base : ℕ) (kind : Kind) → kind_at shape base ≡ Some kind → is_busy (slice_index later base) ≡ false
      → SameWords later (calm_after shape calm later) base kind
  after-free base kind row free word low high = at-false word (of-free shape later word base kind row low high free)

  -- the words of a busy row are calm's;
  pub after-busy : table_words shape ≤ length later → (base : ℕ) (kind : Kind) → kind_at shape base ≡ Some kind
      → is_busy (slice_index later base) ≡ true
      → SameWords calm (calm_after shape calm later) base kind
  after-busy long base kind row busy word low high =
      after-at word (omega (arith, row_ends shape base kind row, long, high))
      ∙ ap (chosen word) (of-busy shape later word base kind row low high busy)

  -- each is one of both
  pub after-either : (word : ℕ) → (slice_index (calm_after shape calm later) word ≡ slice_index calm word)
      ⊎ (slice_index (calm_after shape calm later) word ≡ slice_index later word)
  after-either word = elim (cases_lt word (length later)) [
    | inl less ↦ elim (cases_Bool (is_of_busy_row shape later word)) [
      | inl e ↦ inl (after-at word less ∙ ap (chosen word) e)
      | inr e ↦ inr (after-at word less ∙ ap (chosen word) e)
    ]
    | inr more ↦ inr (after-past word more)
  ]

-- Each word of the table after the claims is one of a row.

pub record IsOfRow (shape : Shape) (word : ℕ) : Type 0 where
  pub base : ℕ
  pub kind : Kind
  pub row : kind_at shape base ≡ Some kind
  pub low : base ≤ word
  pub high : word < base + row_words kind

module _ (shape : Shape) (word : ℕ) where
  numbered : (kind : Kind) (number : ℕ) → number < rows_of shape kind → base_of shape kind number ≤ word
      → word < base_of shape kind number + row_words kind
      → IsOfRow shape word
  numbered kind number within low high = record
      { base = base_of shape kind number; kind = kind; row = kind_at-base_of shape kind number within; low = low; high = high }

  of-four : (number : ℕ) → number ≡ (word - 5) / 7 → 5 ≤ word → word < 5 + 7 * shape.rows4 → IsOfRow shape word
  of-four number e low high = numbered Four number (omega (arith, e, low, high)) (omega (arith, e, low, high)) (omega (arith, e, low, high))

  of-sixteen : (number : ℕ) → number ≡ (word - (5 + 7 * shape.rows4)) / 21 → 5 + 7 * shape.rows4 ≤ word
      → word < 5 + 7 * shape.rows4 + 21 * shape.rows16
      → IsOfRow shape word
  of-sixteen number e low high = numbered Sixteen number (omega (arith, e, low, high)) (omega (arith, e, low, high))
      (omega (arith, e, low, high))

  of-forty-eight : (number : ℕ) → number ≡ (word - (5 + 7 * shape.rows4 + 21 * shape.rows16)) / 83
      → 5 + 7 * shape.rows4 + 21 * shape.rows16 ≤ word
      → word < 5 + 7 * shape.rows4 + 21 * shape.rows16 + 83 * shape.rows48 → IsOfRow shape word
  of-forty-eight number e low high = numbered FortyEight number (omega (arith, e, low, high)) (omega (arith, e, low, high))
      (omega (arith, e, low, high))

  of-full : (number : ℕ) → number ≡ (word - (5 + 7 * shape.rows4 + 21 * shape.rows16 + 83 * shape.rows48)) / 258
      → 5 + 7 * shape.rows4 + 21 * shape.rows16 + 83 * shape.rows48 ≤ word → word < table_words shape → IsOfRow shape word
  of-full number e low high = numbered Full number (omega (arith, e, low, high)) (omega (arith, e, low, high)) (omega (arith, e, low, high))

  pub row-of-word : 5 ≤ word → word < table_words shape → IsOfRow shape word
  row-of-word low high = elim (cases_lt word (5 + 7 * shape.rows4)) [
    | inl less ↦ of-four ((word - 5) / 7) refl low less
    | inr a ↦ elim (cases_lt word (5 + 7 * shape.rows4 + 21 * shape.rows16)) [
      | inl less ↦ of-sixteen ((word - (5 + 7 * shape.rows4)) / 21) refl a less
      | inr b ↦ elim (cases_lt word (5 + 7 * shape.rows4 + 21 * shape.rows16 + 83 * shape.rows48)) [
        | inl less ↦ of-forty-eight ((word - (5 + 7 * shape.rows4 + 21 * shape.rows16)) / 83) refl b less
        | inr c ↦ of-full ((word - (5 + 7 * shape.rows4 + 21 * shape.rows16 + 83 * shape.rows48)) / 258) refl c high
      ]
    ]
  ]
