-- What stays where one row has changed: the other rows, their versions and infos, and rows that were not claimed.
use Rattle.art_schedules.proofs.Common.{◌≡◌, ◌≢◌, ◌⊎◌, inl, inr, ℕ, ◌+◌, ◌-◌, ◌<◌, ◌≤◌, List, false, refl, sym, ap, ◌∙◌, subst, arith, ⊎_elim}
use Rattle.art_schedules.proofs.alone.LikeLemmas.{sits}
use Rattle.art_schedules.proofs.alone.PlaceLemmas.{Sits, sits-part, sits-inside, sits-kind_at, kind_at-sits}
use Rattle.art_schedules.proofs.inserts.OutcomeLemmas.{split}
use Rattle.art_schedules.proofs.Common.{cases_eq, Shape, Kind, Child, row_words, claims_of, base_of, info_at, kind_at, is_locked, is_obsolete}
use Rattle.art_schedules.proofs.Common.{child_of, two-words, Reached, IsAtRest, SameRow, IsClaimed, AreZeroPastClaims, ChildrenAreRead}
use Rattle.art_schedules.proofs.Common.{OneRow, HasNewChild}
use Rattle.std.proofs.Common.{slice_index, Some}
use Rattle.art_schedules.specs.trees.Trees.{ChangesAt}
use Rattle.art_schedules.specs.versions.Steady as steady
use Rattle.art_schedules.proofs.inserts.HungLemmas.{word-changes}
use Rattle.art_schedules.specs.changes.Laws.{RowsAreByWords, SlotsAreChildren, SlotsAreWritten}

-- a claimed row sits in the table
abbrev pub claimed-sits : (s : Shape) (words : List ℕ) (base : ℕ) (kind : Kind) → IsClaimed s words base kind → Sits s base kind
claimed-sits s words base kind h = record { number = h.number; low = h.within; is = h.is }

-- if all words of a row are the same, so are those after its version
pub steady-row : (words later : List ℕ) (base : ℕ) (kind : Kind) → steady.SameWords words later base kind → SameRow words later base kind
steady-row words later base kind same j low high = same (base + j) (omega arith) (omega (arith, high))

-- a word from a base on, by its place
offset : (b l word : ℕ) → b ≤ word → word < b + l → (j : ℕ) × (j < l) × (word ≡ b + j)
offset b l word from to = (word - b, omega (arith, from, to), omega (arith, from))

-- rows of one base are of one kind
pub same-kind : (s : Shape) (a b : ℕ) (k l : Kind) → Sits s a k → Sits s b l → a ≡ b → k ≡ l
same-kind s a b k l x y same =
    (sits-part s a b 0 0 k l x y (omega (arith, two-words k)) (omega (arith, two-words l)) (ap (λ i. i + 0) same)).0

module _ (s : Shape) (n : ℕ) (calm later : List ℕ) (rest : IsAtRest s n calm) (base : ℕ) (kind : Kind)
    (one : OneRow s calm later base kind) where
  pub other-row : (b : ℕ) (k : Kind) → Sits s b k → b ≢ base → SameRow calm later b k
  other-row b k x ne j low high = one.others b k j (sits-kind_at s b k x) ne high

  pub other-version : (b : ℕ) (k : Kind) → Sits s b k → b ≢ base → slice_index later b ≡ slice_index calm b
  other-version b k x ne =
      let none : b + 0 ≡ b = omega arith in
      ap (λ w. slice_index later w) (sym none)
      ∙ (one.others b k 0 (sits-kind_at s b k x) ne (omega (arith, two-words k)) ∙ ap (λ w. slice_index calm w) none)

  pub reached-sits : (b : ℕ) (k : Kind) → Reached s calm b k → Sits s b k
  reached-sits b k r = sits s n calm rest r

  -- no row is locked
  pub unlocked : (b : ℕ) (k : Kind) → kind_at s b ≡ Some k → is_locked (slice_index later b) ≡ false
  unlocked b k is = ⊎_elim
      (λ here. ap (λ w. is_locked (slice_index later w)) here ∙ one.unlocked)
      (λ apart. ap is_locked (other-version b k (kind_at-sits s b k is) apart) ∙ rest.unlocked b k is) (cases_eq b base)

  -- none that sits and was not obsolete is obsolete
  pub live : (b : ℕ) (k : Kind) → Sits s b k → is_obsolete (slice_index calm b) ≡ false → is_obsolete (slice_index later b) ≡ false
  live b k x was = ⊎_elim
      (λ here. ap (λ w. is_obsolete (slice_index later w)) here ∙ one.live)
      (λ apart. ap is_obsolete (other-version b k x apart) ∙ was) (cases_eq b base)

  -- a row that was reached is claimed
  pub still-claimed : (b : ℕ) (k : Kind) → Reached s calm b k → IsClaimed s later b k
  still-claimed b k r =
      let x = rest.claimed b k r in
      record { number = x.number; claimed = omega (arith, x.claimed, one.claims k); within = x.within; is = x.is }

  -- a row that is not claimed has only zeros
  pub fresh : IsClaimed s later base kind → AreZeroPastClaims s later
  fresh own k number above low word from to = ⊎_elim
      (λ here.
      let (kinds, numbers, bases, places) = sits-part s (base_of s k number) base 0 0 k kind
      (record { number = number; low = low; is = refl })
      (claimed-sits s later base kind own) (omega (arith, two-words k)) (omega (arith, two-words kind)) (ap (λ i. i + 0) here) in
      absurd (omega (arith, above, numbers, subst (λ q. own.number < slice_index later (claims_of q)) (sym kinds) own.claimed)))
      (λ apart.
      let (j, high, is) = offset (base_of s k number) (row_words k) word from to in
      ap (λ w. slice_index later w) is
      ∙ (one.others (base_of s k number) k j (sits-kind_at s (base_of s k number) k
      (record { number = number; low = low; is = refl })) apart high
      ∙ (ap (λ w. slice_index calm w) (sym is)
      ∙ rest.fresh k number (omega (arith, above, one.claims k)) low word from to))) (cases_eq (base_of s k number) base)

  -- the infos of all reached rows stay, if that of the row stays
  pub infos : slice_index later (info_at base) ≡ slice_index calm (info_at base) → (b : ℕ) (k : Kind) → Reached s calm b k
      → slice_index later (info_at b) ≡ slice_index calm (info_at b)
  infos own b k r = ⊎_elim
      (λ here. subst (λ b. slice_index later (info_at b) ≡ slice_index calm (info_at b)) (sym here) own)
      (λ apart. other-row b k (reached-sits b k r) apart 1 (omega arith) (two-words k)) (cases_eq b base)

  -- nothing else of the tree has changed
  pub changes : (x : ℕ) (child : Child) → HasNewChild s calm later base kind x child → ChangesAt s calm later base kind x child
  changes x child row = record {
    others = λ b k r ne. other-row b k (reached-sits b k r) ne;
    info = row.info;
    form = row.form;
    other_bytes = row.others;
    here = row.here;
  }

-- ---- laws of rows

pub rows-are-by-words : RowsAreByWords
rows-are-by-words s calm later base kind row long small claims same unlocked live = record {
  row = row;
  long = long;
  small = small;
  claims = claims;
  others = λ b k j is ne high. by b k j (kind_at-sits s b k is) ne high (split (b + j) base (row_words kind));
  unlocked = unlocked;
  live = live;
}
  where
    by : (b : ℕ) (k : Kind) (j : ℕ) → Sits s b k → b ≢ base → j < row_words k
        → (b + j < base) ⊎ ((base + row_words kind ≤ b + j) ⊎ ((i : ℕ) × (i < row_words kind) × (b + j ≡ base + i)))
        → slice_index later (b + j) ≡ slice_index calm (b + j)
    by b k j x ne high (inl less) = same (b + j) (omega (arith, (sits-inside s b j k x high).0)) (inl less)
    by b k j x ne high (inr (inl more)) = same (b + j) (omega (arith, (sits-inside s b j k x high).0)) (inr more)
    by b k j x ne high (inr (inr (i, within, is))) =
        absurd (ne (sits-part s b base j i k kind x (kind_at-sits s base kind row) high within is).2)

pub slots-are-children : SlotsAreChildren
slots-are-children s n calm later base kind x slot rest reached one byte at same = record {
  form = change.form;
  info = change.info;
  others = change.other_bytes;
  here = change.here;
}
  where
    untouched : (b : ℕ) (k : Kind) → Reached s calm b k → (j : ℕ) → 1 ≤ j → j < row_words k → (b + j ≡ slot → ⊥)
        → slice_index later (b + j) ≡ slice_index calm (b + j)
    untouched b k r j low high ne = ⊎_elim
        (λ here.
        let kinds = same-kind s b base k kind (sits s n calm rest r) (sits s n calm rest reached) here in
        subst (λ a. slice_index later (a + j) ≡ slice_index calm (a + j)) (sym here)
        (same j low (subst (λ q. j < row_words q) kinds high) (λ is. ne (ap (λ a. a + j) here ∙ is))))
        (λ apart. other-row s n calm later rest base kind one b k (sits s n calm rest r) apart j low high) (cases_eq b base)

    change : ChangesAt s calm later base kind x (child_of s (slice_index later slot))
    change = word-changes s n calm rest later base slot (slice_index later slot) x kind reached byte at untouched refl
        (rest.tree.form base kind reached)
        (child_of s (slice_index later slot)) refl

pub slots-are-written : ChildrenAreRead → SlotsAreWritten
slots-are-written read s n calm later base kind x slot child rest reached one byte at same writable word =
    subst (λ c. HasNewChild s calm later base kind x c) (ap (λ w. child_of s w) word ∙ read s child writable)
    (slots-are-children s n calm later base kind x slot rest reached one byte at same)
