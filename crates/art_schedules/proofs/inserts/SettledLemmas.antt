-- Settled words that are a tree of rows that were reached before or claimed since are at rest.
use Rattle.art_schedules.proofs.Common.{◌≡◌, ◌⊎◌, inl, inr, ℕ, ◌+◌, ◌-◌, ◌<◌, ◌≤◌, List, false, refl, sym, ap, ◌∙◌, subst, arith}
use Rattle.std.proofs.Common.{slice_index, Some}
use Rattle.art_schedules.proofs.Common.{Shape, Kind, row_words, rows_of, claims_of, base_of, kind_at, is_locked, is_obsolete, two-words, Reached}
use Rattle.art_schedules.proofs.Common.{IsTree, IsAtRest, IsClaimed, AreZeroPastClaims, IsInside, IsNewRow, IsNew, IsReleased, IsAfterInsert}
use Rattle.art_schedules.proofs.alone.PlaceLemmas.{Sits, sits-part, sits-inside, kind_at-sits}
use Rattle.art_schedules.proofs.alone.LikeLemmas.{sits}
use Rattle.art_schedules.specs.inserts.Settled.{HasOldOrNewRows}
use Rattle.art_schedules.specs.inserts.Laws.{SettledWordsRest}

module _ (s : Shape) (n : ℕ) (words later : List ℕ) (rest : IsAtRest s n words) (settled : IsAfterInsert s words later) where
  -- a row that is reached, at rest
  reached-sits : {base : ℕ} {kind : Kind} → Reached s words base kind → Sits s base kind
  reached-sits r = sits s n words rest r

  -- a row claimed since
  new-sits : {base : ℕ} {kind : Kind} → IsNewRow s words later base kind → Sits s base kind
  new-sits (x, low) = record { number = x.number; low = x.within; is = x.is }

  behind : (b : ℕ) (k : Kind) → Sits s b k → 5 ≤ b
  behind b k x = (sits-inside s b 0 k x (omega (arith, two-words k))).0

  -- no row's base is inside of a row
  base-outside : (b c j : ℕ) (k l : Kind) → Sits s b k → Sits s c l → 1 ≤ j → j < row_words l → b ≡ c + j → ⊥
  base-outside b c j k l x y low high is =
      let (kinds, numbers, bases, places) = sits-part s b c 0 j k l x y (omega (arith, two-words k)) high (omega (arith, is)) in
      omega (arith, places, low)

  -- a row's version: as it was, or released
  version : (b : ℕ) (k : Kind) → Sits s b k → (slice_index later b ≡ slice_index words b) ⊎ IsReleased s words later b
  version b k x = go (settled.word b (behind b k x))
    where
      go : (slice_index later b ≡ slice_index words b) ⊎ (IsReleased s words later b ⊎ (IsInside s words b ⊎ IsNew s words later b))
          → (slice_index later b ≡ slice_index words b) ⊎ IsReleased s words later b
      go (inl e) = inl e
      go (inr (inl v)) = inr v
      go (inr (inr (inl (c, l, j, r, low, high, is)))) = absurd (base-outside b c j k l x (reached-sits r) low high is)
      go (inr (inr (inr (c, l, j, r, low, high, is)))) = absurd (base-outside b c j k l x (new-sits r) low high is)

  unlocked : (b : ℕ) (k : Kind) → kind_at s b ≡ Some k → is_locked (slice_index later b) ≡ false
  unlocked b k is = go (version b k (kind_at-sits s b k is))
    where
      go : (slice_index later b ≡ slice_index words b) ⊎ IsReleased s words later b → is_locked (slice_index later b) ≡ false
      go (inl e) = ap is_locked e ∙ rest.unlocked b k is
      go (inr (l, r, free)) = free

  -- a row that was reached is none whose number was not claimed
  apart : (k l : Kind) (number b i j : ℕ) → slice_index words (claims_of k) ≤ number → number < rows_of s k → i < row_words k
      → Reached s words b l
      → j < row_words l → base_of s k number + i ≡ b + j → ⊥
  apart k l number b i j above low inside r high e =
      let its = rest.claimed b l r in
      let (kinds, numbers, bases, places) = sits-part s (base_of s k number) b i j k l (record { number = number; low = low; is = refl })
      (record { number = its.number; low = its.within; is = its.is }) inside high e in
      omega (arith, above, numbers, subst (λ q. its.number < slice_index words (claims_of q)) (sym kinds) its.claimed)

  -- the version of a row claimed since is 0
  new-version : (b : ℕ) (k : Kind) → IsNewRow s words later b k → slice_index later b ≡ 0
  new-version b k (x, low) = go (version b k (new-sits (x, low)))
    where
      some : 0 < row_words k
      some = omega (arith, two-words k)

      go : (slice_index later b ≡ slice_index words b) ⊎ IsReleased s words later b → slice_index later b ≡ 0
      go (inl e) = e ∙ rest.fresh k x.number low x.within b (omega (arith, x.is)) (omega (arith, x.is, some))
      go (inr (l, r, free)) = absurd (apart k l x.number b 0 0 low x.within some r (omega (arith, two-words l)) (omega (arith, x.is)))

  offset : (a w : ℕ) → a ≤ w → (i : ℕ) × (w ≡ a + i)
  offset a w h = (w - a, omega (arith, h))

  -- a row that is not claimed has only zeros
  fresh : AreZeroPastClaims s later
  fresh k number above low w from to = go (settled.word w (omega (arith, behind (base_of s k number) k here, from)))
    where
      here : Sits s (base_of s k number) k
      here = record { number = number; low = low; is = refl }

      above_before : slice_index words (claims_of k) ≤ number
      above_before = omega (arith, above, settled.low k)

      go : (slice_index later w ≡ slice_index words w) ⊎ (IsReleased s words later w ⊎ (IsInside s words w ⊎ IsNew s words later w))
          → slice_index later w ≡ 0
      go (inl e) = e ∙ rest.fresh k number above_before low w from to
      go (inr (inl (l, r, free))) =
          let (i, at) = offset (base_of s k number) w from in
          absurd (apart k l number w i 0 above_before low (omega (arith, to, at)) r (omega (arith, two-words l)) (omega (arith, at)))
      go (inr (inr (inl (b, l, j, r, one, high, is)))) =
          let (i, at) = offset (base_of s k number) w from in
          absurd (apart k l number b i j above_before low (omega (arith, to, at)) r high (sym at ∙ is))
      go (inr (inr (inr (b, l, j, (x, low2), one, high, is)))) =
          let (i, at) = offset (base_of s k number) w from in
          let (kinds, numbers, bases, places) = sits-part s (base_of s k number) b i j k l here
          (record { number = x.number; low = x.within; is = x.is })
          (omega (arith, to, at)) high (sym at ∙ is) in
          absurd (omega (arith, above, numbers, subst (λ q. x.number < slice_index later (claims_of q)) (sym kinds) x.claimed))

  settled-rests : IsTree s later → HasOldOrNewRows s words later → IsAtRest s (n + 1) later
  settled-rests tree rows = record {
    long = settled.long;
    small = settled.small;
    unlocked = unlocked;
    tree = tree;
    live = λ b k r. live b k (rows b k r);
    claims = λ k. omega (arith, settled.high k, rest.claims k);
    claimed = λ b k r. claimed b k (rows b k r);
    fresh = fresh;
  }
    where
      live : (b : ℕ) (k : Kind) → (Reached s words b k × (is_obsolete (slice_index later b) ≡ false)) ⊎ IsNewRow s words later b k
          → is_obsolete (slice_index later b) ≡ false
      live b k (inl (r, h)) = h
      live b k (inr new) = ap is_obsolete (new-version b k new)

      claimed : (b : ℕ) (k : Kind) → (Reached s words b k × (is_obsolete (slice_index later b) ≡ false)) ⊎ IsNewRow s words later b k
          → IsClaimed s later b k
      claimed b k (inl (r, h)) =
          let x = rest.claimed b k r in
          record { number = x.number; claimed = omega (arith, x.claimed, settled.low k); within = x.within; is = x.is }
      claimed b k (inr (x, low)) = x

pub settled-words-rest : SettledWordsRest
settled-words-rest s n words later rest settled tree rows = settled-rests s n words later rest settled tree rows
