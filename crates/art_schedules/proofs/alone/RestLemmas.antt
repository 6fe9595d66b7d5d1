-- Words that differ from those at rest by versions of unlocked live rows and inside of rows are at rest again, if their rows are the same.
use Rattle.art_schedules.proofs.Common.{length, Bool, true, eqb-true, eqb-false, ◌≡◌, ◌⊎◌, inl, inr, ℕ, ◌+◌, ◌-◌, ◌<◌, ◌≤◌, List}
use Rattle.art_schedules.proofs.Common.{false, refl, sym, ap, ◌∙◌, subst, arith, get_or-set_other, Contents, Shape, Kind, table_words}
use Rattle.art_schedules.proofs.Common.{row_words, rows_of, claims_of, base_of, kind_at, first_child, is_locked, is_obsolete, claims-few, two-words}
use Rattle.art_schedules.proofs.Common.{Reached, IsAtRest, HasRows}
use Rattle.std.proofs.Common.{All, slice_set, ◌==◌, slice_index, Some}
use Rattle.art_schedules.proofs.alone.PlaceLemmas.{Sits, sits-part, sits-inside, kind_at-sits}
use Rattle.art_schedules.proofs.alone.LikeLemmas.{Like, IsVersion, Nothing, sits}
use Rattle.art_schedules.proofs.alone.SlotLemmas.{IsChildWord}

module _ (s : Shape) (n : ℕ) (words : List ℕ) (rest : IsAtRest s n words) where
  -- a word inside of a row that was reached, but its version
  abbrev pub IsInside : ℕ → Type 0
  IsInside w = (b : ℕ) × (k : Kind) × (j : ℕ) × Reached s words b k × (1 ≤ j) × (j < row_words k) × (w ≡ b + j)

  -- the word is as it was, or the version of an unlocked live row, or inside of a row
  abbrev pub Settles : List ℕ → ℕ → Type 0
  Settles later w = (slice_index later w ≡ slice_index words w) ⊎ (IsVersion s words later Nothing w ⊎ IsInside w)

  pub like-settles : (later : List ℕ) → Like s words words later Nothing → (w : ℕ) → Settles later w
  like-settles later like w = go (like.word w)
    where
      go : (slice_index later w ≡ slice_index words w) ⊎ IsVersion s words later Nothing w → Settles later w
      go (inl e) = inl e
      go (inr v) = inr (inl v)

  pub slot-settles : (later : List ℕ) (base slot value : ℕ) (kind : Kind) → Like s words (slice_set words slot value) later Nothing
      → Reached s words base kind → IsChildWord base kind slot → (w : ℕ) → Settles later w
  slot-settles later base slot value kind like reached at w = go (w == slot) refl (like.word w)
    where
      low : (k : Kind) → 2 ≤ first_child k
      low k = grind arith

      go : (b : Bool) → (w == slot) ≡ b → (slice_index later w ≡ slice_index (slice_set words slot value) w)
          ⊎ IsVersion s words later Nothing w
          → Settles later w
      go b is (inr v) = inr (inl v)
      go true is (inl e) = inr (inr (base, kind, at.place, reached, omega (arith, at.low, low kind), at.high, eqb-true w slot is ∙ at.is))
      go false is (inl e) = inl (e ∙ get_or-set_other words slot w value 0 (eqb-false w slot is))

  -- a row that was not claimed is apart from each row that is reached
  pub unclaimed-apart : (k l : Kind) (number b i j : ℕ) → slice_index words (claims_of k) ≤ number → number < rows_of s k → i < row_words k
      → Reached s words b l → j < row_words l → base_of s k number + i ≡ b + j → ⊥
  unclaimed-apart k l number b i j above low li r lj is =
      let its = rest.claimed b l r in
      let (kinds, numbers, bases, places) = sits-part s (base_of s k number) b i j k l (record { number = number; low = low; is = refl })
      (record { number = its.number; low = its.within; is = its.is }) li lj is in
      omega (arith, above, numbers, subst (λ q. its.number < slice_index words (claims_of q)) (sym kinds) its.claimed)

  module _ (later : List ℕ) (long : length later ≡ table_words s) (small : All (λ w. w < 18446744073709551616) later)
      (word : (w : ℕ) → Settles later w) (m : Contents) (rows : HasRows s words later m) where
    -- a word that is inside of no row is that at rest or a version
    settled : (w : ℕ) → (IsInside w → ⊥) → (slice_index later w ≡ slice_index words w) ⊎ IsVersion s words later Nothing w
    settled w out = go (word w)
      where
        go : Settles later w → (slice_index later w ≡ slice_index words w) ⊎ IsVersion s words later Nothing w
        go (inl e) = inl e
        go (inr (inl v)) = inr v
        go (inr (inr i)) = absurd (out i)

    -- a row's base is not inside of a row
    base-out : (b : ℕ) (k : Kind) → Sits s b k → IsInside b → ⊥
    base-out b k x (c, l, j, r, low, high, is) =
        let (kinds, numbers, bases, places) = sits-part s b c 0 j k l x (sits s n words rest r) (omega (arith, two-words k)) high
        (omega (arith, is)) in
        omega (arith, places, low)

    behind-claims : (k l : Kind) (b : ℕ) → Reached s words b l → claims_of k < b
    behind-claims k l b r = omega (arith, (sits-inside s b 0 l (sits s n words rest r) (omega (arith, two-words l))).0, claims-few k)

    same-claims : (k : Kind) → slice_index later (claims_of k) ≡ slice_index words (claims_of k)
    same-claims k = go (settled (claims_of k) (λ (b, l, j, r, low, high, is). omega (arith, behind-claims k l b r, is)))
      where
        go : (slice_index later (claims_of k) ≡ slice_index words (claims_of k)) ⊎ IsVersion s words later Nothing (claims_of k)
            → slice_index later (claims_of k) ≡ slice_index words (claims_of k)
        go (inl e) = e
        go (inr v) = absurd (omega (arith, behind-claims k v.kind (claims_of k) v.reached))

    pub at-rest : IsAtRest s n later
    at-rest = record {
      long = long;
      small = small;
      unlocked = λ b k is. unlocked b k is (settled b (base-out b k (kind_at-sits s b k is)));
      tree = rows.tree;
      live = λ b k r. live b k ((rows.rows b k).0 r) (settled b (base-out b k (sits s n words rest ((rows.rows b k).0 r))));
      claims = λ k. subst (λ c. c ≤ n) (sym (same-claims k)) (rest.claims k);
      claimed = λ b k r.
          let x = rest.claimed b k ((rows.rows b k).0 r) in
          record { number = x.number; claimed = subst (λ c. x.number < c) (sym (same-claims k)) x.claimed; within = x.within; is = x.is };
      fresh = λ k number above low w from to.
          let (i, is) = offset (base_of s k number) w from in
          let old : slice_index words (claims_of k) ≤ number = subst (λ c. c ≤ number) (same-claims k) above in
          let few : i < row_words k = omega (arith, to, is) in
          fresh w (rest.fresh k number old low w from to)
          (λ l r. unclaimed-apart k l number w i 0 old low few r (omega (arith, two-words l)) (omega (arith, is)))
          (settled w (λ (b, l, j, r, one, high, at). unclaimed-apart k l number b i j old low few r high (omega (arith, is, at))));
    }
      where
        offset : (a b : ℕ) → a ≤ b → (i : ℕ) × (b ≡ a + i)
        offset a b le = (b - a, omega (arith, le))

        unlocked : (b : ℕ) (k : Kind) → kind_at s b ≡ Some k → (slice_index later b ≡ slice_index words b)
            ⊎ IsVersion s words later Nothing b
            → is_locked (slice_index later b) ≡ false
        unlocked b k is (inl e) = ap is_locked e ∙ rest.unlocked b k is
        unlocked b k is (inr v) = v.free (λ h. h)

        live : (b : ℕ) (k : Kind) → Reached s words b k → (slice_index later b ≡ slice_index words b) ⊎ IsVersion s words later Nothing b
            → is_obsolete (slice_index later b) ≡ false
        live b k r (inl e) = ap is_obsolete e ∙ rest.live b k r
        live b k r (inr v) = v.live

        fresh : (w : ℕ) → slice_index words w ≡ 0 → ((l : Kind) → Reached s words w l → ⊥)
            → (slice_index later w ≡ slice_index words w) ⊎ IsVersion s words later Nothing w → slice_index later w ≡ 0
        fresh w zero_there none (inl e) = e ∙ zero_there
        fresh w zero_there none (inr v) = absurd (none v.kind v.reached)
