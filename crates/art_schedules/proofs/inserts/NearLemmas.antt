-- Words that differ from those at rest by versions of rows that are reached, and by words that a call has written.
use Rattle.art_schedules.proofs.Common.{◌≡◌, ◌⊎◌, inl, inr, ℕ, ◌+◌, ◌<◌, ◌≤◌, List, [], ◌∷◌, length, Bool, true, false, refl}
use Rattle.art_rows.specs.Rows.{Row}
use Rattle.art_schedules.proofs.Common.{sym, ap, ◌∙◌, subst, arith, eqb-true, eqb-false, All-set, length-set, get_or-set_same, get_or-set_other}
use Rattle.art_schedules.proofs.Common.{Shape, Kind, row_words, table_words, is_locked, is_obsolete, released_word, two-words, Reached}
use Rattle.art_schedules.proofs.Common.{IsAtRest, SameRow, unlocked_rows}
use Rattle.std.proofs.Common.{All, slice_set, ◌==◌, slice_index}
use Rattle.art_schedules.proofs.alone.PlaceLemmas.{Sits, sits-part, sits-inside}
use Rattle.art_schedules.proofs.alone.LikeLemmas.{Like, IsVersion, Nothing, sits}
use Rattle.art_schedules.proofs.alone.VersionLemmas.{released-live, released-free, released-small}

module _ (s : Shape) (n : ℕ) (words : List ℕ) (rest : IsAtRest s n words) where
  -- the word is the version of a row that is reached: of a live one, unless it is dead, and unlocked, unless it is held
  pub record Version (now : List ℕ) (held dead : ℕ → Type 0) (w : ℕ) : Type 0 where
    pub kind : Kind
    pub reached : Reached s words w kind
    pub live : (dead w → ⊥) → is_obsolete (slice_index now w) ≡ false
    pub free : (held w → ⊥) → is_locked (slice_index now w) ≡ false

  -- each word is as it was at rest, or a version, or one of which nothing is said
  pub record Near (out held dead : ℕ → Type 0) (now : List ℕ) : Type 0 where
    pub long : length now ≡ table_words s
    pub small : All (λ w. w < 18446744073709551616) now
    pub word : (w : ℕ) → (slice_index now w ≡ slice_index words w) ⊎ (Version now held dead w ⊎ out w)

  pub near-like : {now : List ℕ} {held : ℕ → Type 0} → Like s words words now held → Near Nothing held Nothing now
  near-like {now} {held} like = record { long = like.long; small = like.small; word = λ w. go w (like.word w) }
    where
      go : (w : ℕ) → (slice_index now w ≡ slice_index words w) ⊎ IsVersion s words now held w
          → (slice_index now w ≡ slice_index words w) ⊎ (Version now held Nothing w ⊎ Nothing w)
      go w (inl e) = inl e
      go w (inr v) = inr (inl (record { kind = v.kind; reached = v.reached; live = λ h. v.live; free = v.free }))

  -- other words were written
  pub near-out : {out out2 held dead : ℕ → Type 0} {now later : List ℕ} → Near out held dead now → length later ≡ length now
      → All (λ w. w < 18446744073709551616) later → ((w : ℕ) → (slice_index later w ≡ slice_index now w) ⊎ out2 w)
      → ((w : ℕ) → out w → out2 w)
      → Near out2 held dead later
  near-out {out} {out2} {held} {dead} {now} {later} near long small same more = record {
    long = long ∙ near.long;
    small = small;
    word = λ w. go w (same w) (near.word w);
  }
    where
      go : (w : ℕ) → (slice_index later w ≡ slice_index now w) ⊎ out2 w → (slice_index now w ≡ slice_index words w)
          ⊎ (Version now held dead w ⊎ out w)
          → (slice_index later w ≡ slice_index words w) ⊎ (Version later held dead w ⊎ out2 w)
      go w (inr o) h = inr (inr o)
      go w (inl e) (inl f) = inl (e ∙ f)
      go w (inl e) (inr (inr o)) = inr (inr (more w o))
      go w (inl e) (inr (inl v)) = inr (inl (record {
        kind = v.kind;
        reached = v.reached;
        live = λ h. ap is_obsolete e ∙ v.live h;
        free = λ h. ap is_locked e ∙ v.free h;
      }))

  -- a row's version is set
  pub near-version : {out held held2 dead dead2 : ℕ → Type 0} {now : List ℕ} {base : ℕ} {kind : Kind} (new : ℕ) → Near out held dead now
      → Reached s words base kind → new < 18446744073709551616 → ((dead2 base → ⊥) → is_obsolete new ≡ false)
      → ((held2 base → ⊥) → is_locked new ≡ false)
      → ((w : ℕ) → held w → (w ≡ base → ⊥) → held2 w) → ((w : ℕ) → dead w → (w ≡ base → ⊥) → dead2 w)
      → Near out held2 dead2 (slice_set now base new)
  near-version {out} {held} {held2} {dead} {dead2} {now} {base} {kind} new near reached little live free keep keep_dead = record {
    long = length-set now base new ∙ near.long;
    small = All-set (λ w. w < 18446744073709551616) now base new little near.small;
    word = λ w. go w (w == base) refl;
  }
    where
      inside : base < length now
      inside = omega (arith, (sits-inside s base 0 kind (sits s n words rest reached) (omega (arith, two-words kind))).1, near.long)

      here : slice_index (slice_set now base new) base ≡ new
      here = get_or-set_same now base new 0 inside

      other : (w : ℕ) → (w ≡ base → ⊥) → (slice_index now w ≡ slice_index words w) ⊎ (Version now held dead w ⊎ out w)
          → (slice_index (slice_set now base new) w ≡ slice_index words w) ⊎ (Version (slice_set now base new) held2 dead2 w ⊎ out w)
      other w ne (inl e) = inl (get_or-set_other now base w new 0 ne ∙ e)
      other w ne (inr (inr o)) = inr (inr o)
      other w ne (inr (inl v)) =
          let same : slice_index (slice_set now base new) w ≡ slice_index now w = get_or-set_other now base w new 0 ne in
          inr (inl (record {
            kind = v.kind;
            reached = v.reached;
            live = λ h. ap is_obsolete same ∙ v.live (λ d. h (keep_dead w d ne));
            free = λ h. ap is_locked same ∙ v.free (λ d. h (keep w d ne));
          }))

      set_here : (w : ℕ) → w ≡ base → Version (slice_set now base new) held2 dead2 w
      set_here w is = subst (λ (w : ℕ). Version (slice_set now base new) held2 dead2 w) (sym is)
          (record { kind = kind; reached = reached; live = λ h. ap is_obsolete here ∙ live h; free = λ h. ap is_locked here ∙ free h })

      go : (w : ℕ) (b : Bool) → (w == base) ≡ b
          → (slice_index (slice_set now base new) w ≡ slice_index words w) ⊎ (Version (slice_set now base new) held2 dead2 w ⊎ out w)
      go w true e = inr (inl (set_here w (eqb-true w base e)))
      go w false e = other w (eqb-false w base e) (near.word w)

  -- a word of a row that is reached, other than its version, that was not written
  pub near-behind : {out held dead : ℕ → Type 0} {now : List ℕ} {base : ℕ} {kind : Kind} → Near out held dead now
      → Reached s words base kind → (j : ℕ) → 1 ≤ j
      → j < row_words kind → (out (base + j) → ⊥) → slice_index now (base + j) ≡ slice_index words (base + j)
  near-behind {out} {held} {dead} {now} {base} {kind} near reached j low high ne = go (near.word (base + j))
    where
      go : (slice_index now (base + j) ≡ slice_index words (base + j)) ⊎ (Version now held dead (base + j) ⊎ out (base + j))
          → slice_index now (base + j) ≡ slice_index words (base + j)
      go (inl e) = e
      go (inr (inr o)) = absurd (ne o)
      go (inr (inl v)) =
          let (kinds, numbers, bases, places) =
          sits-part s base (base + j) j 0 kind v.kind (sits s n words rest reached) (sits s n words rest v.reached) high
          (omega (arith, two-words v.kind)) (omega arith) in
          absurd (omega (arith, places, low))

  pub near-row : {held dead : ℕ → Type 0} {now : List ℕ} {base : ℕ} {kind : Kind} → Near Nothing held dead now → Reached s words base kind
      → SameRow words now base kind
  near-row near reached = λ j low high. near-behind near reached j low high (λ h. h)

  -- a word that is no row's base
  pub near-plain : {out held dead : ℕ → Type 0} {now : List ℕ} (w : ℕ) → Near out held dead now
      → ((kind : Kind) → Sits s w kind → ⊥) → (out w → ⊥)
      → slice_index now w ≡ slice_index words w
  near-plain {out} {held} {dead} {now} w near plain ne = go (near.word w)
    where
      go : (slice_index now w ≡ slice_index words w) ⊎ (Version now held dead w ⊎ out w) → slice_index now w ≡ slice_index words w
      go (inl e) = e
      go (inr (inr o)) = absurd (ne o)
      go (inr (inl v)) = absurd (plain v.kind (sits s n words rest v.reached))

  -- the version of a row that is reached and not dead is live
  pub near-live : {out held dead : ℕ → Type 0} {now : List ℕ} {base : ℕ} {kind : Kind} → Near out held dead now
      → Reached s words base kind → (dead base → ⊥)
      → (out base → ⊥) → is_obsolete (slice_index now base) ≡ false
  near-live {out} {held} {dead} {now} {base} {kind} near reached ne no_out = go (near.word base)
    where
      go : (slice_index now base ≡ slice_index words base) ⊎ (Version now held dead base ⊎ out base)
          → is_obsolete (slice_index now base) ≡ false
      go (inl e) = ap is_obsolete e ∙ rest.live base kind reached
      go (inr (inl v)) = v.live ne
      go (inr (inr o)) = absurd (no_out o)

  -- ---- rows that are held

  -- the word is the base of one of the rows
  abbrev pub Among : List Row → ℕ → Type 0
  Among [] w = ⊥
  Among (r ∷ rows) w = (w ≡ r.base) ⊎ Among rows w

  -- a row that is held: it is reached, and its version was that of a live unlocked row
  pub record IsHeld (r : Row) : Type 0 where
    pub kind : Kind
    pub reached : Reached s words r.base kind
    pub free : is_locked r.kept ≡ false
    pub live : is_obsolete r.kept ≡ false

  abbrev pub AreHeld : List Row → Type 0
  AreHeld [] = Unit {0}
  AreHeld (r ∷ rows) = IsHeld r × AreHeld rows

  -- rows that are held are unlocked
  pub near-unlocked : {out dead : ℕ → Type 0} (rows : List Row) {now : List ℕ} → AreHeld rows → Near out (Among rows) dead now
      → Near out Nothing dead (unlocked_rows rows now)
  near-unlocked [] held near = near
  near-unlocked {out} {dead} (r ∷ rows) {now} (h, held) near =
      near-unlocked rows held (near-version {held2 = Among rows} {dead2 = dead} (released_word r.kept) near h.reached
      (released-small r.kept)
      (λ no_one. released-live r.kept h.live) (λ no_one. released-free r.kept h.free) go (λ w d ne. d))
    where
      go : (w : ℕ) → (w ≡ r.base) ⊎ Among rows w → (w ≡ r.base → ⊥) → Among rows w
      go w (inl is) ne = absurd (ne is)
      go w (inr a) ne = a

  -- no row's words after its version change where rows are unlocked
  pub unlocked-other : (rows : List Row) (now : List ℕ) → AreHeld rows → (w : ℕ) → ((kind : Kind) → Sits s w kind → ⊥)
      → slice_index (unlocked_rows rows now) w ≡ slice_index now w
  unlocked-other [] now held w plain = refl
  unlocked-other (r ∷ rows) now (h, held) w plain =
      unlocked-other rows (slice_set now r.base (released_word r.kept)) held w plain
      ∙ get_or-set_other now r.base w (released_word r.kept) 0
      (λ is. plain h.kind (subst (λ b. Sits s b h.kind) (sym is) (sits s n words rest h.reached)))

  -- a word after a row's version is no row's base
  pub behind-plain : (base j : ℕ) (kind : Kind) → Sits s base kind → 1 ≤ j → j < row_words kind → (k : Kind) → Sits s (base + j) k → ⊥
  behind-plain base j kind x low high k y =
      let (kinds, numbers, bases, places) = sits-part s base (base + j) j 0 kind k x y high (omega (arith, two-words k)) (omega arith) in
      omega (arith, places, low)

  pub unlocked-row : (rows : List Row) (now : List ℕ) → AreHeld rows → (base : ℕ) (kind : Kind) → Sits s base kind
      → SameRow now (unlocked_rows rows now) base kind
  unlocked-row rows now held base kind x = λ j low high. unlocked-other rows now held (base + j) (behind-plain base j kind x low high)
