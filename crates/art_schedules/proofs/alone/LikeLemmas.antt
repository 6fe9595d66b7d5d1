-- Words that differ from those of a table at rest by versions of its rows and by one slot.
use Rattle.art_schedules.proofs.Common.{◌≡◌, ◌⊎◌, inl, inr, ℕ, ◌+◌, ◌<◌, ◌≤◌, List, length, Bool, true, false, refl}
use Rattle.art_schedules.proofs.Common.{sym, ap, ◌∙◌, subst, arith, eqb-true, eqb-false, length-set, get_or-set_same, get_or-set_other, All-set}
use Rattle.art_schedules.proofs.Common.{Shape, Kind, Child, row_words, table_words, is_locked, is_obsolete, child_of, first-two, two-words}
use Rattle.art_schedules.proofs.Common.{keys-within, Reached, child_in, slot_of, HasForm, IsAtRest, SameRow, ChangesAt}
use Rattle.std.proofs.Common.{slice_set, Option, All, ◌==◌, slice_index, Some, None}
use Rattle.art_schedules.proofs.alone.PlaceLemmas.{Sits, sits-part, sits-inside, sits-kind_at}
use Rattle.art_schedules.proofs.alone.SlotLemmas.{slot-is, slot-same, form-same, SameKeys, IsChildWord}
use Rattle.art_schedules.proofs.trees.RowSlots.{one_slot}

-- the word is the version of a row that is reached: of a live one, which is unlocked unless it is held
pub record IsVersion (s : Shape) (words now : List ℕ) (held : ℕ → Type 0) (w : ℕ) : Type 0 where
  pub kind : Kind
  pub reached : Reached s words w kind
  pub live : is_obsolete (slice_index now w) ≡ false
  pub free : (held w → ⊥) → is_locked (slice_index now w) ≡ false

-- The words are those aimed at, except for versions of rows that are reached at rest.
pub record Like (s : Shape) (words target now : List ℕ) (held : ℕ → Type 0) : Type 0 where
  pub long : length now ≡ table_words s
  pub small : All (λ w. w < 18446744073709551616) now
  pub word : (w : ℕ) → (slice_index now w ≡ slice_index target w) ⊎ IsVersion s words now held w

-- nothing is held
abbrev pub Nothing : ℕ → Type 0
Nothing w = ⊥

module _ (s : Shape) (n : ℕ) (words : List ℕ) (rest : IsAtRest s n words) where
  pub sits : {base : ℕ} {kind : Kind} → Reached s words base kind → Sits s base kind
  sits {base} {kind} r = let x = rest.claimed base kind r in record { number = x.number; low = x.within; is = x.is }

  -- ---- how words come to be like those at rest

  pub like-start : (held : ℕ → Type 0) → Like s words words words held
  like-start held = record { long = rest.long; small = rest.small; word = λ w. inl refl }

  -- a row's version is set
  pub like-version : {target now : List ℕ} {held held2 : ℕ → Type 0} {base : ℕ} {kind : Kind} (new : ℕ) → Like s words target now held
      → Reached s words base kind → new < 18446744073709551616 → is_obsolete new ≡ false → ((held2 base → ⊥) → is_locked new ≡ false)
      → ((w : ℕ) → held w → (w ≡ base → ⊥) → held2 w) → Like s words target (slice_set now base new) held2
  like-version {target} {now} {held} {held2} {base} {kind} new like reached little live free keep = record {
    long = length-set now base new ∙ like.long;
    small = All-set (λ w. w < 18446744073709551616) now base new little like.small;
    word = λ w. go w (w == base) refl;
  }
    where
      inside : base < length now
      inside = omega (arith, (sits-inside s base 0 kind (sits reached) (row_words-more kind)).1, like.long)
        where
          row_words-more : (k : Kind) → 0 < row_words k
          row_words-more k = omega (arith, two-words k)

      here : slice_index (slice_set now base new) base ≡ new
      here = get_or-set_same now base new 0 inside

      other : (w : ℕ) → (w ≡ base → ⊥) → (slice_index now w ≡ slice_index target w) ⊎ IsVersion s words now held w
          → (slice_index (slice_set now base new) w ≡ slice_index target w) ⊎ IsVersion s words (slice_set now base new) held2 w
      other w ne (inl e) = inl (get_or-set_other now base w new 0 ne ∙ e)
      other w ne (inr v) =
          let same : slice_index (slice_set now base new) w ≡ slice_index now w = get_or-set_other now base w new 0 ne in
          inr (record {
            kind = v.kind;
            reached = v.reached;
            live = ap is_obsolete same ∙ v.live;
            free = λ no_one. ap is_locked same ∙ v.free (λ h. no_one (keep w h ne));
          })

      set_here : (w : ℕ) → w ≡ base → IsVersion s words (slice_set now base new) held2 w
      set_here w is = subst (λ (w : ℕ). IsVersion s words (slice_set now base new) held2 w) (sym is)
          (record { kind = kind; reached = reached; live = ap is_obsolete here ∙ live; free = λ no_one. ap is_locked here ∙ free no_one })

      go : (w : ℕ) (b : Bool) → (w == base) ≡ b
          → (slice_index (slice_set now base new) w ≡ slice_index target w) ⊎ IsVersion s words (slice_set now base new) held2 w
      go w true e = inr (set_here w (eqb-true w base e))
      go w false e = other w (eqb-false w base e) (like.word w)

  -- a word of a row that is reached, other than its version, is no version
  pub behind : {target now : List ℕ} {held : ℕ → Type 0} {base : ℕ} {kind : Kind} → Like s words target now held
      → Reached s words base kind → (j : ℕ) → 1 ≤ j
      → j < row_words kind → slice_index now (base + j) ≡ slice_index target (base + j)
  behind {target} {now} {held} {base} {kind} like reached j low high = go (like.word (base + j))
    where
      go : (slice_index now (base + j) ≡ slice_index target (base + j)) ⊎ IsVersion s words now held (base + j)
          → slice_index now (base + j) ≡ slice_index target (base + j)
      go (inl e) = e
      go (inr v) =
          let (kinds, numbers, bases, places) = sits-part s base (base + j) j 0 kind v.kind (sits reached) (sits v.reached) high
          (omega (arith, two-words v.kind)) (omega arith) in
          absurd (omega (arith, places, low))

  -- a child's word is set
  pub like-slot : {now : List ℕ} {held : ℕ → Type 0} {base slot : ℕ} {kind : Kind} (value : ℕ) → Like s words words now held
      → Reached s words base kind
      → IsChildWord base kind slot → value < 18446744073709551616
      → Like s words (slice_set words slot value) (slice_set now slot value) held
  like-slot {now} {held} {base} {slot} {kind} value like reached at little = record {
    long = length-set now slot value ∙ like.long;
    small = All-set (λ w. w < 18446744073709551616) now slot value little like.small;
    word = λ w. go w (w == slot) refl;
  }
    where
      inside : slot < table_words s
      inside = omega (arith, (sits-inside s base at.place kind (sits reached) at.high).1, at.is)

      here : slice_index (slice_set now slot value) slot ≡ slice_index (slice_set words slot value) slot
      here = get_or-set_same now slot value 0 (omega (arith, inside, like.long))
          ∙ sym (get_or-set_same words slot value 0 (omega (arith, inside, rest.long)))

      other : (w : ℕ) → (w ≡ slot → ⊥) → (slice_index now w ≡ slice_index words w) ⊎ IsVersion s words now held w
          → (slice_index (slice_set now slot value) w ≡ slice_index (slice_set words slot value) w)
          ⊎ IsVersion s words (slice_set now slot value) held w
      other w ne (inl e) = inl (get_or-set_other now slot w value 0 ne ∙ (e ∙ sym (get_or-set_other words slot w value 0 ne)))
      other w ne (inr v) =
          let same : slice_index (slice_set now slot value) w ≡ slice_index now w = get_or-set_other now slot w value 0 ne in
          inr (record {
            kind = v.kind;
            reached = v.reached;
            live = ap is_obsolete same ∙ v.live;
            free = λ no_one. ap is_locked same
                ∙ v.free no_one;
          })

      go : (w : ℕ) (b : Bool) → (w == slot) ≡ b
          → (slice_index (slice_set now slot value) w ≡ slice_index (slice_set words slot value) w)
          ⊎ IsVersion s words (slice_set now slot value) held w
      go w true e =
          inl (subst (λ (w : ℕ). slice_index (slice_set now slot value) w ≡ slice_index (slice_set words slot value) w)
          (sym (eqb-true w slot e)) here)
      go w false e = other w (eqb-false w slot e) (like.word w)

  -- ---- what they say

  pub like-row : {now : List ℕ} {held : ℕ → Type 0} {base : ℕ} {kind : Kind} → Like s words words now held → Reached s words base kind
      → SameRow words now base kind
  like-row like reached = λ j low high. behind like reached j low high

  pub like-free : {now : List ℕ} {held : ℕ → Type 0} {base : ℕ} {kind : Kind} → Like s words words now held
      → Reached s words base kind → (held base → ⊥)
      → is_locked (slice_index now base) ≡ false
  like-free {now} {held} {base} {kind} like reached no_one = go (like.word base)
    where
      go : (slice_index now base ≡ slice_index words base) ⊎ IsVersion s words now held base → is_locked (slice_index now base) ≡ false
      go (inl e) = ap is_locked e ∙ rest.unlocked base kind (sits-kind_at s base kind (sits reached))
      go (inr v) = v.free no_one

  pub like-live : {now : List ℕ} {held : ℕ → Type 0} {base : ℕ} {kind : Kind} → Like s words words now held → Reached s words base kind
      → is_obsolete (slice_index now base) ≡ false
  like-live {now} {held} {base} {kind} like reached = go (like.word base)
    where
      go : (slice_index now base ≡ slice_index words base) ⊎ IsVersion s words now held base → is_obsolete (slice_index now base) ≡ false
      go (inl e) = ap is_obsolete e ∙ rest.live base kind reached
      go (inr v) = v.live

  -- ---- what comes of the change of one slot

  module _ (later : List ℕ) (base slot value x : ℕ) (kind : Kind) (like : Like s words (slice_set words slot value) later Nothing)
      (reached : Reached s words base kind) (byte : x < 256) (at : slot_of words base kind x ≡ Some slot) where
    is-slot : IsChildWord base kind slot
    is-slot = slot-is words base kind x slot byte at

    untouched : {b : ℕ} {k : Kind} → Reached s words b k → (j : ℕ) → 1 ≤ j → j < row_words k → (b + j ≡ slot → ⊥)
        → slice_index later (b + j) ≡ slice_index words (b + j)
    untouched {b} {k} r j low high ne = behind like r j low high ∙ get_or-set_other words slot (b + j) value 0 ne

    elsewhere : {b : ℕ} {k : Kind} → Reached s words b k → (j : ℕ) → j < row_words k → b + j ≡ slot → (b ≡ base) × (j ≡ is-slot.place)
    elsewhere {b} {k} r j high e =
        let (kinds, numbers, bases, places) = sits-part s b base j is-slot.place k kind (sits r) (sits reached) high is-slot.high
        (e ∙ is-slot.is) in
        (bases, places)

    same-keys : SameKeys words later base kind
    same-keys j low high =
        untouched reached j low (keys-within kind j high) λ e. omega
        (arith, (elsewhere reached j (keys-within kind j high) e).1, is-slot.low, high)

    pub slot-changes : HasForm words base kind → (child : Child) → child_of s value ≡ child → ChangesAt s words later base kind x child
    slot-changes form child is = record {
      others = λ b k r ne j low high. untouched r j low high λ e. ne (elsewhere r j high e).0;
      info = untouched reached 1 (omega arith) (two-words kind)
          λ e. omega (arith, (elsewhere reached 1 (two-words kind) e).1, is-slot.low, first-two kind);
      form = form-same words later base kind same-keys form;
      other_bytes = λ y other ne. ap (λ o. child_in s later o) (slot-same words later base kind y other same-keys)
          ∙ kept y other ne (slot_of words base kind y) refl;
      here = ap (λ o. child_in s later o) (slot-same words later base kind x byte same-keys ∙ at) ∙ (ap (λ w. child_of s w) now ∙ is);
    }
      where
        early : 1 ≤ is-slot.place
        early = omega (arith, is-slot.low, first-two kind)

        inside : slot < length words
        inside = omega (arith, (sits-inside s base is-slot.place kind (sits reached) is-slot.high).1, is-slot.is, rest.long)

        now : slice_index later slot ≡ value
        now = ap (λ i. slice_index later i) is-slot.is ∙ (behind like reached is-slot.place early is-slot.high
            ∙ (ap (λ i. slice_index (slice_set words slot value) i) (sym is-slot.is) ∙ get_or-set_same words slot value 0 inside))

        kept : (y : ℕ) → y < 256 → (y ≡ x → ⊥) → (o : Option ℕ) → slot_of words base kind y ≡ o → child_in s later o ≡ child_in s words o
        kept y other ne None e = refl
        kept y other ne (Some t) e =
            let its = slot-is words base kind y t other e in
            ap (λ w. child_of s w) (ap (λ i. slice_index later i) its.is ∙ (untouched reached its.place
            (omega (arith, its.low, first-two kind)) its.high
            (λ is. ne (one_slot words base kind y x slot form other byte (e ∙ ap Some (its.is ∙ is)) at))
            ∙ ap (λ i. slice_index words i) (sym its.is)))
