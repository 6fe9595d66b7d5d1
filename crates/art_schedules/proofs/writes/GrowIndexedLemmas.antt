-- GROW from kind 16 to kind 48: the fresh row.
use Rattle.art_schedules.proofs.Common.{◌≡◌, ℕ, ◌+◌, ◌/◌, ◌%◌, ◌<◌, ◌≤◌, List, [], ◌∷◌, ◌++◌, length, refl, ap, sym, subst, ◌∙◌, ⊎_elim, inl, inr}
use Rattle.art_schedules.proofs.Common.{arith, slice_set, AllPairs, Option, same_Some, none-some, length-append, All-nil, All-cons}
use Rattle.art_schedules.proofs.Common.{All-append, All-get_or, AllPairs-cons, AllPairs-from_increasing, IsStrictlyIncreasing, AllPairs-nil}
use Rattle.art_schedules.proofs.Common.{AllPairs-append, Shape, Sixteen, FortyEight, Child, child_of, child_word, keys16_of, place_of, entries_of}
use Rattle.art_schedules.proofs.Common.{place-within, ◌>>◌, each, numbers, store, Setting, new_leaf, new_entry, store_child, store_index, fill}
use Rattle.art_schedules.proofs.Common.{child_in, entry_slot, slot_of, HasForm, Comes, IsStored, IsBeside, HasGrown}
use Rattle.std.proofs.Common.{get_or}
use Rattle.std.specs.Prelude.{◌⊎◌, slice_index, Some, None, if◌then◌else◌, ◌≢◌, option_map}
use Rattle.std.proofs.lemmas.List.{get_or_default}
use Rattle.std.proofs.lemmas.Bool.{eq-eqb, ne_eqb}
use Rattle.art_rows.proofs.ReaderLemmas.{joined, place_append}
use Rattle.art_schedules.proofs.alone.AloneLemmas.{then-comes, store-comes}
use Rattle.art_schedules.proofs.words.ByteLemmas.{AreBytes}
use Rattle.art_schedules.proofs.writes.StoreLemmas.{small-stored, small-child, stored-at, stored-other, stored-long, with_child, child-stored}
use Rattle.art_schedules.proofs.writes.StoreLemmas.{store_child-comes}
use Rattle.art_schedules.proofs.writes.CopyLemmas.{copies-small, with_copies, copies-come, copies-long, copies-other, copies-copied, IsClear}
use Rattle.art_schedules.proofs.writes.IndexLemmas.{entry_in, slot-entry, entry-named}
use Rattle.art_schedules.proofs.writes.GrowSixteenLemmas.{index-small, entry-some, entry-absent, with_index, index-comes, index-long, index-other}
use Rattle.art_schedules.proofs.writes.GrowSixteenLemmas.{index-stored, index-read, place-of_at}

module _ (s : Shape) (old base : ℕ) (words keys : List ℕ) (x : ℕ) (child : Child) (stored : IsStored s child)
    (fits : base + 83 ≤ length words)
    (apart : (old + 21 ≤ base) ⊎ (base + 83 ≤ old))
    (read : keys16_of (slice_index words (old + 4)) (slice_index words (old + 2)) (slice_index words (old + 3)) ≡ keys)
    (full : length keys ≡ 16)
    (up : IsStrictlyIncreasing keys) (bytes : AreBytes keys) (absent : place_of x keys ≡ None) (small : x < 256) where
  abbrev ks : List ℕ
  ks = keys ++ x ∷ []

  abbrev put0 : List ℕ
  put0 = with_copies s (old + 5) (λ j. base + 35 + j) 0 (length keys) words

  abbrev put1 : List ℕ
  put1 = with_child put0 (base + 35 + 16) child

  abbrev put2 : List ℕ
  put2 = with_index base ks 0 32 put1

  abbrev pub after_grow16 : List ℕ
  after_grow16 = slice_set put2 (base + 34) 17

  long0 : length put0 ≡ length words
  long0 = copies-long s (old + 5) (λ j. base + 35 + j) 0 (length keys) words

  long1 : length put1 ≡ length words
  long1 = stored-long put0 (base + 35 + 16) (child_word child) ∙ long0

  long2 : length put2 ≡ length words
  long2 = index-long base ks 0 32 put1 ∙ long1

  -- the keys
  long_keys : length ks ≡ 17
  long_keys = length-append keys (x ∷ []) ∙ omega (arith, full)

  place_new : place_of x ks ≡ Some 16
  place_new =
      place_append x keys (x ∷ [])
      ∙ ap (λ o. joined o (place_of x (x ∷ [])) (length keys)) absent
      ∙ ap (λ b. option_map (λ i. i + length keys) (if b then Some 0 else None)) (eq-eqb x x refl)
      ∙ ap Some (omega (arith, full))

  place_old : (y : ℕ) → y ≢ x → place_of y ks ≡ place_of y keys
  place_old y other =
      place_append y keys (x ∷ [])
      ∙ ap (λ b. joined (place_of y keys) (if b then Some 0 else None) (length keys)) (ne_eqb x y (λ e. other (sym e)))
      ∙ no_more (place_of y keys)
    where
      no_more : (o : Option ℕ) → joined o None (length keys) ≡ o
      no_more None = refl
      no_more (Some i) = refl

  bytes_now : AreBytes ks
  bytes_now = All-append (λ y. y < 256) keys (x ∷ []) bytes (All-cons (λ y. y < 256) x [] small (All-nil (λ y. y < 256)))

  distinct : AllPairs (λ a b. a ≢ b) ks
  distinct =
      AllPairs-append (λ a b. a ≢ b) keys (x ∷ [])
      (λ i j d l m e. omega (arith, e, AllPairs-from_increasing keys up i j d l m))
      (AllPairs-cons (λ a b. a ≢ b) x [] (All-nil (λ b. x ≢ b)) (AllPairs-nil (λ a b. a ≢ b)))
      (λ k d l. All-cons (λ b. get_or keys k d ≢ b) x [] (other k d l) (All-nil (λ b. get_or keys k d ≢ b)))
    where
      none_at : (i : ℕ) → slice_index keys i ≡ x → i < length keys → ⊥
      none_at i e l =
          none-some i (sym absent ∙ subst (λ y. place_of y keys ≡ Some i) e
          (place-of_at keys (λ i j d l m e. omega (arith, e, AllPairs-from_increasing keys up i j d l m)) i l))

      other : (k d : ℕ) → k < length keys → get_or keys k d ≢ x
      other k d l e = none_at k (get_or_default keys k 0 d l ∙ e) l

  -- the words of the fresh row
  count_now : slice_index after_grow16 (base + 34) ≡ 17
  count_now = stored-at put2 (base + 34) 17 (omega (arith, fits, long2))

  entry_now : (y : ℕ) → y < 256 → entry_in after_grow16 base y ≡ new_entry ks y
  entry_now y b =
      ap (λ w. slice_index (entries_of w) (y % 8)) (stored-other put2 (base + 34) (base + 2 + y / 8) 17 (λ e. omega (arith, e, b))
      ∙ index-stored base ks 0 32 put1 (omega (arith, fits, long1)) (y / 8) (omega arith) (omega (arith, b)))
      ∙ index-read ks y (omega (arith, long_keys))

  slot_some : (y i : ℕ) → y < 256 → place_of y ks ≡ Some i → slot_of after_grow16 base FortyEight y ≡ Some (base + 35 + i)
  slot_some y i b e = slot-entry after_grow16 base y i (entry_now y b ∙ entry-some ks y i e)

  slot_none : (y : ℕ) → y < 256 → place_of y ks ≡ None → slot_of after_grow16 base FortyEight y ≡ None
  slot_none y b e = ap (entry_slot base) (entry_now y b ∙ entry-absent ks y e)

  place_from : (y i : ℕ) → y < 256 → slot_of after_grow16 base FortyEight y ≡ Some (base + 35 + i) → place_of y ks ≡ Some i
  place_from y i b h = go (place_of y ks) refl
    where
      go : (o : Option ℕ) → place_of y ks ≡ o → o ≡ Some i
      go None e = absurd (none-some (base + 35 + i) (sym (slot_none y b e) ∙ h))
      go (Some j) e =
          let same : base + 35 + j ≡ base + 35 + i = same_Some (base + 35 + j) (base + 35 + i) (sym (slot_some y j b e) ∙ h) in
          ap Some (omega (arith, same))

  -- the children
  clear : IsClear (old + 5) (λ j. base + 35 + j) (length keys) (length words)
  clear =
      record {
        reads = λ k j l m e. ⊎_elim (λ h. omega (arith, h, e, l, full)) (λ h. omega (arith, h, e, m, full)) apart;
        once = λ k j l m e. omega (arith, e, l);
        inside = λ k l. omega (arith, fits, l, full);
      }

  behind_index : (word : ℕ) → base + 35 ≤ word → slice_index after_grow16 word ≡ slice_index put1 word
  behind_index word h = stored-other put2 (base + 34) word 17 (λ e. omega (arith, e, h))
      ∙ index-other base ks 0 32 put1 word (inr (omega (arith, h)))

  copied : (i : ℕ) → i < 16 → child_of s (slice_index after_grow16 (base + 35 + i)) ≡ child_of s (slice_index words (old + 5 + i))
  copied i l =
      ap (child_of s) (behind_index (base + 35 + i) (omega arith)
      ∙ stored-other put0 (base + 35 + 16) (base + 35 + i) (child_word child) (λ e. omega (arith, e, l)))
      ∙ copies-copied s (old + 5) (λ j. base + 35 + j) 0 (length keys) (length keys) words clear (omega arith) i (omega arith)
      (omega (arith, l, full))

  new_child : child_of s (slice_index after_grow16 (base + 35 + 16)) ≡ child
  new_child =
      ap (child_of s) (behind_index (base + 35 + 16) (omega arith))
      ∙ child-stored s put0 (base + 35 + 16) child (omega (arith, fits, long0)) stored

  -- the form of the fresh row
  once : (y z slot : ℕ) → y < 256 → z < 256 → slot_of after_grow16 base FortyEight y ≡ Some slot
      → slot_of after_grow16 base FortyEight z ≡ Some slot → y ≡ z
  once y z slot b d h k =
      let named = entry-named base (entry_in after_grow16 base y) slot h in
      let first = (place-within y ks named.place (place_from y named.place b (h ∙ ap Some named.is))).1 in
      let second = (place-within z ks named.place (place_from z named.place d (k ∙ ap Some named.is))).1 in
      sym first ∙ second

  each_named : (i : ℕ) → i < 17 → (y : ℕ) × (y < 256) × (slot_of after_grow16 base FortyEight y ≡ Some (base + 35 + i))
  each_named i l =
      let within : i < length ks = omega (arith, l, long_keys) in
      let byte : slice_index ks i < 256 = All-get_or (λ y. y < 256) ks i 0 within bytes_now in
      (slice_index ks i, byte, slot_some (slice_index ks i) i byte (place-of_at ks distinct i within))

  all_below : (y i : ℕ) → y < 256 → slot_of after_grow16 base FortyEight y ≡ Some (base + 35 + i) → i < 17
  all_below y i b h = omega (arith, (place-within y ks i (place_from y i b h)).0, long_keys)

  form_now : HasForm after_grow16 base FortyEight
  form_now = (
    omega (arith, count_now),
    once,
    λ i l. each_named i (subst (λ k. i < k) count_now l),
    λ y i b h. subst (λ k. i < k) (sym count_now) (all_below y i b h),
  )

  beside_now : (word : ℕ) → IsBeside base FortyEight word → slice_index after_grow16 word ≡ slice_index words word
  beside_now word h =
      stored-other put2 (base + 34) word 17 (⊎_elim (λ l e. omega (arith, l, e)) (λ l e. omega (arith, l, e)) h)
      ∙ index-other base ks 0 32 put1 word (⊎_elim (λ l. inl (omega (arith, l))) (λ l. inr (omega (arith, l))) h)
      ∙ stored-other put0 (base + 35 + 16) word (child_word child) (⊎_elim (λ l e. omega (arith, l, e)) (λ l e. omega (arith, l, e)) h)
      ∙ copies-other s (old + 5) (λ j. base + 35 + j) 0 (length keys) words word
      (λ j a b e. ⊎_elim (λ l. omega (arith, l, e)) (λ l. omega (arith, l, e, b, full)) h)

  other_child : (y : ℕ) → y < 256 → y ≢ x → (o : Option ℕ) → place_of y keys ≡ o
      → child_in s after_grow16 (slot_of after_grow16 base FortyEight y) ≡ child_in s words (option_map (λ i. old + 5 + i) o)
  other_child y b other None e = ap (child_in s after_grow16) (slot_none y b (place_old y other ∙ e))
  other_child y b other (Some i) e =
      ap (child_in s after_grow16) (slot_some y i b (place_old y other ∙ e)) ∙ copied i (omega (arith, (place-within y keys i e).0, full))

  pub grow16 : HasGrown s words after_grow16 old Sixteen base FortyEight x child
  grow16 =
      record {
        long = stored-long put2 (base + 34) 17 ∙ long2;
        beside = beside_now;
        form = form_now;
        others = λ y b other.
            other_child y b other (place_of y keys) refl
            ∙ ap (λ ks. child_in s words (option_map (λ i. old + 5 + i) (place_of y ks))) (sym read);
        put = ap (child_in s after_grow16) (slot_some x 16 small place_new) ∙ new_child;
        small = λ h short.
            small-stored put2 (base + 34) 17 (index-small base ks 0 32 put1 (omega (arith, long_keys))
            (small-child put0 (base + 35 + 16) child (copies-small s (old + 5) (λ j. base + 35 + j) 0 (length keys) words h)
            short)) (omega arith);
      }

pub grow16-comes : (c : Setting) (old level kept base : ℕ) (path words keys : List ℕ) (x : ℕ)
    → Comes (fill Sixteen c (record { base = old; kind = Sixteen; level = level; path = path; kept = kept }) base x keys
    (length keys)) words tt
    (slice_set (with_index base (keys ++ x ∷ []) 0 32 (with_child (with_copies c.shape (old + 5) (λ j. base + 35 + j) 0 (length keys) words)
    (base + 35 + 16) (new_leaf c.call))) (base + 34) 17)
unfolding fill
grow16-comes c old level kept base path words keys x =
    let put0 : List ℕ = with_copies c.shape (old + 5) (λ j. base + 35 + j) 0 (length keys) words in
    let put1 : List ℕ = with_child put0 (base + 35 + 16) (new_leaf c.call) in
    let put2 : List ℕ = with_index base (keys ++ x ∷ []) 0 32 put1 in
    then-comes {n = store_child (base + 35 + 16) (new_leaf c.call) >> (each (numbers 0 32) (store_index base (keys ++ x ∷ [])) >>
    store (base + 34) 17)}
    (copies-come c (old + 5) (λ j. base + 35 + j) 0 (length keys) words)
    (then-comes {n = each (numbers 0 32) (store_index base (keys ++ x ∷ [])) >> store (base + 34) 17}
    (store_child-comes (base + 35 + 16) (new_leaf c.call) put0)
    (then-comes {n = store (base + 34) 17} (index-comes base (keys ++ x ∷ []) 0 32 put1) (store-comes (base + 34) 17 put2)))
