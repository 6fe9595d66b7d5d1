-- PUT in rows of kind 48.
use Rattle.art_schedules.proofs.Common.{◌≡◌, ℕ, ◌+◌, ◌/◌, ◌%◌, ◌<◌, ◌≤◌, List, length, refl, ap, sym, subst, ◌∙◌, ⊎_elim, arith, slice_set}
use Rattle.art_schedules.proofs.Common.{Option, cases_lt, cases_eq, same_Some, none-some, length-set, All-set, Shape, FortyEight, Child, child_of}
use Rattle.art_schedules.proofs.Common.{child_word, entries_of, entries_word, ◌>>◌, store, Setting, new_leaf, put_in, child_in, entry_slot, slot_of}
use Rattle.art_schedules.proofs.Common.{HasForm, Comes, IsStored, HasPut}
use Rattle.std.proofs.Common.{set}
use Rattle.std.specs.Prelude.{slice_index, Some, None, ◌≢◌}
use Rattle.art_schedules.proofs.alone.AloneLemmas.{then-comes, store-comes}
use Rattle.art_schedules.proofs.words.WordLemmas.{entries_back, entries_below}
use Rattle.art_schedules.proofs.writes.StoreLemmas.{small-stored, small-child, stored-at, stored-other, stored-long, with_child, child-stored}
use Rattle.art_schedules.proofs.writes.StoreLemmas.{store_child-comes}
use Rattle.art_schedules.proofs.writes.IndexLemmas.{length-entries, entries-most, entry_in, slot-entry, entry-named}

module _ (s : Shape) (base : ℕ) (words : List ℕ) (n x : ℕ) (child : Child) (stored : IsStored s child) (fits : base + 83 ≤ length words)
    (counted : slice_index words (base + 34) ≡ n) (few : n < 48) (form : HasForm words base FortyEight) (small : x < 256)
    (absent : slot_of words base FortyEight x ≡ None) where
  abbrev es : List ℕ
  es = entries_of (slice_index words (base + 2 + x / 8))

  abbrev news : List ℕ
  news = set es (x % 8) (n + 1)

  abbrev put1 : List ℕ
  put1 = with_child words (base + 35 + n) child

  abbrev put2 : List ℕ
  put2 = slice_set put1 (base + 2 + x / 8) (entries_word news)

  abbrev pub after_put48 : List ℕ
  after_put48 = slice_set put2 (base + 34) (n + 1)

  long1 : length put1 ≡ length words
  long1 = stored-long words (base + 35 + n) (child_word child)

  long2 : length put2 ≡ length words
  long2 = stored-long put1 (base + 2 + x / 8) (entries_word news) ∙ long1

  -- the words that stay
  stays : (word : ℕ) → word ≢ base + 34 → word ≢ base + 2 + x / 8 → word ≢ base + 35 + n
      → slice_index after_put48 word ≡ slice_index words word
  stays word a b c =
      stored-other put2 (base + 34) word (n + 1) a ∙ stored-other put1 (base + 2 + x / 8) word (entries_word news) b
      ∙ stored-other words (base + 35 + n) word (child_word child) c

  count_now : slice_index after_put48 (base + 34) ≡ n + 1
  count_now = stored-at put2 (base + 34) (n + 1) (omega (arith, fits, long2))

  index_now : slice_index after_put48 (base + 2 + x / 8) ≡ entries_word news
  index_now =
      stored-other put2 (base + 34) (base + 2 + x / 8) (n + 1) (λ e. omega (arith, e, small))
      ∙ stored-at put1 (base + 2 + x / 8) (entries_word news) (omega (arith, fits, long1, small))

  entries_now : entries_of (slice_index after_put48 (base + 2 + x / 8)) ≡ news
  entries_now =
      ap entries_of index_now
      ∙ entries_back news (length-set es (x % 8) (n + 1) ∙ length-entries (slice_index words (base + 2 + x / 8)))
      (All-set (λ e. e ≤ 48) es (x % 8) (n + 1) (omega (arith, few)) (entries-most (slice_index words (base + 2 + x / 8))))

  new_child : child_of s (slice_index after_put48 (base + 35 + n)) ≡ child
  new_child =
      ap (child_of s) (stored-other put2 (base + 34) (base + 35 + n) (n + 1) (λ e. omega (arith, e))
      ∙ stored-other put1 (base + 2 + x / 8) (base + 35 + n) (entries_word news) (λ e. omega (arith, e, small)))
      ∙ child-stored s words (base + 35 + n) child (omega (arith, fits, few)) stored

  entry_new : entry_in after_put48 base x ≡ n + 1
  entry_new =
      ap (λ ds. slice_index ds (x % 8)) entries_now
      ∙ stored-at es (x % 8) (n + 1) (omega (arith, length-entries (slice_index words (base + 2 + x / 8))))

  entry_old : (y : ℕ) → y < 256 → y ≢ x → entry_in after_put48 base y ≡ entry_in words base y
  entry_old y b other = ⊎_elim same apart (cases_eq (y / 8) (x / 8))
    where
      same : y / 8 ≡ x / 8 → entry_in after_put48 base y ≡ entry_in words base y
      same e =
          ap (λ k. slice_index (entries_of (slice_index after_put48 (base + 2 + k))) (y % 8)) e
          ∙ ap (λ ds. slice_index ds (y % 8)) entries_now
          ∙ stored-other es (x % 8) (y % 8) (n + 1) (λ h. other (omega (arith, e, h)))
          ∙ ap (λ k. slice_index (entries_of (slice_index words (base + 2 + k))) (y % 8)) (sym e)

      apart : y / 8 ≢ x / 8 → entry_in after_put48 base y ≡ entry_in words base y
      apart h =
          ap (λ w. slice_index (entries_of w) (y % 8))
          (stays (base + 2 + y / 8) (λ e. omega (arith, e, b)) (λ e. h (omega (arith, e))) (λ e. omega (arith, e, b)))

  slot_new : slot_of after_put48 base FortyEight x ≡ Some (base + 35 + n)
  slot_new = slot-entry after_put48 base x n entry_new

  slot_old : (y : ℕ) → y < 256 → y ≢ x → slot_of after_put48 base FortyEight y ≡ slot_of words base FortyEight y
  slot_old y b other = ap (entry_slot base) (entry_old y b other)

  below : (y i : ℕ) → y < 256 → slot_of words base FortyEight y ≡ Some (base + 35 + i) → i < n
  below y i b e = subst (λ k. i < k) counted (form.3 y i b e)

  once : (y z slot : ℕ) → y < 256 → z < 256 → slot_of after_put48 base FortyEight y ≡ Some slot
      → slot_of after_put48 base FortyEight z ≡ Some slot → y ≡ z
  once y z slot b d h k = ⊎_elim (λ e. ⊎_elim (λ f. e ∙ sym f) (λ f. absurd (clash y z b d e f h k)) (cases_eq z x))
      (λ e. ⊎_elim (λ f. absurd (clash z y d b f e k h))
      (λ f. form.1 y z slot b d (sym (slot_old y b e) ∙ h) (sym (slot_old z d f) ∙ k)) (cases_eq z x))
      (cases_eq y x)
    where
      clash : (y z : ℕ) → y < 256 → z < 256 → y ≡ x → z ≢ x → slot_of after_put48 base FortyEight y ≡ Some slot
          → slot_of after_put48 base FortyEight z ≡ Some slot → ⊥
      clash y z b d e f h k =
          let at : slot_of after_put48 base FortyEight x ≡ Some slot = subst (λ v. slot_of after_put48 base FortyEight v ≡ Some slot) e h in
          let is : base + 35 + n ≡ slot = same_Some (base + 35 + n) slot (sym slot_new ∙ at) in
          let l : n < n = below z n d (sym (slot_old z d f) ∙ k ∙ ap Some (sym is)) in
          omega (arith, l)

  each_named : (i : ℕ) → i < n + 1 → (y : ℕ) × (y < 256) × (slot_of after_put48 base FortyEight y ≡ Some (base + 35 + i))
  each_named i l = ⊎_elim before (λ h. last (omega (arith, h, l))) (cases_lt i n)
    where
      before : i < n → (y : ℕ) × (y < 256) × (slot_of after_put48 base FortyEight y ≡ Some (base + 35 + i))
      before h =
          let old = form.2 i (subst (λ k. i < k) (sym counted) h) in (
            old.0,
            old.1,
            slot_old old.0 old.1 (λ e. none-some (base + 35 + i)
                (sym absent ∙ subst (λ v. slot_of words base FortyEight v ≡ Some (base + 35 + i)) e old.2)) ∙ old.2,
          )

      last : i ≡ n → (y : ℕ) × (y < 256) × (slot_of after_put48 base FortyEight y ≡ Some (base + 35 + i))
      last e = (x, small, slot_new ∙ ap (λ k. Some (base + 35 + k)) (sym e))

  all_below : (y i : ℕ) → y < 256 → slot_of after_put48 base FortyEight y ≡ Some (base + 35 + i) → i < n + 1
  all_below y i b h = ⊎_elim
      (λ e. last (sym slot_new ∙ subst (λ v. slot_of after_put48 base FortyEight v ≡ Some (base + 35 + i)) e h))
      (λ e. let l : i < n = below y i b (sym (slot_old y b e) ∙ h) in omega (arith, l))
      (cases_eq y x)
    where
      last : Some (base + 35 + n) ≡ Some (base + 35 + i) → i < n + 1
      last e = let is : base + 35 + n ≡ base + 35 + i = same_Some (base + 35 + n) (base + 35 + i) e in omega (arith, is)

  form_now : HasForm after_put48 base FortyEight
  form_now = (
    omega (arith, count_now, few),
    once,
    λ i l. each_named i (subst (λ k. i < k) count_now l),
    λ y i b h. subst (λ k. i < k) (sym count_now) (all_below y i b h),
  )

  child_stays : (y : ℕ) → y < 256 → (o : Option ℕ) → slot_of words base FortyEight y ≡ o → child_in s after_put48 o ≡ child_in s words o
  child_stays y b None e = refl
  child_stays y b (Some slot) e =
      let named = entry-named base (entry_in words base y) slot e in
      let l : named.place < n = below y named.place b (e ∙ ap Some named.is) in
      ap (child_of s) (stays slot (λ h. omega (arith, h, named.is)) (λ h. omega (arith, h, named.is, small))
      (λ h. omega (arith, h, named.is, l)))

  pub put48 : HasPut s words after_put48 base FortyEight x child
  put48 =
      record {
        long = stored-long put2 (base + 34) (n + 1) ∙ long2;
        beside = λ word h.
            stays word (⊎_elim (λ l e. omega (arith, l, e)) (λ l e. omega (arith, l, e)) h)
            (⊎_elim (λ l e. omega (arith, l, e)) (λ l e. omega (arith, l, e, small)) h)
            (⊎_elim (λ l e. omega (arith, l, e)) (λ l e. omega (arith, l, e, few)) h);
        form = form_now;
        others = λ y b other.
            ap (child_in s after_put48) (slot_old y b other) ∙ child_stays y b (slot_of words base FortyEight y) refl;
        put = ap (child_in s after_put48) slot_new ∙ new_child;
        small = λ h short.
            small-stored put2 (base + 34) (n + 1)
            (small-stored put1 (base + 2 + x / 8) (entries_word news) (small-child words (base + 35 + n) child h short)
            (entries_below news (length-set es (x % 8) (n + 1) ∙ length-entries (slice_index words (base + 2 + x / 8)))
            (All-set (λ e. e ≤ 48) es (x % 8) (n + 1) (omega (arith, few)) (entries-most (slice_index words (base + 2 + x / 8))))))
            (omega (arith, few));
      }

pub put48-comes : (c : Setting) (base level kept : ℕ) (path words entries : List ℕ) (x n : ℕ)
    → Comes (put_in FortyEight c (record { base = base; kind = FortyEight; level = level; path = path; kept = kept }) x entries n) words tt
    (slice_set (slice_set (with_child words (base + 35 + n) (new_leaf c.call)) (base + 2 + x / 8)
    (entries_word (set entries (x % 8) (n + 1))))
    (base + 34) (n + 1))
unfolding put_in
put48-comes c base level kept path words entries x n =
    let put1 : List ℕ = with_child words (base + 35 + n) (new_leaf c.call) in
    let w : ℕ = entries_word (set entries (x % 8) (n + 1)) in
    then-comes {n = store (base + 2 + x / 8) w >> store (base + 34) (n + 1)} (store_child-comes (base + 35 + n) (new_leaf c.call) words)
    (then-comes {n = store (base + 34) (n + 1)} (store-comes (base + 2 + x / 8) w put1)
    (store-comes (base + 34) (n + 1) (slice_set put1 (base + 2 + x / 8) w)))
