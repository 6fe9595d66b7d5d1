-- GROW from kind 4 to kind 16.
use Rattle.art_schedules.proofs.Common.{◌≡◌, ℕ, ◌+◌, ◌<◌, ◌≤◌, List, length, ap, sym, ◌∙◌, ⊎_elim, inl, inr, arith, nat_lt, slice_set, Option}
use Rattle.art_schedules.proofs.Common.{cases_lt, IsStrictlyIncreasing, Shape, Four, Sixteen, Child, child_of, child_word, keys4_word}
use Rattle.art_schedules.proofs.Common.{keys4_of, keys16_word, more_keys16_word, keys16_of, place_of, new_place, with_key, new_place-most}
use Rattle.art_schedules.proofs.Common.{place-within, ◌>>◌, store, Setting, new_leaf, store_child, fill, child_in, Comes, IsStored, IsBeside}
use Rattle.art_schedules.proofs.Common.{HasGrown}
use Rattle.std.specs.Prelude.{◌⊎◌, slice_index, None, if◌then◌else◌, option_map}
use Rattle.art_schedules.proofs.alone.AloneLemmas.{then-comes, store-comes}
use Rattle.art_schedules.proofs.words.ByteLemmas.{keys16_below, AreBytes, keys4_back, keys16_back}
use Rattle.art_schedules.proofs.words.KeyLemmas.{All-with_key, length-with_key, increasing-with_key, place_of-new, place_of-old, moved-before}
use Rattle.art_schedules.proofs.words.KeyLemmas.{moved-behind}
use Rattle.art_schedules.proofs.writes.StoreLemmas.{small-stored, small-child, stored-at, stored-other, stored-long, with_child, child-stored}
use Rattle.art_schedules.proofs.writes.StoreLemmas.{store_child-comes}
use Rattle.art_schedules.proofs.writes.CopyLemmas.{copies-small, with_copies, copies-come, copies-long, copies-other, copies-copied, IsClear}
use Rattle.art_schedules.proofs.writes.ListedLemmas.{HaveMoved, moved-in, moved-stored, moved-new}

-- the slot of a child of the new row
abbrev pub new_slot : ℕ → ℕ → ℕ → ℕ
new_slot base p i = base + 5 + (if nat_lt i p then i else i + 1)

new_slot-is : (base p i : ℕ) → (new_slot base p i ≡ base + 5 + i) × (i < p) ⊎ (new_slot base p i ≡ base + 5 + (i + 1)) × (p ≤ i)
new_slot-is base p i = ⊎_elim
    (λ l. inl (ap (λ k. base + 5 + k) (moved-before p i l), l)) (λ l. inr (ap (λ k. base + 5 + k) (moved-behind p i l), l)) (cases_lt i p)

new_slot-low : (base p i : ℕ) → base + 5 ≤ new_slot base p i
new_slot-low base p i = ⊎_elim (λ h. omega (arith, h.0)) (λ h. omega (arith, h.0)) (new_slot-is base p i)

new_slot-high : (base p i : ℕ) → new_slot base p i ≤ base + 6 + i
new_slot-high base p i = ⊎_elim (λ h. omega (arith, h.0)) (λ h. omega (arith, h.0)) (new_slot-is base p i)

new_slot-rises : (base p i j : ℕ) → i < j → new_slot base p i < new_slot base p j
new_slot-rises base p i j l = ⊎_elim
    (λ h. ⊎_elim (λ k. omega (arith, h.0, k.0, l)) (λ k. omega (arith, h.0, k.0, l)) (new_slot-is base p j))
    (λ h. ⊎_elim (λ k. absurd (omega (arith, h.1, k.1, l))) (λ k. omega (arith, h.0, k.0, l)) (new_slot-is base p j))
    (new_slot-is base p i)

module _ (s : Shape) (old base : ℕ) (words keys : List ℕ) (x : ℕ) (child : Child) (stored : IsStored s child)
    (fits : base + 21 ≤ length words)
    (apart : (old + 7 ≤ base) ⊎ (base + 21 ≤ old)) (is : slice_index words (old + 2) ≡ keys4_word keys) (few : length keys ≤ 4)
    (up : IsStrictlyIncreasing keys) (bytes : AreBytes keys) (absent : place_of x keys ≡ None) (small : x < 256) where
  abbrev p : ℕ
  p = new_place x keys

  abbrev put0 : List ℕ
  put0 = with_copies s (old + 3) (new_slot base p) 0 (length keys) words

  abbrev put1 : List ℕ
  put1 = with_child put0 (base + 5 + p) child

  abbrev put2 : List ℕ
  put2 = slice_set put1 (base + 2) (keys16_word (with_key x keys))

  abbrev put3 : List ℕ
  put3 = slice_set put2 (base + 3) (more_keys16_word (with_key x keys))

  abbrev pub after_grow4 : List ℕ
  after_grow4 = slice_set put3 (base + 4) (length keys + 1)

  low : p ≤ length keys
  low = new_place-most x keys

  more : length (with_key x keys) ≤ 16
  more = omega (arith, length-with_key x keys, few)

  bytes_now : AreBytes (with_key x keys)
  bytes_now = All-with_key (λ y. y < 256) x keys small bytes

  long0 : length put0 ≡ length words
  long0 = copies-long s (old + 3) (new_slot base p) 0 (length keys) words

  long1 : length put1 ≡ length words
  long1 = stored-long put0 (base + 5 + p) (child_word child) ∙ long0

  long2 : length put2 ≡ length words
  long2 = stored-long put1 (base + 2) (keys16_word (with_key x keys)) ∙ long1

  long3 : length put3 ≡ length words
  long3 = stored-long put2 (base + 3) (more_keys16_word (with_key x keys)) ∙ long2

  clear : IsClear (old + 3) (new_slot base p) (length keys) (length words)
  clear =
      record {
        reads = λ k j l m e. ⊎_elim (λ h. omega (arith, h, e, new_slot-low base p j, l, few))
            (λ h. omega (arith, h, e, new_slot-high base p j, m, few)) apart;
        once = λ k j l m e. omega (arith, e, new_slot-rises base p k j l);
        inside = λ k l. omega (arith, new_slot-high base p k, fits, l, few);
      }

  copied : (i : ℕ) → i < length keys → child_of s (slice_index put0 (new_slot base p i)) ≡ child_of s (slice_index words (old + 3 + i))
  copied i l =
      copies-copied s (old + 3) (new_slot base p) 0 (length keys) (length keys) words clear (omega arith) i (omega arith) (omega (arith, l))

  moves0 : HaveMoved s words put0 (old + 3) (base + 5) p (length keys)
  moves0 =
      record {
        before = λ i b l. ap (λ k. child_of s (slice_index put0 (base + 5 + k))) (sym (moved-before p i b)) ∙ copied i l;
        behind = λ i b l. ap (λ k. child_of s (slice_index put0 (base + 5 + k))) (sym (moved-behind p i b)) ∙ copied i l;
      }

  moves : HaveMoved s words after_grow4 (old + 3) (base + 5) p (length keys)
  moves =
      moved-stored (moved-stored (moved-stored (moved-new moves0 (child_word child)) (base + 2)
      (keys16_word (with_key x keys)) (omega arith))
      (base + 3) (more_keys16_word (with_key x keys)) (omega arith)) (base + 4) (length keys + 1) (omega arith)

  first_now : slice_index after_grow4 (base + 2) ≡ keys16_word (with_key x keys)
  first_now =
      stored-other put3 (base + 4) (base + 2) (length keys + 1) (λ e. omega (arith, e))
      ∙ stored-other put2 (base + 3) (base + 2) (more_keys16_word (with_key x keys)) (λ e. omega (arith, e))
      ∙ stored-at put1 (base + 2) (keys16_word (with_key x keys)) (omega (arith, fits, long1))

  second_now : slice_index after_grow4 (base + 3) ≡ more_keys16_word (with_key x keys)
  second_now =
      stored-other put3 (base + 4) (base + 3) (length keys + 1) (λ e. omega (arith, e))
      ∙ stored-at put2 (base + 3) (more_keys16_word (with_key x keys)) (omega (arith, fits, long2))

  count_now : slice_index after_grow4 (base + 4) ≡ length (with_key x keys)
  count_now = stored-at put3 (base + 4) (length keys + 1) (omega (arith, fits, long3)) ∙ sym (length-with_key x keys)

  new_child : child_of s (slice_index after_grow4 (base + 5 + p)) ≡ child
  new_child =
      ap (child_of s) (stored-other put3 (base + 4) (base + 5 + p) (length keys + 1) (λ e. omega (arith, e))
      ∙ stored-other put2 (base + 3) (base + 5 + p) (more_keys16_word (with_key x keys)) (λ e. omega (arith, e))
      ∙ stored-other put1 (base + 2) (base + 5 + p) (keys16_word (with_key x keys)) (λ e. omega (arith, e)))
      ∙ child-stored s put0 (base + 5 + p) child (omega (arith, fits, low, few, long0)) stored

  abbrev read : List ℕ → List ℕ
  read ws = keys16_of (slice_index ws (base + 4)) (slice_index ws (base + 2)) (slice_index ws (base + 3))

  read_now : read after_grow4 ≡ with_key x keys
  read_now =
      ap (λ n. keys16_of n (slice_index after_grow4 (base + 2)) (slice_index after_grow4 (base + 3))) count_now
      ∙ ap (λ a. keys16_of (length (with_key x keys)) a (slice_index after_grow4 (base + 3))) first_now
      ∙ ap (λ b. keys16_of (length (with_key x keys)) (keys16_word (with_key x keys)) b) second_now
      ∙ keys16_back (with_key x keys) more bytes_now

  read_before : keys4_of (slice_index words (old + 2)) ≡ keys
  read_before = ap keys4_of is ∙ keys4_back keys few bytes

  abbrev hangs_now : Option ℕ → Child
  hangs_now o = child_in s after_grow4 (option_map (λ i. base + 5 + i) o)

  beside_now : (word : ℕ) → IsBeside base Sixteen word → slice_index after_grow4 word ≡ slice_index words word
  beside_now word h =
      stored-other put3 (base + 4) word (length keys + 1) (⊎_elim (λ l e. omega (arith, l, e)) (λ l e. omega (arith, l, e)) h)
      ∙ stored-other put2 (base + 3) word (more_keys16_word (with_key x keys))
      (⊎_elim (λ l e. omega (arith, l, e)) (λ l e. omega (arith, l, e)) h)
      ∙ stored-other put1 (base + 2) word (keys16_word (with_key x keys))
      (⊎_elim (λ l e. omega (arith, l, e)) (λ l e. omega (arith, l, e)) h)
      ∙ stored-other put0 (base + 5 + p) word (child_word child)
      (⊎_elim (λ l e. omega (arith, l, e)) (λ l e. omega (arith, l, e, low, few)) h)
      ∙ copies-other s (old + 3) (new_slot base p) 0 (length keys) words word
      (λ j a b e. ⊎_elim (λ l. omega (arith, l, e, new_slot-low base p j)) (λ l. omega (arith, l, e, new_slot-high base p j, b, few)) h)

  pub grow4 : HasGrown s words after_grow4 old Four base Sixteen x child
  grow4 =
      record {
        long = stored-long put3 (base + 4) (length keys + 1) ∙ long3;
        beside = beside_now;
        form = (with_key x keys, first_now, second_now, count_now, more, increasing-with_key x keys up absent, bytes_now);
        others = λ y b other.
            ap (λ ks. hangs_now (place_of y ks)) read_now
            ∙ ap hangs_now (place_of-old x y keys up other)
            ∙ moved-in moves (place_of y keys) (λ i e. (place-within y keys i e).0)
            ∙ ap (λ ks. child_in s words (option_map (λ i. old + 3 + i) (place_of y ks))) (sym read_before);
        put = ap (λ ks. hangs_now (place_of x ks)) read_now ∙ ap hangs_now (place_of-new x keys up absent) ∙ new_child;
        small = λ h short.
            small-stored put3 (base + 4) (length keys + 1)
            (small-stored put2 (base + 3) (more_keys16_word (with_key x keys))
            (small-stored put1 (base + 2) (keys16_word (with_key x keys))
            (small-child put0 (base + 5 + p) child (copies-small s (old + 3) (new_slot base p) 0 (length keys) words h) short)
            (keys16_below (with_key x keys) bytes_now).0) (keys16_below (with_key x keys) bytes_now).1) (omega (arith, few));
      }

pub grow4-comes : (c : Setting) (old level kept base : ℕ) (path words keys : List ℕ) (x : ℕ)
    → Comes (fill Four c (record { base = old; kind = Four; level = level; path = path; kept = kept }) base x keys (length keys)) words tt
    (slice_set (slice_set (slice_set (with_child (with_copies c.shape (old + 3) (new_slot base (new_place x keys)) 0 (length keys) words)
    (base + 5 + new_place x keys) (new_leaf c.call)) (base + 2) (keys16_word (with_key x keys))) (base + 3)
    (more_keys16_word (with_key x keys)))
    (base + 4) (length keys + 1))
unfolding fill
grow4-comes c old level kept base path words keys x =
    let put0 : List ℕ = with_copies c.shape (old + 3) (new_slot base (new_place x keys)) 0 (length keys) words in
    let put1 : List ℕ = with_child put0 (base + 5 + new_place x keys) (new_leaf c.call) in
    let put2 : List ℕ = slice_set put1 (base + 2) (keys16_word (with_key x keys)) in
    let put3 : List ℕ = slice_set put2 (base + 3) (more_keys16_word (with_key x keys)) in
    then-comes {n = store_child (base + 5 + new_place x keys) (new_leaf c.call) >> (store (base + 2) (keys16_word (with_key x keys))
    >> (store (base + 3) (more_keys16_word (with_key x keys)) >> store (base + 4) (length keys + 1)))}
    (copies-come c (old + 3) (new_slot base (new_place x keys)) 0 (length keys) words)
    (then-comes {n = store (base + 2) (keys16_word (with_key x keys))
    >> (store (base + 3) (more_keys16_word (with_key x keys)) >> store (base + 4) (length keys + 1))}
    (store_child-comes (base + 5 + new_place x keys) (new_leaf c.call) put0)
    (then-comes {n = store (base + 3) (more_keys16_word (with_key x keys)) >> store (base + 4) (length keys + 1)}
    (store-comes (base + 2) (keys16_word (with_key x keys)) put1)
    (then-comes {n = store (base + 4) (length keys + 1)} (store-comes (base + 3) (more_keys16_word (with_key x keys)) put2)
    (store-comes (base + 4) (length keys + 1) put3))))
