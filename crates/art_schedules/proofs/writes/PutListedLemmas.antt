-- PUT in rows of the kinds 4 and 16.
use Rattle.art_schedules.proofs.Common.{◌≡◌, ℕ, ◌+◌, ◌-◌, ◌<◌, ◌≤◌, List, length, ap, sym, ◌∙◌, ⊎_elim, inl, inr, arith, slice_set, Option}
use Rattle.art_schedules.proofs.Common.{IsStrictlyIncreasing, Shape, Four, Sixteen, Child, child_of, child_word, keys4_word, keys4_of}
use Rattle.art_schedules.proofs.Common.{keys16_word, more_keys16_word, keys16_of, place_of, new_place, with_key, new_place-most, place-within, ◌>>◌}
use Rattle.art_schedules.proofs.Common.{store, Setting, new_leaf, store_child, make_room, put_in, child_in, Comes, IsStored, IsShort, AreSmall}
use Rattle.art_schedules.proofs.Common.{IsBeside, HasPut}
use Rattle.std.specs.Prelude.{◌⊎◌, slice_index, None, option_map}
use Rattle.art_schedules.proofs.alone.AloneLemmas.{then-comes, store-comes}
use Rattle.art_schedules.proofs.words.ByteLemmas.{keys4_below, keys16_below, AreBytes, keys4_back, keys16_back}
use Rattle.art_schedules.proofs.words.KeyLemmas.{All-with_key, length-with_key, increasing-with_key, place_of-new, place_of-old}
use Rattle.art_schedules.proofs.writes.StoreLemmas.{small-stored, small-child, stored-at, stored-other, stored-long, with_child, child-stored}
use Rattle.art_schedules.proofs.writes.StoreLemmas.{store_child-comes}
use Rattle.art_schedules.proofs.writes.MoveLemmas.{room-small, with_room, room-comes, room-long, room-other}
use Rattle.art_schedules.proofs.writes.ListedLemmas.{HaveMoved, moved-in, moved-stored, moved-new, room-moves}

-- the words with room for a child at the p-th place of n, and the child there
abbrev pub with_put : Shape → ℕ → ℕ → ℕ → List ℕ → Child → List ℕ
with_put s first p n words child = with_child (with_room s first p (n - p) words) (first + p) child

pub put-long : (s : Shape) (first p n : ℕ) (words : List ℕ) (child : Child) → length (with_put s first p n words child) ≡ length words
put-long s first p n words child = stored-long (with_room s first p (n - p) words) (first + p) (child_word child)
    ∙ room-long s first p (n - p) words

pub put-other : (s : Shape) (first p n : ℕ) (words : List ℕ) (child : Child) → p ≤ n → (word : ℕ) → (word < first) ⊎ (first + n < word)
    → slice_index (with_put s first p n words child) word ≡ slice_index words word
put-other s first p n words child low word h =
    stored-other (with_room s first p (n - p) words) (first + p) word (child_word child)
    (⊎_elim (λ l e. omega (arith, l, e)) (λ l e. omega (arith, l, e, low)) h)
    ∙ room-other s first p (n - p) words word (⊎_elim (λ l. inl (omega (arith, l))) (λ l. inr (omega (arith, l, low))) h)

pub put-moved : (s : Shape) (first p n : ℕ) (words : List ℕ) (child : Child) → p ≤ n → first + n < length words
    → HaveMoved s words (with_put s first p n words child) first first p n
put-moved s first p n words child low fits = moved-new (room-moves s first p n words low fits) (child_word child)

pub put-new : (s : Shape) (first p n : ℕ) (words : List ℕ) (child : Child) → p ≤ n → first + n < length words → IsStored s child
    → child_of s (slice_index (with_put s first p n words child) (first + p)) ≡ child
put-new s first p n words child low fits h =
    child-stored s (with_room s first p (n - p) words) (first + p) child (omega (arith, low, fits, room-long s first p (n - p) words)) h

pub put-small : (s : Shape) (first p n : ℕ) (words : List ℕ) (child : Child) → AreSmall words → IsShort child
    → AreSmall (with_put s first p n words child)
put-small s first p n words child h short =
    small-child (with_room s first p (n - p) words) (first + p) child (room-small s first p (n - p) words h) short

-- Kind 4.
module _ (s : Shape) (base : ℕ) (words keys : List ℕ) (x : ℕ) (child : Child) (stored : IsStored s child) (fits : base + 7 ≤ length words)
    (is : slice_index words (base + 2) ≡ keys4_word keys) (few : length keys < 4) (up : IsStrictlyIncreasing keys) (bytes : AreBytes keys)
    (absent : place_of x keys ≡ None) (small : x < 256) where
  abbrev pub after_put4 : List ℕ
  after_put4 = slice_set (with_put s (base + 3) (new_place x keys) (length keys) words child) (base + 2) (keys4_word (with_key x keys))

  low : new_place x keys ≤ length keys
  low = new_place-most x keys

  more : length (with_key x keys) ≤ 4
  more = omega (arith, length-with_key x keys, few)

  more_bytes : AreBytes (with_key x keys)
  more_bytes = All-with_key (λ y. y < 256) x keys small bytes

  keys_now : slice_index after_put4 (base + 2) ≡ keys4_word (with_key x keys)
  keys_now =
      stored-at (with_put s (base + 3) (new_place x keys) (length keys) words child) (base + 2) (keys4_word (with_key x keys))
      (omega (arith, fits, put-long s (base + 3) (new_place x keys) (length keys) words child))

  moves : HaveMoved s words after_put4 (base + 3) (base + 3) (new_place x keys) (length keys)
  moves =
      moved-stored (put-moved s (base + 3) (new_place x keys) (length keys) words child low (omega (arith, fits, few))) (base + 2)
      (keys4_word (with_key x keys)) (omega arith)

  new_child : child_of s (slice_index after_put4 (base + 3 + new_place x keys)) ≡ child
  new_child =
      ap (child_of s) (stored-other (with_put s (base + 3) (new_place x keys) (length keys) words child) (base + 2)
      (base + 3 + new_place x keys)
      (keys4_word (with_key x keys)) (λ e. omega (arith, e)))
      ∙ put-new s (base + 3) (new_place x keys) (length keys) words child low (omega (arith, fits, few)) stored

  read_now : keys4_of (slice_index after_put4 (base + 2)) ≡ with_key x keys
  read_now = ap keys4_of keys_now ∙ keys4_back (with_key x keys) more more_bytes

  read_before : keys4_of (slice_index words (base + 2)) ≡ keys
  read_before = ap keys4_of is ∙ keys4_back keys (omega (arith, few)) bytes

  abbrev hangs : List ℕ → Option ℕ → Child
  hangs ws o = child_in s ws (option_map (λ i. base + 3 + i) o)

  pub put4 : HasPut s words after_put4 base Four x child
  put4 =
      record {
        long = stored-long (with_put s (base + 3) (new_place x keys) (length keys) words child) (base + 2) (keys4_word (with_key x keys))
            ∙ put-long s (base + 3) (new_place x keys) (length keys) words child;
        beside = λ word h.
            stored-other (with_put s (base + 3) (new_place x keys) (length keys) words child) (base + 2) word (keys4_word (with_key x keys))
            (⊎_elim (λ l e. omega (arith, l, e)) (λ l e. omega (arith, l, e)) h)
            ∙ put-other s (base + 3) (new_place x keys) (length keys) words child low word
            (⊎_elim (λ l. inl (omega (arith, l))) (λ l. inr (omega (arith, l, few))) h);
        form = (with_key x keys, keys_now, more, increasing-with_key x keys up absent, more_bytes);
        others = λ y b other.
            ap (λ ks. hangs after_put4 (place_of y ks)) read_now
            ∙ ap (hangs after_put4) (place_of-old x y keys up other)
            ∙ moved-in moves (place_of y keys) (λ i e. (place-within y keys i e).0)
            ∙ ap (λ ks. hangs words (place_of y ks)) (sym read_before);
        put = ap (λ ks. hangs after_put4 (place_of x ks)) read_now ∙ ap (hangs after_put4) (place_of-new x keys up absent) ∙ new_child;
        small = λ h short.
            small-stored (with_put s (base + 3) (new_place x keys) (length keys) words child) (base + 2) (keys4_word (with_key x keys))
            (put-small s (base + 3) (new_place x keys) (length keys) words child h short) (keys4_below (with_key x keys) more more_bytes);
      }

pub put4-comes : (c : Setting) (base level kept : ℕ) (path words keys : List ℕ) (x : ℕ)
    → Comes (put_in Four c (record { base = base; kind = Four; level = level; path = path; kept = kept }) x keys (length keys)) words tt
    (slice_set (with_put c.shape (base + 3) (new_place x keys) (length keys) words (new_leaf c.call)) (base + 2)
    (keys4_word (with_key x keys)))
unfolding put_in make_room
put4-comes c base level kept path words keys x =
    then-comes {n = store_child (base + 3 + new_place x keys) (new_leaf c.call) >> store (base + 2) (keys4_word (with_key x keys))}
    (room-comes c (base + 3) (new_place x keys) (length keys - new_place x keys) words)
    (then-comes {n = store (base + 2) (keys4_word (with_key x keys))}
    (store_child-comes (base + 3 + new_place x keys) (new_leaf c.call)
    (with_room c.shape (base + 3) (new_place x keys) (length keys - new_place x keys) words))
    (store-comes (base + 2) (keys4_word (with_key x keys))
    (with_put c.shape (base + 3) (new_place x keys) (length keys) words (new_leaf c.call))))

-- Kind 16.
module _ (s : Shape) (base : ℕ) (words keys : List ℕ) (x : ℕ) (child : Child) (stored : IsStored s child) (fits : base + 21 ≤ length words)
    (first : slice_index words (base + 2) ≡ keys16_word keys) (second : slice_index words (base + 3) ≡ more_keys16_word keys)
    (counted : slice_index words (base + 4) ≡ length keys) (few : length keys < 16) (up : IsStrictlyIncreasing keys) (bytes : AreBytes keys)
    (absent : place_of x keys ≡ None) (small : x < 256) where
  abbrev p : ℕ
  p = new_place x keys

  abbrev put1 : List ℕ
  put1 = with_put s (base + 5) p (length keys) words child

  abbrev put2 : List ℕ
  put2 = slice_set put1 (base + 2) (keys16_word (with_key x keys))

  abbrev put3 : List ℕ
  put3 = slice_set put2 (base + 3) (more_keys16_word (with_key x keys))

  abbrev pub after_put16 : List ℕ
  after_put16 = slice_set put3 (base + 4) (length keys + 1)

  low16 : p ≤ length keys
  low16 = new_place-most x keys

  more16 : length (with_key x keys) ≤ 16
  more16 = omega (arith, length-with_key x keys, few)

  bytes16 : AreBytes (with_key x keys)
  bytes16 = All-with_key (λ y. y < 256) x keys small bytes

  long1 : length put1 ≡ length words
  long1 = put-long s (base + 5) p (length keys) words child

  long2 : length put2 ≡ length words
  long2 = stored-long put1 (base + 2) (keys16_word (with_key x keys)) ∙ long1

  long3 : length put3 ≡ length words
  long3 = stored-long put2 (base + 3) (more_keys16_word (with_key x keys)) ∙ long2

  first_now : slice_index after_put16 (base + 2) ≡ keys16_word (with_key x keys)
  first_now =
      stored-other put3 (base + 4) (base + 2) (length keys + 1) (λ e. omega (arith, e))
      ∙ stored-other put2 (base + 3) (base + 2) (more_keys16_word (with_key x keys)) (λ e. omega (arith, e))
      ∙ stored-at put1 (base + 2) (keys16_word (with_key x keys)) (omega (arith, fits, long1))

  second_now : slice_index after_put16 (base + 3) ≡ more_keys16_word (with_key x keys)
  second_now =
      stored-other put3 (base + 4) (base + 3) (length keys + 1) (λ e. omega (arith, e))
      ∙ stored-at put2 (base + 3) (more_keys16_word (with_key x keys)) (omega (arith, fits, long2))

  count_now : slice_index after_put16 (base + 4) ≡ length (with_key x keys)
  count_now = stored-at put3 (base + 4) (length keys + 1) (omega (arith, fits, long3)) ∙ sym (length-with_key x keys)

  moves16 : HaveMoved s words after_put16 (base + 5) (base + 5) p (length keys)
  moves16 =
      moved-stored (moved-stored (moved-stored (put-moved s (base + 5) p (length keys) words child low16 (omega (arith, fits, few)))
      (base + 2) (keys16_word (with_key x keys)) (omega arith)) (base + 3) (more_keys16_word (with_key x keys)) (omega arith))
      (base + 4) (length keys + 1) (omega arith)

  new_child16 : child_of s (slice_index after_put16 (base + 5 + p)) ≡ child
  new_child16 =
      ap (child_of s) (stored-other put3 (base + 4) (base + 5 + p) (length keys + 1) (λ e. omega (arith, e))
      ∙ stored-other put2 (base + 3) (base + 5 + p) (more_keys16_word (with_key x keys)) (λ e. omega (arith, e))
      ∙ stored-other put1 (base + 2) (base + 5 + p) (keys16_word (with_key x keys)) (λ e. omega (arith, e)))
      ∙ put-new s (base + 5) p (length keys) words child low16 (omega (arith, fits, few)) stored

  abbrev read16 : List ℕ → List ℕ
  read16 ws = keys16_of (slice_index ws (base + 4)) (slice_index ws (base + 2)) (slice_index ws (base + 3))

  read16_now : read16 after_put16 ≡ with_key x keys
  read16_now =
      ap (λ n. keys16_of n (slice_index after_put16 (base + 2)) (slice_index after_put16 (base + 3))) count_now
      ∙ ap (λ a. keys16_of (length (with_key x keys)) a (slice_index after_put16 (base + 3))) first_now
      ∙ ap (λ b. keys16_of (length (with_key x keys)) (keys16_word (with_key x keys)) b) second_now
      ∙ keys16_back (with_key x keys) more16 bytes16

  read16_before : read16 words ≡ keys
  read16_before =
      ap (λ n. keys16_of n (slice_index words (base + 2)) (slice_index words (base + 3))) counted
      ∙ ap (λ a. keys16_of (length keys) a (slice_index words (base + 3))) first
      ∙ ap (λ b. keys16_of (length keys) (keys16_word keys) b) second
      ∙ keys16_back keys (omega (arith, few)) bytes

  abbrev hangs16 : List ℕ → Option ℕ → Child
  hangs16 ws o = child_in s ws (option_map (λ i. base + 5 + i) o)

  beside16 : (word : ℕ) → IsBeside base Sixteen word → slice_index after_put16 word ≡ slice_index words word
  beside16 word h =
      stored-other put3 (base + 4) word (length keys + 1) (⊎_elim (λ l e. omega (arith, l, e)) (λ l e. omega (arith, l, e)) h)
      ∙ stored-other put2 (base + 3) word (more_keys16_word (with_key x keys))
      (⊎_elim (λ l e. omega (arith, l, e)) (λ l e. omega (arith, l, e)) h)
      ∙ stored-other put1 (base + 2) word (keys16_word (with_key x keys))
      (⊎_elim (λ l e. omega (arith, l, e)) (λ l e. omega (arith, l, e)) h)
      ∙ put-other s (base + 5) p (length keys) words child low16 word
      (⊎_elim (λ l. inl (omega (arith, l))) (λ l. inr (omega (arith, l, few))) h)

  pub put16 : HasPut s words after_put16 base Sixteen x child
  put16 =
      record {
        long = stored-long put3 (base + 4) (length keys + 1) ∙ long3;
        beside = beside16;
        form = (with_key x keys, first_now, second_now, count_now, more16, increasing-with_key x keys up absent, bytes16);
        others = λ y b other.
            ap (λ ks. hangs16 after_put16 (place_of y ks)) read16_now
            ∙ ap (hangs16 after_put16) (place_of-old x y keys up other)
            ∙ moved-in moves16 (place_of y keys) (λ i e. (place-within y keys i e).0)
            ∙ ap (λ ks. hangs16 words (place_of y ks)) (sym read16_before);
        put = ap (λ ks. hangs16 after_put16 (place_of x ks)) read16_now
            ∙ ap (hangs16 after_put16) (place_of-new x keys up absent) ∙ new_child16;
        small = λ h short.
            small-stored put3 (base + 4) (length keys + 1)
            (small-stored put2 (base + 3) (more_keys16_word (with_key x keys))
            (small-stored put1 (base + 2) (keys16_word (with_key x keys)) (put-small s (base + 5) p (length keys) words child h short)
            (keys16_below (with_key x keys) bytes16).0) (keys16_below (with_key x keys) bytes16).1) (omega (arith, few));
      }

pub put16-comes : (c : Setting) (base level kept : ℕ) (path words keys : List ℕ) (x : ℕ)
    → Comes (put_in Sixteen c (record { base = base; kind = Sixteen; level = level; path = path; kept = kept }) x keys
    (length keys)) words tt
    (slice_set (slice_set (slice_set (with_put c.shape (base + 5) (new_place x keys) (length keys) words (new_leaf c.call))
    (base + 2) (keys16_word (with_key x keys))) (base + 3) (more_keys16_word (with_key x keys))) (base + 4) (length keys + 1))
unfolding put_in make_room
put16-comes c base level kept path words keys x =
    let put1 : List ℕ = with_put c.shape (base + 5) (new_place x keys) (length keys) words (new_leaf c.call) in
    let put2 : List ℕ = slice_set put1 (base + 2) (keys16_word (with_key x keys)) in
    let put3 : List ℕ = slice_set put2 (base + 3) (more_keys16_word (with_key x keys)) in
    then-comes {n = store_child (base + 5 + new_place x keys) (new_leaf c.call) >> (store (base + 2) (keys16_word (with_key x keys))
    >> (store (base + 3) (more_keys16_word (with_key x keys)) >> store (base + 4) (length keys + 1)))}
    (room-comes c (base + 5) (new_place x keys) (length keys - new_place x keys) words)
    (then-comes {n = store (base + 2) (keys16_word (with_key x keys))
    >> (store (base + 3) (more_keys16_word (with_key x keys)) >> store (base + 4) (length keys + 1))}
    (store_child-comes (base + 5 + new_place x keys) (new_leaf c.call)
    (with_room c.shape (base + 5) (new_place x keys) (length keys - new_place x keys) words))
    (then-comes {n = store (base + 3) (more_keys16_word (with_key x keys)) >> store (base + 4) (length keys + 1)}
    (store-comes (base + 2) (keys16_word (with_key x keys)) put1)
    (then-comes {n = store (base + 4) (length keys + 1)} (store-comes (base + 3) (more_keys16_word (with_key x keys)) put2)
    (store-comes (base + 4) (length keys + 1) put3))))
