-- Words with a byte put in.
use Rattle.art_rows.proofs.Common.{◌≡◌, ℕ, zero, suc, ◌+◌, ◌-◌, ◌*◌, ◌/◌, ◌%◌, ◌^◌, ◌<◌, ◌≤◌, List, [], ◌∷◌, ◌++◌, length, take, drop, map, set, refl}
use Rattle.art_rows.proofs.Common.{ap, sym, subst, ◌∙◌, ⊎_elim, Bool, true, false, arith, min, nat_le, nat_lt, if◌then◌else◌, pow-suc}
use Rattle.art_rows.proofs.Common.{pow-le-pow_right, div_below, cases_lt, lt-ltb, le-ltb, le-leb, leb-true, append-nil, length-take, packed}
use Rattle.art_rows.proofs.Common.{low_bytes, new_place, with_key, count_of, entry_of, keys4_of, keys16_of, keys4_word, keys16_word, more_keys16_word}
use Rattle.art_rows.proofs.ReaderLemmas.{bytes_of, take_bytes, most_of}

-- One byte more.

pub less_one : (n : ℕ) → suc n - 1 ≡ n
less_one n = omega arith

pub byte_below : (n r b : ℕ) → (n ≡ 0 → ⊥) → b < 256 → r < 256 ^ (n - 1) → b + 256 * r < 256 ^ n
byte_below zero r b some lb lr = absurd (some refl)
byte_below (suc n) r b some lb lr =
    let less : r < 256 ^ n = subst (λ k. r < 256 ^ k) (less_one n) lr in
    omega (arith, pow-suc 256 n, less)

pub byte_fits : (n r b : ℕ) → n ≤ 7 → b < 256 → r < 256 ^ n → b + 256 * r < 2 ^ 64
byte_fits n r b few lb lr =
    let most : 256 ^ n ≤ 256 ^ 7 = pow-le-pow_right (omega arith) few in
    omega (arith, most, lr)

-- a number of few bytes
pub small : (n r : ℕ) → n ≤ 3 → r < 256 ^ n → r < 256 ^ 3
small n r few h = let most : 256 ^ n ≤ 256 ^ 3 = pow-le-pow_right (omega arith) few in omega (arith, most, h)

-- The number of bytes.

pub low_none : (n w : ℕ) → n ≡ 0 → packed (low_bytes n w) ≡ 0
low_none zero w e = refl
low_none (suc n) w e = absurd (omega (arith, e))

pub low_more : (n w r : ℕ) → (n ≡ 0 → ⊥) → r ≡ packed (low_bytes (n - 1) (w / 256)) → w % 256 + 256 * r ≡ packed (low_bytes n w)
low_more zero w r some e = absurd (some refl)
low_more (suc n) w r some e = ap (λ r. w % 256 + 256 * r) (e ∙ ap (λ k. packed (low_bytes k (w / 256))) (less_one n))

-- a number of this many bytes is its bytes
pub packed-low_bytes : (n w : ℕ) → w < 256 ^ n → packed (low_bytes n w) ≡ w
packed-low_bytes zero w h = omega arith
packed-low_bytes (suc n) w h =
    let below : w / 256 < 256 ^ n = div_below w 256 (256 ^ n) (omega arith) (omega (arith, pow-suc 256 n)) in
    ap (λ r. w % 256 + 256 * r) (packed-low_bytes n (w / 256) below) ∙ omega arith

pub length-low_bytes : (n w : ℕ) → length (low_bytes n w) ≡ n
length-low_bytes zero w = refl
length-low_bytes (suc n) w = ap suc (length-low_bytes n (w / 256))

-- Where a byte goes.

pub less_none : (x n w : ℕ) → n ≡ 0 → new_place x (low_bytes n w) ≡ 0
less_none x zero w e = refl
less_none x (suc n) w e = absurd (omega (arith, e))

new_place_more : (x n w r : ℕ) (b : Bool) → (n ≡ 0 → ⊥) → nat_lt (w % 256) x ≡ b → r ≡ new_place x (low_bytes (n - 1) (w / 256))
    → new_place x (low_bytes n w) ≡ (if b then suc r else r)
new_place_more x zero w r b some t e = absurd (some refl)
new_place_more x (suc n) w r b some t e =
    ap (λ b. if b then suc (new_place x (low_bytes n (w / 256))) else new_place x (low_bytes n (w / 256))) t
    ∙ ap (λ r. if b then suc r else r) (ap (λ k. new_place x (low_bytes k (w / 256))) (sym (less_one n)) ∙ sym e)

pub less_more : (x n w r : ℕ) → (n ≡ 0 → ⊥) → w % 256 < x → r ≡ new_place x (low_bytes (n - 1) (w / 256))
    → r + 1 ≡ new_place x (low_bytes n w)
less_more x n w r some h e = sym (new_place_more x n w r true some (lt-ltb (w % 256) x h) e ∙ omega arith)

pub less_same : (x n w r : ℕ) → (n ≡ 0 → ⊥) → x ≤ w % 256 → r ≡ new_place x (low_bytes (n - 1) (w / 256)) → r ≡ new_place x (low_bytes n w)
less_same x n w r some h e = sym (new_place_more x n w r false some (le-ltb (w % 256) x h) e)

pub new_place-append : (x : ℕ) (ys zs : List ℕ) → new_place x (ys ++ zs) ≡ new_place x ys + new_place x zs
new_place-append x [] zs = omega arith
new_place-append x (y ∷ ys) zs = go (nat_lt y x) (new_place-append x ys zs)
  where
    go : (b : Bool) → new_place x (ys ++ zs) ≡ new_place x ys + new_place x zs
        → (if b then suc (new_place x (ys ++ zs)) else new_place x (ys ++ zs)) ≡ (if b then suc (new_place x ys) else new_place x
        ys) + new_place x zs
    go true e = omega (arith, e)
    go false e = e

pub new_place-most : (x : ℕ) (ys : List ℕ) → new_place x ys ≤ length ys
new_place-most x [] = omega arith
new_place-most x (y ∷ ys) = go (nat_lt y x) (new_place-most x ys)
  where
    go : (b : Bool) → new_place x ys ≤ length ys → (if b then suc (new_place x ys) else new_place x ys) ≤ suc (length ys)
    go true h = omega arith
    go false h = omega arith

-- A byte put in at a place.

abbrev pub put_in : ℕ → ℕ → List ℕ → List ℕ
put_in x p ys = take p ys ++ x ∷ drop p ys

pub put_first : (x n w p r : ℕ) → p ≡ 0 → r ≡ packed (low_bytes n w) → x + 256 * r ≡ packed (put_in x p (low_bytes n w))
put_first x n w zero r h e = ap (λ r. x + 256 * r) e
put_first x n w (suc p) r h e = absurd (omega (arith, h))

pub put_alone : (x n w p r : ℕ) → n ≡ 0 → r ≡ packed (low_bytes n w) → x + 256 * r ≡ packed (put_in x p (low_bytes n w))
put_alone x zero w zero r h e = ap (λ r. x + 256 * r) e
put_alone x zero w (suc p) r h e = ap (λ r. x + 256 * r) e
put_alone x (suc n) w p r h e = absurd (omega (arith, h))

pub put_later : (x n w p r : ℕ) → (p ≡ 0 → ⊥) → (n ≡ 0 → ⊥) → r ≡ packed (put_in x (p - 1) (low_bytes (n - 1) (w / 256)))
    → w % 256 + 256 * r ≡ packed (put_in x p (low_bytes n w))
put_later x n w zero r some many e = absurd (some refl)
put_later x zero w (suc p) r some many e = absurd (many refl)
put_later x (suc n) w (suc p) r some many e =
    ap (λ r. w % 256 + 256 * r)
    (e ∙ (ap (λ k. packed (put_in x k (low_bytes (suc n - 1) (w / 256)))) (less_one p)
    ∙ ap (λ k. packed (put_in x p (low_bytes k (w / 256)))) (less_one n)))

-- Kind 4.

abbrev pub count4 : ℕ → ℕ
count4 w = if nat_le (w % 256) 4 then w % 256 else 0

pub keys4_as : (w : ℕ) → keys4_of w ≡ low_bytes (count4 w) (w / 256)
keys4_as w = go (nat_le (w % 256) 4)
  where
    go : (b : Bool) → (if b then low_bytes (w % 256) (w / 256) else []) ≡ low_bytes (if b then w % 256 else 0) (w / 256)
    go true = refl
    go false = refl

pub length-keys4 : (w : ℕ) → length (keys4_of w) ≡ count4 w
length-keys4 w = ap length (keys4_as w) ∙ length-low_bytes (count4 w) (w / 256)

pub keys4_from : (w n : ℕ) → n ≡ length (keys4_of w) → keys4_of w ≡ low_bytes n (w / 256)
keys4_from w n e = keys4_as w ∙ ap (λ k. low_bytes k (w / 256)) (sym (length-keys4 w) ∙ sym e)

pub length-put_in : (x p : ℕ) (ys : List ℕ) → length (put_in x p ys) ≡ length ys + 1
length-put_in x zero [] = refl
length-put_in x zero (y ∷ ys) = omega arith
length-put_in x (suc p) [] = refl
length-put_in x (suc p) (y ∷ ys) = let more = length-put_in x p ys in omega arith

-- Kind 16.

pub keys16_as : (count first second n : ℕ) → n ≡ count_of 16 count → keys16_of count first second ≡ bytes_of n first second
keys16_as count first second n e =
    take_bytes (count_of 16 count) first second (most_of count) ∙ ap (λ k. bytes_of k first second) (sym e)

pub few_bytes : (n first second : ℕ) → n ≤ 8 → bytes_of n first second ≡ low_bytes n first
few_bytes n first second h = ap (λ b. if b then low_bytes n first else low_bytes 8 first ++ low_bytes (n - 8) second) (le-leb n 8 h)

pub many_bytes : (n first second : ℕ) → 8 ≤ n → bytes_of n first second ≡ low_bytes 8 first ++ low_bytes (n - 8) second
many_bytes n first second h = go (nat_le n 8) refl
  where
    same : (k first second : ℕ) → k ≡ 8 → low_bytes k first ≡ low_bytes 8 first ++ low_bytes (k - 8) second
    same k first second e = subst (λ k. low_bytes k first ≡ low_bytes 8 first ++ low_bytes (k - 8) second) (sym e) refl

    go : (b : Bool) → nat_le n 8 ≡ b
        → (if b then low_bytes n first else low_bytes 8 first ++ low_bytes (n - 8) second) ≡ low_bytes 8 first ++ low_bytes (n - 8) second
    go true t = same n first second (omega (arith, leb-true n 8 t))
    go false t = refl

pub take_whole : (n : ℕ) (ys : List ℕ) → length ys ≤ n → take n ys ≡ ys
take_whole zero [] h = refl
take_whole zero (y ∷ ys) h = absurd (omega arith)
take_whole (suc n) [] h = refl
take_whole (suc n) (y ∷ ys) h = ap (λ zs. y ∷ zs) (take_whole n ys (omega arith))

pub drop_whole : (n : ℕ) (ys : List ℕ) → length ys ≤ n → drop n ys ≡ []
drop_whole zero [] h = refl
drop_whole zero (y ∷ ys) h = absurd (omega arith)
drop_whole (suc n) [] h = refl
drop_whole (suc n) (y ∷ ys) h = drop_whole n ys (omega arith)

-- a byte put in before the ninth: the eighth moves to the second word
pub first_eight : (x p w : ℕ) (zs : List ℕ) → p < 8 → take 8 (put_in x p (low_bytes 8 w ++ zs)) ≡ put_in x p (low_bytes 7 w)
first_eight x zero w zs h = refl
first_eight x (suc zero) w zs h = refl
first_eight x (suc (suc zero)) w zs h = refl
first_eight x (suc (suc (suc zero))) w zs h = refl
first_eight x (suc (suc (suc (suc zero)))) w zs h = refl
first_eight x (suc (suc (suc (suc (suc zero))))) w zs h = refl
first_eight x (suc (suc (suc (suc (suc (suc zero)))))) w zs h = refl
first_eight x (suc (suc (suc (suc (suc (suc (suc zero))))))) w zs h = refl
first_eight x (suc (suc (suc (suc (suc (suc (suc (suc p)))))))) w zs h = absurd (omega (arith, h))

abbrev pub eighth : ℕ → ℕ
eighth w = w / 256 / 256 / 256 / 256 / 256 / 256 / 256 % 256

pub after_eight : (x p w : ℕ) (zs : List ℕ) → p < 8 → drop 8 (put_in x p (low_bytes 8 w ++ zs)) ≡ eighth w ∷ zs
after_eight x zero w zs h = refl
after_eight x (suc zero) w zs h = refl
after_eight x (suc (suc zero)) w zs h = refl
after_eight x (suc (suc (suc zero))) w zs h = refl
after_eight x (suc (suc (suc (suc zero)))) w zs h = refl
after_eight x (suc (suc (suc (suc (suc zero))))) w zs h = refl
after_eight x (suc (suc (suc (suc (suc (suc zero)))))) w zs h = refl
after_eight x (suc (suc (suc (suc (suc (suc (suc zero))))))) w zs h = refl
after_eight x (suc (suc (suc (suc (suc (suc (suc (suc p)))))))) w zs h = absurd (omega (arith, h))

-- a byte put in after the eighth: the first word stays
pub first_stays : (x p w : ℕ) (zs : List ℕ) → 8 ≤ p → take 8 (put_in x p (low_bytes 8 w ++ zs)) ≡ low_bytes 8 w
first_stays x p w zs h = subst (λ k. take 8 (put_in x k (low_bytes 8 w ++ zs)) ≡ low_bytes 8 w) (sym (later p h)) refl
  where
    later : (p : ℕ) → 8 ≤ p → p ≡ suc (suc (suc (suc (suc (suc (suc (suc (p - 8))))))))
    later p h = omega arith

pub second_more : (x p w : ℕ) (zs : List ℕ) → 8 ≤ p → drop 8 (put_in x p (low_bytes 8 w ++ zs)) ≡ put_in x (p - 8) zs
second_more x p w zs h = subst (λ k. drop 8 (put_in x k (low_bytes 8 w ++ zs)) ≡ put_in x (p - 8) zs) (sym (later p h)) refl
  where
    later : (p : ℕ) → 8 ≤ p → p ≡ suc (suc (suc (suc (suc (suc (suc (suc (p - 8))))))))
    later p h = omega arith

pub take_low : (m n w : ℕ) → take m (low_bytes n w) ≡ low_bytes (min n m) w
take_low zero zero w = refl
take_low zero (suc n) w = ap (λ k. low_bytes k w) none
  where
    none : 0 ≡ min (suc n) 0
    none = omega arith
take_low (suc m) zero w = ap (λ k. low_bytes k w) none
  where
    none : 0 ≡ min 0 (suc m)
    none = omega arith
take_low (suc m) (suc n) w = ap (λ ys. w % 256 ∷ ys) (take_low m n (w / 256)) ∙ ap (λ k. low_bytes k w) (one_more n m)
  where
    one_more : (n m : ℕ) → suc (min n m) ≡ min (suc n) (suc m)
    one_more n m = omega arith

-- the first eight with a byte put in among them
pub put_low : (x p n w : ℕ) → n ≤ 8 → p < 8 → take 8 (put_in x p (low_bytes n w)) ≡ put_in x p (low_bytes (min n 7) w)
put_low x p n w few before = ⊎_elim full room (cases_lt 7 n)
  where
    full : 7 < n → take 8 (put_in x p (low_bytes n w)) ≡ put_in x p (low_bytes (min n 7) w)
    full h =
        ap (λ k. take 8 (put_in x p (low_bytes k w))) eight
        ∙ (ap (λ ys. take 8 (put_in x p ys)) (sym (append-nil (low_bytes 8 w)))
        ∙ (first_eight x p w [] before ∙ ap (λ k. put_in x p (low_bytes k w)) seven))
      where
        eight : n ≡ 8
        eight = omega (arith, h, few)

        seven : 7 ≡ min n 7
        seven = omega (arith, h)

    room : n ≤ 7 → take 8 (put_in x p (low_bytes n w)) ≡ put_in x p (low_bytes (min n 7) w)
    room h =
        take_whole 8 (put_in x p (low_bytes n w)) (omega (arith, length-put_in x p (low_bytes n w), length-low_bytes n w, h))
        ∙ ap (λ k. put_in x p (low_bytes k w)) same
      where
        same : n ≡ min n 7
        same = omega (arith, h)

pub length-keys16 : (count first second : ℕ) → length (keys16_of count first second) ≤ count_of 16 count
length-keys16 count first second = rw length-take (omega arith)

-- What the words of the kinds 4 and 16 become.

pub count4_within : (w : ℕ) → w % 256 ≤ 4 → w % 256 ≡ length (keys4_of w)
count4_within w h = sym (length-keys4 w ∙ within)
  where
    within : count4 w ≡ w % 256
    within = grind (arith, h)

pub place4 : (x w n r : ℕ) → n ≡ length (keys4_of w) → r ≡ new_place x (low_bytes n (w / 256)) → r ≡ new_place x (keys4_of w)
place4 x w n r e h = h ∙ ap (new_place x) (sym (keys4_from w n e))

pub bytes4_with : (x w n p r : ℕ) → n ≡ length (keys4_of w) → p ≡ new_place x (keys4_of w) → r ≡ packed (put_in x p (low_bytes n (w / 256)))
    → r ≡ packed (with_key x (keys4_of w))
bytes4_with x w n p r e at h =
    h ∙ (ap (λ q. packed (put_in x q (low_bytes n (w / 256)))) at
    ∙ ap (λ ys. packed (put_in x (new_place x (keys4_of w)) ys)) (sym (keys4_from w n e)))

pub power_most : (n r : ℕ) → n ≤ 4 → r < 256 ^ (n + 1) → r < 256 ^ 5
power_most n r few h = let most : 256 ^ (n + 1) ≤ 256 ^ 5 =
    pow-le-pow_right {n = 256} (omega arith) {i = n + 1} {j = 5} (omega (arith, few)) in omega (arith, most, h)

pub word4_with : (x w n r : ℕ) → n ≡ length (keys4_of w) → r ≡ packed (with_key x (keys4_of w))
    → n + 1 + 256 * r ≡ keys4_word (with_key x (keys4_of w))
word4_with x w n r e h =
    ap (λ r. n + 1 + 256 * r) h
    ∙ ap (λ k. k + 256 * packed (with_key x (keys4_of w)))
    (ap (λ k. k + 1) e ∙ sym (length-put_in x (new_place x (keys4_of w)) (keys4_of w)))

pub place16_few : (x count first second n r : ℕ) → n ≡ count_of 16 count → n ≤ 8 → r ≡ new_place x (low_bytes n first)
    → r ≡ new_place x (keys16_of count first second)
place16_few x count first second n r e h is = is ∙ sym (ap (new_place x) (keys16_as count first second n e ∙ few_bytes n first second h))

pub place16_many : (x count first second n r q : ℕ) → n ≡ count_of 16 count → 8 ≤ n → r ≡ new_place x (low_bytes 8 first)
    → q ≡ new_place x (low_bytes (n - 8) second)
    → r + q ≡ new_place x (keys16_of count first second)
place16_many x count first second n r q e h is more =
    ap (λ r. r + q) is
    ∙ (ap (λ q. new_place x (low_bytes 8 first) + q) more
    ∙ sym (ap (new_place x) (keys16_as count first second n e ∙ many_bytes n first second h)
    ∙ new_place-append x (low_bytes 8 first) (low_bytes (n - 8) second)))

with16 : (x p : ℕ) (keys ys : List ℕ) → keys ≡ ys → p ≡ new_place x keys → with_key x keys ≡ put_in x p ys
with16 x p keys ys e at = ap (λ q. put_in x q keys) (sym at) ∙ ap (put_in x p) e

module _ (x count first second n p r : ℕ) (e : n ≡ count_of 16 count) (at : p ≡ new_place x (keys16_of count first second)) where
  few_with : n < 8 → with_key x (keys16_of count first second) ≡ put_in x p (low_bytes n first)
  few_with h = with16 x p (keys16_of count first second) (low_bytes n first) (keys16_as count first second n e ∙ few_bytes n first second
      (omega (arith, h))) at

  many_with : 8 ≤ n → with_key x (keys16_of count first second) ≡ put_in x p (low_bytes 8 first ++ low_bytes (n - 8) second)
  many_with h =
      with16 x p (keys16_of count first second) (low_bytes 8 first ++ low_bytes (n - 8) second)
      (keys16_as count first second n e ∙ many_bytes n first second h) at

  short : n < 8 → length (put_in x p (low_bytes n first)) ≤ 8
  short h = omega (arith, length-put_in x p (low_bytes n first), length-low_bytes n first, h)

  pub first_few : n < 8 → r ≡ packed (put_in x p (low_bytes n first)) → r ≡ keys16_word (with_key x (keys16_of count first second))
  first_few h is = is ∙ sym (ap packed (ap (take 8) (few_with h) ∙ take_whole 8 (put_in x p (low_bytes n first)) (short h)))

  pub second_few : n < 8 → 0 ≡ more_keys16_word (with_key x (keys16_of count first second))
  second_few h = sym (ap (λ ys. packed (take 8 ys)) (ap (drop 8) (few_with h) ∙ drop_whole 8 (put_in x p (low_bytes n first)) (short h)))

  pub first_many : 8 ≤ n → p < 8 → r ≡ packed (put_in x p (low_bytes 7 first)) → r ≡ keys16_word (with_key x (keys16_of count first second))
  first_many h before is = is ∙ sym (ap packed (ap (take 8) (many_with h) ∙ first_eight x p first (low_bytes (n - 8) second) before))

  pub second_many : 8 ≤ n → p < 8 → r ≡ packed (low_bytes (min (n - 8) 7) second)
      → eighth first + 256 * r ≡ more_keys16_word (with_key x (keys16_of count first second))
  second_many h before is =
      ap (λ r. eighth first + 256 * r) (is ∙ ap packed (sym (take_low 7 (n - 8) second)))
      ∙ sym (ap (λ ys. packed (take 8 ys)) (ap (drop 8) (many_with h) ∙ after_eight x p first (low_bytes (n - 8) second) before))

  pub first_kept : 8 ≤ n → 8 ≤ p → first < 2 ^ 64 → first ≡ keys16_word (with_key x (keys16_of count first second))
  first_kept h behind fits =
      sym (ap packed (ap (take 8) (many_with h) ∙ first_stays x p first (low_bytes (n - 8) second) behind) ∙ packed-low_bytes 8 first fits)

  few_more : n ≤ 16
  few_more = omega (arith, e, most_of count)

  place_most : p ≤ n
  place_most = omega (arith, at, new_place-most x (keys16_of count first second), length-keys16 count first second, e)

  pub second_put : 8 ≤ n → 8 ≤ p → p < 16 → r ≡ packed (put_in x (p - 8) (low_bytes (min (n - 8) 7) second))
      → r ≡ more_keys16_word (with_key x (keys16_of count first second))
  second_put h behind before is =
      is ∙ (ap packed (sym (put_low x (p - 8) (n - 8) second (omega (arith, few_more)) (omega (arith, before))))
      ∙ sym (ap (λ ys. packed (take 8 ys)) (ap (drop 8) (many_with h) ∙ second_more x p first (low_bytes (n - 8) second) behind)))

  pub second_kept : 8 ≤ n → 16 ≤ p → second < 2 ^ 64 → second ≡ more_keys16_word (with_key x (keys16_of count first second))
  second_kept h behind fits =
      sym (ap (λ ys. packed (take 8 ys)) (ap (drop 8) (many_with h) ∙ second_more x p first (low_bytes (n - 8) second)
      (omega (arith, behind)))
      ∙ (ap (λ k. packed (take 8 (put_in x (p - 8) (low_bytes k second)))) eight
      ∙ (ap (λ k. packed (take 8 (put_in x k (low_bytes 8 second)))) last ∙ packed-low_bytes 8 second fits)))
    where
      eight : n - 8 ≡ 8
      eight = omega (arith, few_more, place_most, behind)

      last : p - 8 ≡ 8
      last = omega (arith, few_more, place_most, behind)

-- Entries.

pub entries_none : (n w : ℕ) → n ≡ 0 → packed (map entry_of (low_bytes n w)) ≡ 0
entries_none zero w e = refl
entries_none (suc n) w e = absurd (omega (arith, e))

pub entries_more : (n w r : ℕ) → (n ≡ 0 → ⊥) → r ≡ packed (map entry_of (low_bytes (n - 1) (w / 256)))
    → entry_of (w % 256) + 256 * r ≡ packed (map entry_of (low_bytes n w))
entries_more zero w r some e = absurd (some refl)
entries_more (suc n) w r some e = ap (λ r. entry_of (w % 256) + 256 * r)
    (e ∙ ap (λ k. packed (map entry_of (low_bytes k (w / 256)))) (less_one n))

pub set_none : (n w p e : ℕ) → n ≡ 0 → packed (set (map entry_of (low_bytes n w)) p e) ≡ 0
set_none zero w zero e h = refl
set_none zero w (suc p) e h = refl
set_none (suc n) w p e h = absurd (omega (arith, h))

pub set_first : (n w p e r : ℕ) → (n ≡ 0 → ⊥) → p ≡ 0 → r ≡ packed (map entry_of (low_bytes (n - 1) (w / 256)))
    → e + 256 * r ≡ packed (set (map entry_of (low_bytes n w)) p e)
set_first zero w p e r some h is = absurd (some refl)
set_first (suc n) w zero e r some h is = ap (λ r. e + 256 * r) (is ∙ ap (λ k. packed (map entry_of (low_bytes k (w / 256)))) (less_one n))
set_first (suc n) w (suc p) e r some h is = absurd (omega (arith, h))

pub set_later : (n w p e r : ℕ) → (n ≡ 0 → ⊥) → (p ≡ 0 → ⊥) → r ≡ packed (set (map entry_of (low_bytes (n - 1) (w / 256))) (p - 1) e)
    → entry_of (w % 256) + 256 * r ≡ packed (set (map entry_of (low_bytes n w)) p e)
set_later zero w p e r some h is = absurd (some refl)
set_later (suc n) w zero e r some h is = absurd (h refl)
set_later (suc n) w (suc p) e r some h is =
    ap (λ r. entry_of (w % 256) + 256 * r)
    (is ∙ (ap (λ k. packed (set (map entry_of (low_bytes (suc n - 1) (w / 256))) k e)) (less_one p)
    ∙ ap (λ k. packed (set (map entry_of (low_bytes k (w / 256))) p e)) (less_one n)))
