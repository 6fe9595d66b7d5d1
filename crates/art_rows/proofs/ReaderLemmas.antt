-- The places of bytes in a word.
use Rattle.art_rows.proofs.Common.{◌≡◌, ℕ, zero, suc, ◌+◌, ◌-◌, ◌/◌, ◌%◌, List, [], ◌∷◌, ◌++◌, length, take, ◌≤◌, refl, ap, ◌∙◌, Bool, true, false}
use Rattle.art_rows.proofs.Common.{arith, ◌==◌, nat_le, if◌then◌else◌, Option, Some, None, low_bytes, place_of, count_of, keys16_of}
use Rattle.std.specs.Prelude.{option_map}

pub place_nowhere : (x n w : ℕ) → n ≡ 0 → place_of x (low_bytes n w) ≡ None
place_nowhere x zero w h = refl
place_nowhere x (suc n) w h = absurd (omega (arith, h))

pub place_first : (x n w : ℕ) → (n ≡ 0 → ⊥) → (w % 256 == x) ≡ true → place_of x (low_bytes n w) ≡ Some 0
place_first x zero w h e = absurd (h refl)
place_first x (suc n) w h e = ap (λ b. if b then Some 0 else option_map (λ i. i + 1) (place_of x (low_bytes n (w / 256)))) e

less : (n m : ℕ) → suc n - 1 ≡ m → n ≡ m
less n m e = omega (arith, e)

pub place_none : (x n w : ℕ) → (n ≡ 0 → ⊥) → (w % 256 == x) ≡ false → place_of x (low_bytes (n - 1) (w / 256)) ≡ None
    → place_of x (low_bytes n w) ≡ None
place_none x zero w h e p = absurd (h refl)
place_none x (suc n) w h e p =
    ap (λ b. if b then Some 0 else option_map (λ i. i + 1) (place_of x (low_bytes n (w / 256)))) e
    ∙ ap (λ k. option_map (λ i. i + 1) (place_of x (low_bytes k (w / 256)))) (less n (suc n - 1) refl)
    ∙ ap (λ o. option_map (λ i. i + 1) o) p

pub place_later : (x n w i : ℕ) → (n ≡ 0 → ⊥) → (w % 256 == x) ≡ false → place_of x (low_bytes (n - 1) (w / 256)) ≡ Some i
    → place_of x (low_bytes n w) ≡ Some (i + 1)
place_later x zero w i h e p = absurd (h refl)
place_later x (suc n) w i h e p =
    ap (λ b. if b then Some 0 else option_map (λ i. i + 1) (place_of x (low_bytes n (w / 256)))) e
    ∙ ap (λ k. option_map (λ i. i + 1) (place_of x (low_bytes k (w / 256)))) (less n (suc n - 1) refl)
    ∙ ap (λ o. option_map (λ i. i + 1) o) p

-- the place in two lists, one after the other
abbrev pub joined : Option ℕ → Option ℕ → ℕ → Option ℕ
joined (Some i) o n = Some i
joined None o n = option_map (λ i. i + n) o

pub place_append : (x : ℕ) (ys zs : List ℕ) → place_of x (ys ++ zs) ≡ joined (place_of x ys) (place_of x zs) (length ys)
place_append x [] zs = shift_none (place_of x zs)
  where
    shift_none : (o : Option ℕ) → o ≡ option_map (λ i. i + 0) o
    shift_none None = refl
    shift_none (Some i) = ap Some (omega arith)
place_append x (y ∷ ys) zs = go (y == x) (place_append x ys zs)
  where
    moved : (o p : Option ℕ) (n : ℕ) → option_map (λ i. i + 1) (joined o p n) ≡ joined (option_map (λ i. i + 1) o) p (suc n)
    moved (Some i) p n = refl
    moved None None n = refl
    moved None (Some i) n = ap Some (omega arith)

    go : (b : Bool) → place_of x (ys ++ zs) ≡ joined (place_of x ys) (place_of x zs) (length ys)
        → (if b then Some 0 else option_map (λ i. i + 1) (place_of x (ys ++ zs))) ≡ joined
        (if b then Some 0 else option_map (λ i. i + 1) (place_of x ys))
        (place_of x zs) (suc (length ys))
    go true e = refl
    go false e = ap (λ o. option_map (λ i. i + 1) o) e ∙ moved (place_of x ys) (place_of x zs) (length ys)

-- n bytes of two words
abbrev pub bytes_of : ℕ → ℕ → ℕ → List ℕ
bytes_of n a b = if nat_le n 8 then low_bytes n a else low_bytes 8 a ++ low_bytes (n - 8) b

pub take_bytes : (n a b : ℕ) → n ≤ 16 → take n (low_bytes 8 a ++ low_bytes 8 b) ≡ bytes_of n a b
take_bytes zero a b h = refl
take_bytes (suc zero) a b h = refl
take_bytes (suc (suc zero)) a b h = refl
take_bytes (suc (suc (suc zero))) a b h = refl
take_bytes (suc (suc (suc (suc zero)))) a b h = refl
take_bytes (suc (suc (suc (suc (suc zero))))) a b h = refl
take_bytes (suc (suc (suc (suc (suc (suc zero)))))) a b h = refl
take_bytes (suc (suc (suc (suc (suc (suc (suc zero))))))) a b h = refl
take_bytes (suc (suc (suc (suc (suc (suc (suc (suc zero)))))))) a b h = refl
take_bytes (suc (suc (suc (suc (suc (suc (suc (suc (suc zero))))))))) a b h = refl
take_bytes (suc (suc (suc (suc (suc (suc (suc (suc (suc (suc zero)))))))))) a b h = refl
take_bytes (suc (suc (suc (suc (suc (suc (suc (suc (suc (suc (suc zero))))))))))) a b h = refl
take_bytes (suc (suc (suc (suc (suc (suc (suc (suc (suc (suc (suc (suc zero)))))))))))) a b h = refl
take_bytes (suc (suc (suc (suc (suc (suc (suc (suc (suc (suc (suc (suc (suc zero))))))))))))) a b h = refl
take_bytes (suc (suc (suc (suc (suc (suc (suc (suc (suc (suc (suc (suc (suc (suc zero)))))))))))))) a b h = refl
take_bytes (suc (suc (suc (suc (suc (suc (suc (suc (suc (suc (suc (suc (suc (suc (suc zero))))))))))))))) a b h = refl
take_bytes (suc (suc (suc (suc (suc (suc (suc (suc (suc (suc (suc (suc (suc (suc (suc (suc zero)))))))))))))))) a b h = refl
take_bytes (suc (suc (suc (suc (suc (suc (suc (suc (suc (suc (suc (suc (suc (suc (suc (suc (suc n))))))))))))))))) a b h =
    absurd (omega (arith, h))

-- the keys of a row of kind 16, by their count
pub most_of : (count : ℕ) → count_of 16 count ≤ 16
most_of count = go (nat_le count 16) refl
  where
    go : (b : Bool) → nat_le count 16 ≡ b → (if b then count else 0) ≤ 16
    go true e = grind (arith, e)
    go false e = omega arith

pub few_keys : (x count first second n : ℕ) (o : Option ℕ) → count_of 16 count ≡ n → nat_le n 8 ≡ true → place_of x (low_bytes n first) ≡ o
    → place_of x (keys16_of count first second) ≡ o
few_keys x count first second n o e h p =
    ap (place_of x) (take_bytes (count_of 16 count) first second (most_of count))
    ∙ ap (λ k. place_of x (bytes_of k first second)) e
    ∙ ap (λ b. place_of x (if b then low_bytes n first else low_bytes 8 first ++ low_bytes (n - 8) second)) h
    ∙ p

many_keys : (x count first second n : ℕ) (o p : Option ℕ) → count_of 16 count ≡ n → nat_le n 8 ≡ false → place_of x (low_bytes 8 first) ≡ o
    → place_of x (low_bytes (n - 8) second) ≡ p → place_of x (keys16_of count first second) ≡ joined o p 8
many_keys x count first second n o p e h s t =
    ap (place_of x) (take_bytes (count_of 16 count) first second (most_of count))
    ∙ ap (λ k. place_of x (bytes_of k first second)) e
    ∙ ap (λ b. place_of x (if b then low_bytes n first else low_bytes 8 first ++ low_bytes (n - 8) second)) h
    ∙ place_append x (low_bytes 8 first) (low_bytes (n - 8) second)
    ∙ ap (λ u. joined u (place_of x (low_bytes (n - 8) second)) 8) s
    ∙ ap (λ u. joined o u 8) t

pub many_keys_first : (x count first second n i : ℕ) → count_of 16 count ≡ n → nat_le n 8 ≡ false → place_of x (low_bytes 8 first) ≡ Some i
    → place_of x (keys16_of count first second) ≡ Some i
many_keys_first x count first second n i e h s = many_keys x count first second n (Some i) _ e h s refl

pub many_keys_second : (x count first second n i : ℕ) → count_of 16 count ≡ n → nat_le n 8 ≡ false → place_of x (low_bytes 8 first) ≡ None
    → place_of x (low_bytes (n - 8) second) ≡ Some i → place_of x (keys16_of count first second) ≡ Some (i + 8)
many_keys_second x count first second n i e h s t = many_keys x count first second n None (Some i) e h s t

pub many_keys_none : (x count first second n : ℕ) → count_of 16 count ≡ n → nat_le n 8 ≡ false → place_of x (low_bytes 8 first) ≡ None
    → place_of x (low_bytes (n - 8) second) ≡ None → place_of x (keys16_of count first second) ≡ None
many_keys_none x count first second n e h s t = many_keys x count first second n None None e h s t
