-- Sums of mixed numbers modulo 2^64, and how they change.
use Rattle.memo.proofs.Common.{◌≡◌, ℕ, ◌+◌, ◌-◌, ◌/◌, ◌%◌, ◌^◌, ◌<◌, true, false, List, Option, None, Some, [], ◌∷◌, refl, sym, ap, ◌∙◌, subst}
use Rattle.memo.proofs.Common.{⊎_elim, arith, zero-add, ◌⊎◌, bit_xor, nat_lt, filter, Contains, sum_by, cases_order, nat_tests, mul-mod_first}
use Rattle.memo.proofs.Common.{Contains-first, Contains-later, Contents, IsRising, value_at, with_value, mix, mix_pair, mix_value, with_place}
use Rattle.std.proofs.lemmas.List.Sums.{sum_by-append, sum_by-cons}
use Rattle.map_object.specs.MapObject.{below as below_key, above as above_key}
use Rattle.memo.proofs.ValueLemmas.{with_value-is}

-- a number mixes as its rest by 2^64
pub mix-mod : (n : ℕ) → mix (n % 2 ^ 64) ≡ mix n
unfolding mix
mix-mod n = ap (λ (m : ℕ). bit_xor m (m / 2 ^ 32)) (mul-mod_first n 11400714819323198485 (2 ^ 64))

-- the digest after one more call, where pairs lost what one value adds and gained what another does
pub digest_after : (taken pairs one lost gained after digest : ℕ) → digest ≡ (taken + pairs) % 2 ^ 64 → lost < 2 ^ 64
    → after + lost ≡ pairs + gained
    → (((digest + one) % 2 ^ 64 + (2 ^ 64 - lost)) % 2 ^ 64 + gained) % 2 ^ 64 ≡ (taken + one + after) % 2 ^ 64
digest_after taken pairs one lost gained after digest is small changed = omega (arith, is, small, changed)

-- the digest after one more call that leaves the pairs as they are
pub digest_as_before : (taken pairs one digest : ℕ) → digest ≡ (taken + pairs) % 2 ^ 64
    → (digest + one) % 2 ^ 64 ≡ (taken + one + pairs) % 2 ^ 64
digest_as_before taken pairs one digest is = omega (arith, is)

-- the digest after one more call, where what all pairs add is taken off and what the others add put on
pub digest_anew : (taken pairs one after digest : ℕ) → digest ≡ (taken + pairs) % 2 ^ 64
    → (((digest + one) % 2 ^ 64 + (2 ^ 64 - pairs % 2 ^ 64)) % 2 ^ 64 + after % 2 ^ 64) % 2 ^ 64 ≡ (taken + one + after) % 2 ^ 64
digest_anew taken pairs one after digest is = omega (arith, is)

-- ---- what pairs add, where one key has another value

module _ (key : ℕ) (m : Contents) where
  sum_with_value : (value : Option ℕ) → sum_by mix_pair (with_value key value m)
      ≡ sum_by mix_pair (below_key key m) + (mix_value key value + sum_by mix_pair (above_key key m))
  sum_with_value None = sum_by-append mix_pair (below_key key m) (above_key key m)
      ∙ ap (λ (n : ℕ). sum_by mix_pair (below_key key m) + n) (sym (zero-add (sum_by mix_pair (above_key key m))))
  sum_with_value (Some value) = sum_by-append mix_pair (below_key key m) ((key, value) ∷ above_key key m)
      ∙ ap (λ (n : ℕ). sum_by mix_pair (below_key key m) + n) (sum_by-cons mix_pair (key, value) (above_key key m))

pub sum_changed : (key : ℕ) (old new : Contents) → IsRising old → IsRising new → ((k : ℕ) → (key ≡ k → ⊥) → value_at new k ≡ value_at old k)
    → sum_by mix_pair new + mix_value key (value_at old key) ≡ sum_by mix_pair old + mix_value key (value_at new key)
sum_changed key old new old_rises new_rises same =
    let by_old : sum_by mix_pair old
    ≡ sum_by mix_pair (below_key key old) + (mix_value key (value_at old key) + sum_by mix_pair (above_key key old)) =
    ap (sum_by mix_pair) (sym (with_value-is key old old old_rises old_rises (λ k other. refl))) ∙ sum_with_value key old (value_at old key) in
    let by_new : sum_by mix_pair new
    ≡ sum_by mix_pair (below_key key old) + (mix_value key (value_at new key) + sum_by mix_pair (above_key key old)) =
    ap (sum_by mix_pair) (sym (with_value-is key old new old_rises new_rises same)) ∙ sum_with_value key old (value_at new key) in
    omega (arith, by_old, by_new)

-- the numbers below and those above a number that is not in a list have the sum of all
module _ (f : ℕ → ℕ) (place : ℕ) where
  abbrev below : List ℕ → ℕ
  below xs = sum_by f (filter (λ n. nat_lt n place) xs)

  abbrev above : List ℕ → ℕ
  above xs = sum_by f (filter (λ n. nat_lt place n) xs)

  sum_apart : (xs : List ℕ) → (Contains xs place → ⊥) → below xs + above xs ≡ sum_by f xs
  sum_apart [] new = refl
  sum_apart (x ∷ xs) new =
      let rest = sum_apart xs (λ h. new (Contains-later x xs place h)) in
      ⊎_elim (λ is. absurd (new (subst (λ (y : ℕ). Contains (y ∷ xs) place) (sym is) (Contains-first place xs))))
      (λ (apart : (x < place) ⊎ (place < x)). ⊎_elim
      (λ (low : x < place). rw (lower low, not_above low, sum_by-cons f x (filter (λ n. nat_lt n place) xs), sum_by-cons f x xs)
      (omega (arith, rest)))
      (λ (high : place < x). rw (not_below high, upper high, sum_by-cons f x (filter (λ n. nat_lt place n) xs), sum_by-cons f x xs)
      (omega (arith, rest)))
      apart)
      (cases_order x place)
    where
      lower : x < place → nat_lt x place ≡ true
      lower h = grind (arith, nat_tests)

      not_above : x < place → nat_lt place x ≡ false
      not_above h = grind (arith, nat_tests)

      upper : place < x → nat_lt place x ≡ true
      upper h = grind (arith, nat_tests)

      not_below : place < x → nat_lt x place ≡ false
      not_below h = grind (arith, nat_tests)

  -- a list with one more number has the sum of the list and what the number adds
  pub sum_by-with_place : (xs : List ℕ) → (Contains xs place → ⊥) → sum_by f (with_place xs place) ≡ sum_by f xs + f place
  sum_by-with_place xs new =
      sum_by-append f (filter (λ n. nat_lt n place) xs) (place ∷ filter (λ n. nat_lt place n) xs)
      ∙ ap (λ (n : ℕ). below xs + n) (sum_by-cons f place (filter (λ n. nat_lt place n) xs))
      ∙ omega (arith, sum_apart xs new)
