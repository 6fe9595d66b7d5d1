-- The calls with some numbers.
use Rattle.orders.proofs.Common.{◌≡◌, ℕ, zero, suc, ◌<◌, List, Some, [], ◌∷◌, length, refl, sym, ap, ◌∙◌, arith, slice_get, All, All-head, All-tail}
use Rattle.orders.proofs.Common.{none-some, same_Some, slice_get_within, Operation, calls_at, slice_get-below}

-- at each place of some numbers is the call of that number
pub slice_get-calls_at : (calls : List Operation) (numbers : List ℕ) (i n : ℕ) → All (λ n. n < length calls) numbers
    → slice_get numbers i ≡ Some n
    → slice_get (calls_at calls numbers) i ≡ slice_get calls n
slice_get-calls_at calls [] i n known h = absurd (none-some n h)
slice_get-calls_at calls (m ∷ numbers) zero n known h =
    let (a, here) = slice_get-below calls m (All-head (λ n. n < length calls) m numbers known) in
    rw here (sym here ∙ ap (slice_get calls) (same_Some m n h))
slice_get-calls_at calls (m ∷ numbers) (suc i) n known h =
    let (a, here) = slice_get-below calls m (All-head (λ n. n < length calls) m numbers known) in
    rw here (slice_get-calls_at calls numbers i n (All-tail (λ n. n < length calls) m numbers known) h)

-- known numbers have as many calls
pub length-calls_at : (calls : List Operation) (numbers : List ℕ) → All (λ n. n < length calls) numbers
    → length (calls_at calls numbers) ≡ length numbers
length-calls_at calls [] known = refl
length-calls_at calls (m ∷ numbers) known =
    let (a, here) = slice_get-below calls m (All-head (λ n. n < length calls) m numbers known) in
    rw here (ap suc (length-calls_at calls numbers (All-tail (λ n. n < length calls) m numbers known)))

-- a call at a place of the calls of known numbers has a number
pub number_at : (calls : List Operation) (numbers : List ℕ) (i : ℕ) (a : Operation) → All (λ n. n < length calls) numbers
    → slice_get (calls_at calls numbers) i ≡ Some a → (n : ℕ) × (slice_get numbers i ≡ Some n) × (slice_get calls n ≡ Some a)
number_at calls numbers i a known here =
    let within : i < length numbers = omega (
      arith,
      slice_get_within (calls_at calls numbers) i a here,
      length-calls_at
          calls numbers known,
    ) in
    let (n, is) = slice_get-below numbers i within in
    (n, is, sym (slice_get-calls_at calls numbers i n known is) ∙ here)
