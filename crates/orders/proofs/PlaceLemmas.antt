-- Some calls by number: an order of them by place is one by number, and back.
use Rattle.orders.proofs.Common.{◌≡◌, ℕ, zero, suc, ◌<◌, List, [], ◌∷◌, length, get_or, refl, sym, ap, ◌∙◌, subst, ⊎_elim, arith, ◌≢◌, slice_get}
use Rattle.orders.proofs.Common.{slice_index, IsTrue, IsSomeAnd, All, Contains, IsStrictlyIncreasing, cases_order, cases_eq, get_or_default, All-nil}
use Rattle.orders.proofs.Common.{All-cons, All-head, All-tail, All-map, All-contains, Contains-get_or, AllPairs-from_increasing, Operation}
use Rattle.orders.proofs.Common.{is_completed, Contents, KeepsPrecedence, IsLegal, calls_at, IsLegalOrder, IsCompletedAt, All-from_contains}
use Rattle.orders.proofs.Common.{slice_get-below, AllPairs-weaker, AllPairs-map, AllPairs-from_map, Contains-from_map}
use Rattle.std.proofs.Common.{map}
use Rattle.orders.proofs.OrderLemmas.{IsCompletedAt-below}
use Rattle.orders.proofs.CallsAtLemmas.{length-calls_at}

-- the numbers at some places
abbrev pub at_places : List ℕ → List ℕ → List ℕ
at_places numbers places = map (λ place. slice_index numbers place) places

-- at each place of the calls with known numbers is the call of the number there
pub slice_get-at_place : (calls : List Operation) (numbers : List ℕ) (place : ℕ) → All (λ n. n < length calls) numbers
    → place < length numbers
    → slice_get (calls_at calls numbers) place ≡ slice_get calls (slice_index numbers place)
slice_get-at_place calls [] place known within = absurd (omega arith)
slice_get-at_place calls (n ∷ numbers) zero known within =
    let (a, here) = slice_get-below calls n (All-head (λ n. n < length calls) n numbers known) in
    rw here refl
slice_get-at_place calls (n ∷ numbers) (suc place) known within =
    let (a, here) = slice_get-below calls n (All-head (λ n. n < length calls) n numbers known) in
    rw here (slice_get-at_place calls numbers place (All-tail (λ n. n < length calls) n numbers known) (omega arith))

-- the calls at some places are those with the numbers there
pub calls_at-at_places : (calls : List Operation) (numbers places : List ℕ) → All (λ n. n < length calls) numbers
    → All (λ place. place < length numbers) places
    → calls_at (calls_at calls numbers) places ≡ calls_at calls (at_places numbers places)
calls_at-at_places calls numbers [] known within = refl
calls_at-at_places calls numbers (place ∷ places) known within =
    let rest = calls_at-at_places calls numbers places known (All-tail (λ place. place < length numbers) place places within) in
    rw (slice_get-at_place calls numbers place known (All-head (λ place. place < length numbers) place places within), rest) refl

-- numbers that rise differ at different places
at_place-distinct : (numbers : List ℕ) (i j : ℕ) → IsStrictlyIncreasing numbers → i < length numbers → j < length numbers → i ≢ j
    → slice_index numbers i ≢ slice_index numbers j
at_place-distinct numbers i j rising i_within j_within differ same =
    let up = AllPairs-from_increasing numbers rising in
    ⊎_elim (λ equal. differ equal) (λ other. ⊎_elim
    (λ before. let less : slice_index numbers i < slice_index numbers j = up i j 0 before j_within in omega arith)
    (λ after. let less : slice_index numbers j < slice_index numbers i = up j i 0 after i_within in omega arith) other) (cases_order i j)

-- a number of a list is at one of its places
pub place_of : (numbers : List ℕ) (n : ℕ) → Contains numbers n → (place : ℕ) × (place < length numbers) × (slice_index numbers place ≡ n)
place_of numbers n h = (h.0, h.1, get_or_default numbers h.0 0 n h.1 ∙ h.2)

-- numbers of a list are at places of it
pub places_of : (numbers order : List ℕ) → All (Contains numbers) order → (places : List ℕ) × (order ≡ at_places numbers places)
    × All (λ place. place < length numbers) places
places_of numbers [] h = ([], refl, All-nil (λ place. place < length numbers))
places_of numbers (n ∷ order) h =
    let (place, within, is) = place_of numbers n (All-head (Contains numbers) n order h) in
    let (places, are, all_within) = places_of numbers order (All-tail (Contains numbers) n order h) in (
      place ∷ places,
      ap (λ m. m ∷ order) (sym is)
          ∙ ap (λ ms. slice_index numbers place ∷ ms) are,
      All-cons (λ place. place < length numbers) place places within all_within,
    )

-- the numbers at places of a list are in it
pub All-at_places : (numbers places : List ℕ) → All (λ place. place < length numbers) places
    → All (Contains numbers) (at_places numbers places)
All-at_places numbers places within =
    All-map (Contains numbers) (λ place. slice_index numbers place) places
    (λ k d below. Contains-get_or numbers (get_or places k d) 0 (within k d below))

-- a legal order by place is one by number
pub IsLegalOrder-numbers : (start : Contents) (calls : List Operation) (numbers places : List ℕ) → All (λ n. n < length calls) numbers
    → IsStrictlyIncreasing numbers
    → IsLegalOrder start (calls_at calls numbers) places → IsLegalOrder start calls (at_places numbers places)
IsLegalOrder-numbers start calls numbers places known rising h =
    let count = length-calls_at calls numbers known in
    let within : All (λ place. place < length numbers) places = rw count at h.known in
    let same = calls_at-at_places calls numbers places known within in
    record {
      known = All-from_contains (λ n. n < length calls) (at_places numbers places)
          (λ n is. All-contains (λ n. n < length calls) numbers n known
          (All-contains (Contains numbers) (at_places numbers places) n (All-at_places numbers places within) is));
      distinct =
          AllPairs-map (λ m n. m ≢ n) (λ place. slice_index numbers place) places
          (AllPairs-weaker (λ i j. i ≢ j) (λ i j. slice_index numbers i ≢ slice_index numbers j) places
          (λ i j i_is j_is differ. at_place-distinct numbers i j rising
          (All-contains (λ place. place < length numbers) places i within i_is)
          (All-contains (λ place. place < length numbers) places j within j_is) differ) h.distinct);
      precedence = subst KeepsPrecedence same h.precedence;
      legal = subst (IsLegal start) same h.legal;
    }

-- a legal order by number, of known numbers, is one by place
pub IsLegalOrder-places : (start : Contents) (calls : List Operation) (numbers places : List ℕ) → All (λ n. n < length calls) numbers
    → All (λ place. place < length numbers) places
    → IsLegalOrder start calls (at_places numbers places) → IsLegalOrder start (calls_at calls numbers) places
IsLegalOrder-places start calls numbers places known within h =
    let same = sym (calls_at-at_places calls numbers places known within) in
    record {
      known = rw (length-calls_at calls numbers known) within;
      distinct =
          AllPairs-weaker (λ i j. slice_index numbers i ≢ slice_index numbers j) (λ i j. i ≢ j) places
          (λ i j i_is j_is differ equal. differ (ap (slice_index numbers) equal))
          (AllPairs-from_map (λ m n. m ≢ n) (λ place. slice_index numbers place) places h.distinct);
      precedence = subst KeepsPrecedence same h.precedence;
      legal = subst (IsLegal start) same h.legal;
    }

-- a call that is completed by place is so by number
pub IsCompletedAt-number : (calls : List Operation) (numbers : List ℕ) (place : ℕ) → All (λ n. n < length calls) numbers
    → IsCompletedAt (calls_at calls numbers) place
    → (place < length numbers) × IsCompletedAt calls (slice_index numbers place)
IsCompletedAt-number calls numbers place known h =
    let within : place < length numbers = omega (
      arith,
      IsCompletedAt-below (calls_at calls numbers) place h,
      length-calls_at
          calls numbers known,
    ) in
    (within, subst (λ o. IsSomeAnd o (λ a. IsTrue (is_completed a))) (slice_get-at_place calls numbers place known within) h)

-- a call that is completed by number is so by place
pub IsCompletedAt-place : (calls : List Operation) (numbers : List ℕ) (place : ℕ) → All (λ n. n < length calls) numbers
    → place < length numbers
    → IsCompletedAt calls (slice_index numbers place) → IsCompletedAt (calls_at calls numbers) place
IsCompletedAt-place calls numbers place known within h =
    subst (λ o. IsSomeAnd o (λ a. IsTrue (is_completed a))) (sym (slice_get-at_place calls numbers place known within)) h

-- if the number of a place is among the numbers of some places, the place is one of them
pub Contains-place : (numbers places : List ℕ) (place : ℕ) → IsStrictlyIncreasing numbers → All (λ place. place < length numbers) places
    → place < length numbers
    → Contains (at_places numbers places) (slice_index numbers place) → Contains places place
Contains-place numbers places place rising all_within within h =
    let (other, other_is, same) = Contains-from_map (λ place. slice_index numbers place) places (slice_index numbers place) h in
    ⊎_elim (λ equal. subst (Contains places) equal other_is)
    (λ differ. absurd
    (at_place-distinct numbers other place rising (All-contains (λ place. place < length numbers) places other all_within other_is)
    within differ same))
    (cases_eq other place)
