-- What holds of the calls that some numbers name.
use Rattle.orders.proofs.Common.{◌≡◌, ℕ, zero, suc, ◌<◌, ◌≤◌, true, false, List, [], ◌∷◌, length, Option, Some, None, arith, ◌≢◌, map, slice_get}
use Rattle.orders.proofs.Common.{IfSome, All, AllPairs, cons_option, list_all, and_parts, leb-true, AllPairs-from_increasing, AllPairs-filter}
use Rattle.orders.proofs.Common.{All-nil, All-cons, All-head, All-tail, All-contains, All-weaker, Call, Get, Insert, Remove, Scan, Replace, Operation}
use Rattle.orders.proofs.Common.{least, greatest, Contents, within, operation_of, operations_from, operations, precedes, low_key, high_key, calls_at}
use Rattle.orders.proofs.Common.{segment_of, NamesKeysWithin, IsSegmentView, All-from_contains, length-distinct_below, AllPairs-at, AllPairs-from_at}
use Rattle.orders.proofs.Common.{greatest_bound, least_bound, AllPairs-weaker, length-operations_le, IsStrictlyIncreasing, Event, Invoke, Answer}
use Rattle.orders.proofs.CallsAtLemmas.{length-calls_at, number_at}
use Rattle.std.proofs.lemmas.List.Sums.{length-filter, count_by-le-length}
use Rattle.events.specs.Histories.{has_range, is_shaped, AreHistoryEvents, IsHistory}
use Rattle.events.specs.HistoryView.{HistoryView}
use Rattle.events.specs.Starts.{IsStart}
use Rattle.orders.proofs.RangeLemmas.{in_range, within_bounds}
use Rattle.events.proofs.TimeLemmas.{NonePrecedesItself-operations, inv_rises}

-- what holds of each call holds of the calls with some numbers
pub All-calls_at : (P : Operation → Type 0) (calls : List Operation) (numbers : List ℕ) → All P calls → All P (calls_at calls numbers)
All-calls_at P calls [] h = All-nil P
All-calls_at P calls (n ∷ numbers) h = one_more (slice_get calls n) (at calls n h) (All-calls_at P calls numbers h)
  where
    at : (xs : List Operation) (k : ℕ) → All P xs → IfSome (slice_get xs k) P
    at [] k all = tt
    at (x ∷ xs) zero all = All-head P x xs all
    at (x ∷ xs) (suc k) all = at xs k (All-tail P x xs all)

    one_more : (o : Option Operation) → IfSome o P → All P (calls_at calls numbers) → All P (cons_option o (calls_at calls numbers))
    one_more None here rest = rest
    one_more (Some a) here rest = All-cons P a (calls_at calls numbers) here rest

has_range-operations_from : (i : ℕ) (events : List Event) → list_all is_shaped events ≡ true
    → All (λ a. has_range a.call ≡ true) (operations_from i events)
has_range-operations_from i [] h = All-nil (λ a. has_range a.call ≡ true)
has_range-operations_from i (Answer p reply ∷ events) h = has_range-operations_from (suc i) events h
has_range-operations_from i (Invoke p call ∷ events) h =
    let parts = and_parts (has_range call) (list_all is_shaped events) h in
    All-cons (λ a. has_range a.call ≡ true) (operation_of p call i events) (operations_from (suc i) events) parts.0
    (has_range-operations_from (suc i) events parts.1)

keys_in_order : (call : Call) → has_range call ≡ true → low_key call ≤ high_key call
keys_in_order (Get key) h = omega arith
keys_in_order (Insert key value) h = omega arith
keys_in_order (Remove key) h = omega arith
keys_in_order (Scan low high) h = leb-true low high h
keys_in_order (Replace key expected value) h = omega arith

-- no call of a history has its least key above its greatest
pub keys_in_order-operations : (events : List Event) → AreHistoryEvents events
    → All (λ a. low_key a.call ≤ high_key a.call) (operations events)
keys_in_order-operations events h =
    All-weaker (λ a. has_range a.call ≡ true) (λ a. low_key a.call ≤ high_key a.call) (λ a shaped. keys_in_order a.call shaped)
    (operations events)
    (has_range-operations_from 0 events h.shaped)

-- numbers below n that rise are at most n
length-rising_le : (numbers : List ℕ) (n : ℕ) → IsStrictlyIncreasing numbers → All (λ m. m < n) numbers → length numbers ≤ n
length-rising_le numbers n rising below =
    length-distinct_below numbers n
    (AllPairs-weaker (λ a b. a < b) (λ a b. a ≢ b) numbers (λ a b a_is b_is less same. absurd (omega arith))
    (AllPairs-from_increasing numbers rising)) below

-- what holds of all pairs of calls holds of those with some rising numbers
AllPairs-calls_at : (R : Operation → Operation → Type 0) (calls : List Operation) (numbers : List ℕ) → All (λ n. n < length calls) numbers
    → IsStrictlyIncreasing numbers → AllPairs R calls → AllPairs R (calls_at calls numbers)
AllPairs-calls_at R calls numbers known rising h = AllPairs-from_at R (calls_at calls numbers) (λ i j a b before first second.
    let (m, m_here, m_call) = number_at calls numbers i a known first in
    let (n, n_here, n_call) = number_at calls numbers j b known second in
    AllPairs-at R calls m n a b h (AllPairs-at (λ m n. m < n) numbers i j m n (AllPairs-from_increasing numbers rising) before m_here
    n_here) m_call n_call)

-- the pairs of a range are pairs that a history may start with, and within the range
IsStart-within : (low high : ℕ) (m : Contents) → IsStart m → IsStart (within low high m)
IsStart-within low high m h = record {
  rising = AllPairs-filter (λ (a : ℕ × ℕ) (b : ℕ × ℕ). a.0 < b.0) (λ (pair : ℕ × ℕ). in_range low high pair.0) m h.rising;
  few = omega (
    arith,
    h.few,
    length-filter (λ (pair : ℕ × ℕ). in_range low high pair.0) m,
    count_by-le-length
        (λ (pair : ℕ × ℕ). in_range low high pair.0) m,
  );
}

-- calls of a history by rising number are a segment
pub IsSegmentView-segment_of : (history : HistoryView) (numbers : List ℕ) → IsHistory history → numbers ≢ [] → IsStrictlyIncreasing numbers
    → All (λ n. n < length (operations history.events)) numbers
    → IsSegmentView (segment_of history.start (operations history.events) numbers)
IsSegmentView-segment_of history numbers h not_empty rising known =
    let events = history.events in
    let calls = operations events in
    let taken = calls_at calls numbers in
    record {
      not_empty = not_empty;
      rising = rising;
      one_call_each = length-calls_at calls numbers known;
      few = omega (
        arith,
        length-calls_at calls numbers known,
        length-rising_le numbers (length calls) rising known,
        length-operations_le events h.events,
      );
      invocations_rise = AllPairs-calls_at (λ a b. a.inv < b.inv) calls numbers known rising (inv_rises events);
      none_precedes_itself = All-calls_at (λ a. precedes a a ≡ false) calls numbers (NonePrecedesItself-operations events);
      keys = All-from_contains (λ a. NamesKeysWithin (least (map (λ a. low_key a.call) taken))
          (greatest (map (λ a. high_key a.call) taken)) a.call) taken
          (λ a here. record {
            low_within = least_bound (λ a. low_key a.call) taken a here;
            in_order =
                All-contains (λ a. low_key a.call ≤ high_key a.call) taken a
                (All-calls_at (λ a. low_key a.call ≤ high_key a.call) calls numbers (keys_in_order-operations events h.events)) here;
            high_within = greatest_bound (λ a. high_key a.call) taken a here;
          });
      start = IsStart-within (least (map (λ a. low_key a.call) taken)) (greatest (map (λ a. high_key a.call) taken)) history.start h.start;
      start_within = within_bounds (least (map (λ a. low_key a.call) taken)) (greatest (map (λ a. high_key a.call) taken)) history.start;
    }
