-- Orders of a set of calls, as lists of the calls themselves: where no two calls are invoked at one place, they are the orders by number.
use Rattle.call_effects.proofs.Common.{◌≡◌, ℕ, ◌<◌, true, List, [], ◌∷◌, length, Some, refl, sym, ap, ◌∙◌, subst, IsTrue, ◌≢◌, slice_get, All, AllPairs}
use Rattle.call_effects.proofs.Common.{Contains, All-nil, All-cons, All-head, All-tail, All-contains, same_Some, slice_get_within, Operation}
use Rattle.call_effects.proofs.Common.{is_completed, same_number, Contents, after_calls, IsLegal, calls_at, KeepsPrecedence, IsLegalOrder, IsOrder}
use Rattle.call_effects.proofs.Common.{IsLinearizable, Contains-at, place_of-Contains, All-from_contains, slice_get-below, some_at, AreRelatedAs}
use Rattle.call_effects.proofs.Common.{AllPairs-filter_map, AllPairs-from_filter_map, AllPairs-weaker, Contains-filter_map, Contains-from_filter_map}
use Rattle.call_effects.specs.TimeCuts.{InvocationsRise}

-- some calls of a set, each once, with all those that must be taken, in an order that keeps precedence and is legal
pub record IsOrderOfSet (start : Contents) (In Must : Operation → Type 0) (order : List Operation) : Type 0 where
  pub known : All In order
  pub distinct : AllPairs (λ a b. a.inv ≢ b.inv) order
  pub precedence : KeepsPrecedence order
  pub legal : IsLegal start order
  pub complete : (a : Operation) → In a → Must a → Contains order a

-- the set has an order that leaves these pairs
abbrev pub HasOrderTo : Contents → (Operation → Type 0) → (Operation → Type 0) → Contents → Type 0
HasOrderTo start In Must left = (order : List Operation) × IsOrderOfSet start In Must order × (left ≡ after_calls start order)

-- which calls must be taken: the completed ones, or all
abbrev pub Completed : Operation → Type 0
Completed a = is_completed a ≡ true

-- an order by number of the calls of a list, with all those that must be taken
record IsNumberOrder (start : Contents) (calls : List Operation) (Must : Operation → Type 0) (order : List ℕ) : Type 0 where
  pub legal_order : IsLegalOrder start calls order
  pub complete : (n : ℕ) (a : Operation) → slice_get calls n ≡ Some a → Must a → Contains order n

-- calls whose invocations rise are one where they are invoked at one place
pub same_call : (calls : List Operation) (a b : Operation) → InvocationsRise calls → Contains calls a → Contains calls b
    → a.inv ≡ b.inv → a ≡ b
same_call calls a b rise a_is b_is same =
    let (m, m_here) = place_of-Contains calls a a_is in
    let (n, n_here) = place_of-Contains calls b b_is in
    same_Some a b (sym m_here ∙ (ap (slice_get calls) (same_number calls m n a b rise m_here n_here same) ∙ n_here))

-- the place of its invocation determines each call of a list
abbrev pub AreToldByPlace : List Operation → Type 0
AreToldByPlace calls =
    (m n : ℕ) (a b : Operation) → slice_get calls m ≡ Some a → slice_get calls n ≡ Some b → a.inv ≡ b.inv → m ≡ n

from_numbers : (start : Contents) (calls : List Operation) (Must : Operation → Type 0) (order : List ℕ) → AreToldByPlace calls
    → IsNumberOrder start calls Must order → IsOrderOfSet start (Contains calls) Must (calls_at calls order)
from_numbers start calls Must order told h = record {
  known = All-from_contains (Contains calls) (calls_at calls order)
      (λ a is. let found = Contains-from_filter_map (slice_get calls) order a is in Contains-at calls found.0 a found.2);
  distinct = AllPairs-filter_map (λ a b. a.inv ≢ b.inv) (slice_get calls) order
      (AllPairs-weaker (λ m n. m ≢ n) (AreRelatedAs (λ a b. a.inv ≢ b.inv) (slice_get calls)) order
      (λ m n m_is n_is differ a b first second same. differ (told m n a b first second same)) h.legal_order.distinct);
  precedence = h.legal_order.precedence;
  legal = h.legal_order.legal;
  complete = λ a is must.
      let (n, here) = place_of-Contains calls a is in Contains-filter_map (slice_get calls) order n a (h.complete n a here must) here;
}

-- the numbers of some calls of a list
numbers_of : (calls order : List Operation) → All (Contains calls) order → (numbers : List ℕ) × (calls_at calls numbers ≡ order)
    × All (λ n. n < length calls) numbers
numbers_of calls [] known = ([], refl, All-nil (λ n. n < length calls))
numbers_of calls (a ∷ order) known =
    let (n, here) = place_of-Contains calls a (All-head (Contains calls) a order known) in
    let (numbers, are, within) = numbers_of calls order (All-tail (Contains calls) a order known) in (
      n ∷ numbers,
      rw here (ap (λ (l : List Operation). a ∷ l) are),
      All-cons (λ n. n < length calls) n numbers (slice_get_within calls n a here) within,
    )

to_numbers : (start : Contents) (calls : List Operation) (Must : Operation → Type 0) (order : List Operation) → AreToldByPlace calls
    → IsOrderOfSet start (Contains calls) Must order → (numbers : List ℕ) × (calls_at calls numbers ≡ order)
    × IsNumberOrder start calls Must numbers
to_numbers start calls Must order told h =
    let (numbers, are, within) = numbers_of calls order h.known in
    let R = λ (a b : Operation). a.inv ≢ b.inv in (
      numbers,
      are,
      record {
        legal_order = record {
          known = within;
          distinct = AllPairs-weaker (AreRelatedAs R (slice_get calls)) (λ m n. m ≢ n) numbers
              (λ m n m_is n_is related same.
              let (a, here) = slice_get-below calls m (All-contains (λ n. n < length calls) numbers m within m_is) in
              related a a here (ap (slice_get calls) (sym same) ∙ here) refl)
              (AllPairs-from_filter_map R (slice_get calls) numbers (subst (AllPairs R) (sym are) h.distinct));
          precedence = subst KeepsPrecedence (sym are) h.precedence;
          legal = subst (IsLegal start) (sym are) h.legal;
        };
        complete = λ n a here must.
            let found =
            Contains-from_filter_map (slice_get calls) numbers a
            (subst (λ (l : List Operation). Contains l a) (sym are) (h.complete a (Contains-at calls n a here) must)) in
            subst (Contains numbers) (told found.0 n a a found.2 here refl) found.1;
      },
    )

-- an order of the calls of a list, as a list of them
pub as_calls : (start : Contents) (calls : List Operation) (order : List ℕ) → AreToldByPlace calls → IsOrder start calls order
    → IsOrderOfSet start (Contains calls) Completed (calls_at calls order)
as_calls start calls order told h = from_numbers start calls Completed order told (record {
  legal_order = h.legal_order;
  complete = λ n a here must. h.complete n (rw here must);
})

-- an order of the calls of a list, by number
pub as_numbers : (start : Contents) (calls order : List Operation) → AreToldByPlace calls → IsOrderOfSet start (Contains calls) Completed order
    → (numbers : List ℕ) × IsOrder start calls numbers × (calls_at calls numbers ≡ order)
as_numbers start calls order told h =
    let (numbers, are, by_number) = to_numbers start calls Completed order told h in (
      numbers,
      record {
        legal_order = by_number.legal_order;
        complete = λ n completed.
            let found = some_at (slice_get calls n) (λ a. IsTrue (is_completed a)) completed in by_number.complete n
            found.0 found.1 found.2;
      },
      are,
    )

told_by_rise : (calls : List Operation) → InvocationsRise calls → AreToldByPlace calls
told_by_rise calls rise m n a b = same_number calls m n a b rise

-- calls that have an order by number, and the set of them
pub set_from_linearizable : (start : Contents) (calls : List Operation) → InvocationsRise calls → IsLinearizable start calls
    → (left : Contents) × HasOrderTo start (Contains calls) Completed left
set_from_linearizable start calls rise (order, h) = (
  after_calls start (calls_at calls order),
  (
    calls_at calls order,
    as_calls start calls order (told_by_rise calls rise) h,
    refl,
  ),
)

pub linearizable_from_set : (start : Contents) (calls : List Operation) → InvocationsRise calls
    → (left : Contents) × HasOrderTo start (Contains calls) Completed left → IsLinearizable start calls
linearizable_from_set start calls rise (left, (order, h, is)) =
    let (numbers, by_number, are) = as_numbers start calls order (told_by_rise calls rise) h in (numbers, by_number)
