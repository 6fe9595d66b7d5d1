-- Laws of fronts, and how fronts and orders are tied.
use Rattle.std.proofs.Common.{◌≡◌, ℕ, ◌<◌, ◌≤◌, true, false, List, Some, None, [], ◌∷◌, ◌++◌, length, Option, refl, sym, ap, ◌∙◌, subst}
use Rattle.std.proofs.Common.{⊎_elim, arith}
use Rattle.std.specs.Prelude.{◌≢◌, is_some, slice_get, IsTrue, IsSomeAnd, All, Contains}
use Rattle.std.specs.List.{cons_option}
use Rattle.std.proofs.lemmas.Bool.{false_from_ne_true, both_ways, cases_order}
use Rattle.std.proofs.lemmas.List.{get_or_default, take-append-le, take_at}
use Rattle.std.proofs.lemmas.List.Elements.{All-nil, All-head, All-push, All-contains}
use Rattle.std.proofs.lemmas.List.Quantifiers.{all_pairs_push}
use Rattle.std.proofs.lemmas.Option.{none-some, same_Some, slice_get_within}
use Rattle.events.specs.declared.operation.Operation.{Operation}
use Rattle.events.specs.declared.operation.Response.{Response}
use Rattle.events.specs.Precedence.{is_completed, is_before, precedes, NonePrecedesItself}
use Rattle.map_object.specs.MapObject.{Contents}
use Rattle.orders.specs.Orders.{IsLegalCall, after_calls, IsLegal, calls_at, IsCompletedAt, IsLegalOrder, IsOrder}
use Rattle.memo.specs.Fronts.{PrecedesAt, IsFront}
use Rattle.events.proofs.Lists.{length-distinct_below, AllPairs-nil, AllPairs-front, AllPairs-across, All-front, All-back}
use Rattle.events.proofs.Lists.{place_of-Contains}
use Rattle.events.proofs.Lists.{slice_get-append_left, Contains-take, slice_get-middle, place-push, place_before-Contains, AllPairs-at}
use Rattle.events.proofs.Lists.{AllPairs-from_at}
use Rattle.events.proofs.Lists.{All-at}
use Rattle.orders.proofs.OrderLemmas.{IsLegal-append, IsLegal-front, IsLegal-back, calls_at-append, calls_at-push}
use Rattle.events.proofs.NumberLemmas.{slice_get-below}
use Rattle.orders.proofs.CallsAtLemmas.{slice_get-calls_at, number_at}

-- a call that precedes another is completed
pub completed : (a b : Operation) → precedes a b ≡ true → is_completed a ≡ true
completed a b h = of_response a.response h
  where
    of_response : (response : Option Response) → is_before response b.inv ≡ true → is_some response ≡ true
    of_response None h = h
    of_response (Some r) h = refl

-- a call that precedes the call of some number is completed
pub IsCompletedAt-from_PrecedesAt : (calls : List Operation) (m n : ℕ) → PrecedesAt calls m n → IsCompletedAt calls m
IsCompletedAt-from_PrecedesAt calls m n h = subst (λ o. IsSomeAnd o (λ a. IsTrue (is_completed a))) (sym h.2) (completed h.0 h.1 h.4)

-- an order is a front
pub IsFront-from_order : (start : Contents) (calls : List Operation) (order : List ℕ) → NonePrecedesItself calls → IsOrder start calls order
    → IsFront start calls order
IsFront-from_order start calls order none h = record {
  known = h.legal_order.known;
  distinct = h.legal_order.distinct;
  closed = λ i m n here before.
      let (j, there) = place_of-Contains order m (h.complete m (IsCompletedAt-from_PrecedesAt calls m n before)) in
      ⊎_elim (λ same. absurd (itself i j m n here before there same)) (λ apart. ⊎_elim
      (λ later. absurd (too_late i j m n here before there later))
      (λ earlier. Contains-take order i j m earlier there) apart) (cases_order i j);
  legal = h.legal_order.legal;
}
  where
    itself : (i j m n : ℕ) → slice_get order i ≡ Some n → PrecedesAt calls m n → slice_get order j ≡ Some m → i ≡ j → ⊥
    itself i j m n here before there same =
        let one = same_Some n m (sym here ∙ ap (slice_get order) same ∙ there) in
        let same_call = same_Some before.0 before.1 (sym before.2 ∙ ap (slice_get calls) (sym one) ∙ before.3) in
        both_ways _ (All-at (λ a. precedes a a ≡ false) calls n before.1 none before.3)
        (subst (λ a. precedes a before.1 ≡ true) same_call before.4)

    too_late : (i j m n : ℕ) → slice_get order i ≡ Some n → PrecedesAt calls m n → slice_get order j ≡ Some m → i < j → ⊥
    too_late i j m n here before there later =
        let first = slice_get-calls_at calls order i n h.legal_order.known here ∙ before.3 in
        let second = slice_get-calls_at calls order j m h.legal_order.known there ∙ before.2 in
        both_ways _
        (AllPairs-at (λ a b. precedes b a ≡ false) (calls_at calls order) i j before.1 before.0 h.legal_order.precedence later
        first second) before.4

-- a front is a legal order of its calls
pub IsLegalOrder-from_front : (start : Contents) (calls : List Operation) (front : List ℕ) → IsFront start calls front
    → IsLegalOrder start calls front
IsLegalOrder-from_front start calls front h = record {
  known = h.known;
  distinct = h.distinct;
  precedence =
      AllPairs-from_at (λ a b. precedes b a ≡ false) (calls_at calls front)
      (λ i j a b before first second. false_from_ne_true (precedes b a) (too_late i j a b before first second));
  legal = h.legal;
}
  where
    too_late : (i j : ℕ) (a b : Operation) → i < j → slice_get (calls_at calls front) i ≡ Some a
        → slice_get (calls_at calls front) j ≡ Some b
        → precedes b a ≡ true → ⊥
    too_late i j a b before first second e =
        let (n, n_here, n_call) = number_at calls front i a h.known first in
        let (m, m_here, m_call) = number_at calls front j b h.known second in
        let (k, earlier, k_here) = place_before-Contains front i m (h.closed i m n n_here (b, a, m_call, n_call, e)) in
        AllPairs-at (λ m n. m ≢ n) front k j m m h.distinct (omega arith) k_here m_here refl

-- a front that holds each completed call is an order
pub IsOrder-from_front : (start : Contents) (calls : List Operation) (front : List ℕ) → IsFront start calls front
    → ((n : ℕ) → IsCompletedAt calls n → Contains front n) → IsOrder start calls front
IsOrder-from_front start calls front h complete = record {
  legal_order = IsLegalOrder-from_front start calls front h;
  complete = complete;
}

-- the beginning of a front is a front
pub IsFront-front : (start : Contents) (calls : List Operation) (front rest : List ℕ) → IsFront start calls (front ++ rest)
    → IsFront start calls front
IsFront-front start calls front rest h = record {
  known = All-front (λ n. n < length calls) front rest h.known;
  distinct = AllPairs-front (λ m n. m ≢ n) front rest h.distinct;
  closed = λ i m n here before.
      let within = slice_get_within front i n here in
      subst (λ taken. Contains taken m) (take-append-le i front rest (omega arith))
      (h.closed i m n (slice_get-append_left front rest i within ∙ here) before);
  legal = IsLegal-front start (calls_at calls front) (calls_at calls rest)
      (subst (IsLegal start) (calls_at-append calls front rest) h.legal);
}

-- what a call needs to be the next of a front
pub record IsNext (start : Contents) (calls : List Operation) (front : List ℕ) (n : ℕ) : Type 0 where
  pub call : Operation
  pub here : slice_get calls n ≡ Some call
  pub new : Contains front n → ⊥
  pub preceded : (m : ℕ) → PrecedesAt calls m n → Contains front m
  pub legal : IsLegalCall (after_calls start (calls_at calls front)) call.call call.response

-- a front goes on with a new call that all its predecessors come before and that is legal after
-- them
pub IsFront-push : (start : Contents) (calls : List Operation) (front : List ℕ) (n : ℕ) (a : Operation) → IsFront start calls front
    → slice_get calls n ≡ Some a → (Contains front n → ⊥) → ((m : ℕ) → PrecedesAt calls m n → Contains front m)
    → IsLegalCall (after_calls start (calls_at calls front)) a.call a.response → IsFront start calls (front ++ n ∷ [])
IsFront-push start calls front n a h here new preceded legal = record {
  known = All-push (λ m. m < length calls) front n h.known (slice_get_within calls n a here);
  distinct = all_pairs_push (λ m k. m ≢ k) front n h.distinct (λ k d within is. new (k, within, get_or_default front k n d within ∙ is));
  closed = λ i m k place before. ⊎_elim
      (λ old. subst (λ taken. Contains taken m) (sym (take-append-le i front (n ∷ []) (within i k old))) (h.closed i m k old before))
      (λ pushed. subst (λ taken. Contains taken m) (sym (take_at front (n ∷ []) i pushed.0))
      (preceded m (subst (λ k. PrecedesAt calls m k) pushed.1 before)))
      (place-push front n i k place);
  legal = rw (calls_at-push calls front n a here) (IsLegal-append start (calls_at calls front) (a ∷ []) h.legal (legal, tt));
}
  where
    within : (i k : ℕ) → slice_get front i ≡ Some k → i ≤ length front
    within i k old = omega (arith, slice_get_within front i k old)

-- the call after the beginning of a front is a next one of that beginning
pub IsNext-from_front : (start : Contents) (calls : List Operation) (front : List ℕ) (n : ℕ) (rest : List ℕ)
    → IsFront start calls (front ++ n ∷ rest)
    → IsNext start calls front n
IsNext-from_front start calls front n rest h =
    let known = All-head (λ n. n < length calls) n rest (All-back (λ n. n < length calls) front (n ∷ rest) h.known) in
    let (a, here) = slice_get-below calls n known in
    let back = IsLegal-back start (calls_at calls front) (calls_at calls (n ∷ rest))
    (subst (IsLegal start) (calls_at-append calls front (n ∷ rest)) h.legal) in
    let first = subst (λ o. IsLegal (after_calls start (calls_at calls front)) (cons_option o (calls_at calls rest))) here back in
    record {
      call = a;
      here = here;
      new = λ within. All-contains (λ m. All (λ k. m ≢ k) (n ∷ rest)) front n
          (AllPairs-across (λ m k. m ≢ k) front (n ∷ rest) h.distinct) within 0 n
          (omega arith) refl;
      preceded =
          λ m before. subst (λ taken. Contains taken m) (take_at front (n ∷ rest) (length front) refl)
          (h.closed (length front) m n (slice_get-middle front n rest) before);
      legal = first.0;
    }

-- a front goes on with each next call
pub IsFront-next : (start : Contents) (calls : List Operation) (front : List ℕ) (n : ℕ) → IsFront start calls front
    → IsNext start calls front n
    → IsFront start calls (front ++ n ∷ [])
IsFront-next start calls front n h next = IsFront-push start calls front n next.call h next.here next.new next.preceded next.legal

-- no calls are a front
pub IsFront-nil : (start : Contents) (calls : List Operation) → IsFront start calls []
IsFront-nil start calls = record {
  known = All-nil (λ n. n < length calls);
  distinct = AllPairs-nil (λ m n. m ≢ n);
  closed = λ i m n here before. absurd (none-some n here);
  legal = tt;
}

-- a front has at most as many numbers as there are calls
pub length-front_le : (start : Contents) (calls : List Operation) (front : List ℕ) → IsFront start calls front → length front ≤ length calls
length-front_le start calls front h = length-distinct_below front (length calls) h.distinct h.known
