-- Where a list of numbers ceases to be a legal order, and that it shows one fault there.
use Rattle.certificate.proofs.Common.{◌≡◌, ℕ, ◌+◌, ◌<◌, false, List, Some, [], ◌∷◌, ◌++◌, length, take, drop, refl, sym, ap, ◌∙◌, subst, arith, inl}
use Rattle.certificate.proofs.Common.{inr, ◌≢◌, slice_get, Contains, false≢true, cases_order, take-take, take-append-drop, All-head, slice_get_within}
use Rattle.certificate.proofs.Common.{Operation, precedes, Contents, IsLegalOrder, IsOrder, IsLegalCall, IsLegal, KeepsPrecedence, after_calls}
use Rattle.certificate.proofs.Common.{calls_at, PrecedesSome, IsNextAt, IsUnknownAt, IsRepeatedAt, IsNewAt, BreaksPrecedenceAt, IsIllegalAt}
use Rattle.certificate.proofs.Common.{IsLeastMissing, All-front, All-back, AllPairs-front, AllPairs-across, IsLegal-front, IsLegal-back}
use Rattle.certificate.proofs.Common.{calls_at-append, calls_at-push, IsFirstFault, IsRefusedFor}
use Rattle.certificate.specs.declared.fault.OrderFault.{OrderFault}
use Rattle.certificate.specs.declared.fault.OrderFault.TheVariants.{Unknown, Repeated, Precedence, Reply, Missing, Memory}
use Rattle.certificate.proofs.PrefixLemmas.{take-next}

-- the front of a legal order is a legal order
pub IsLegalOrder-front : (start : Contents) (calls : List Operation) (xs ys : List ℕ) → IsLegalOrder start calls (xs ++ ys)
    → IsLegalOrder start calls xs
IsLegalOrder-front start calls xs ys h =
    let parts = calls_at-append calls xs ys in
    let precedence : KeepsPrecedence (calls_at calls xs ++ calls_at calls ys) = rw parts at h.precedence in
    let legal : IsLegal start (calls_at calls xs ++ calls_at calls ys) = rw parts at h.legal in
    record {
      known = All-front (λ n. n < length calls) xs ys h.known;
      distinct = AllPairs-front (λ m n. m ≢ n) xs ys h.distinct;
      precedence = AllPairs-front (λ a b. precedes b a ≡ false) (calls_at calls xs) (calls_at calls ys) precedence;
      legal = IsLegal-front start (calls_at calls xs) (calls_at calls ys) legal;
    }

-- the first numbers of a legal order are a legal order
pub IsLegalOrder-take : (start : Contents) (calls : List Operation) (numbers : List ℕ) (i : ℕ) → IsLegalOrder start calls numbers
    → IsLegalOrder start calls (take i numbers)
IsLegalOrder-take start calls numbers i h = IsLegalOrder-front start calls (take i numbers) (drop i numbers) (rw take-append-drop h)

-- the last number of a legal order has a call
known_last : (start : Contents) (calls : List Operation) (numbers : List ℕ) (n : ℕ) → IsLegalOrder start calls (numbers ++ n ∷ [])
    → n < length calls
known_last start calls numbers n h = All-head (λ m. m < length calls) n [] (All-back (λ m. m < length calls) numbers (n ∷ []) h.known)

-- the last number of a legal order does not come before
new_last : (start : Contents) (calls : List Operation) (numbers : List ℕ) (n : ℕ) → IsLegalOrder start calls (numbers ++ n ∷ [])
    → Contains numbers n → ⊥
new_last start calls numbers n h (k, within, is) =
    AllPairs-across (λ m i. m ≢ i) numbers (n ∷ []) h.distinct k n within 0 n (omega arith) is

-- the last call of a legal order precedes none of the others
free_last : (start : Contents) (calls : List Operation) (numbers : List ℕ) (n : ℕ) (a : Operation)
    → IsLegalOrder start calls (numbers ++ n ∷ [])
    → slice_get calls n ≡ Some a → PrecedesSome calls numbers a → ⊥
free_last start calls numbers n a h here (k, b, within, is, precedes_b) =
    let precedence : KeepsPrecedence (calls_at calls numbers ++ a ∷ []) = rw (calls_at-push calls numbers n a here) at h.precedence in
    false≢true
    (sym (AllPairs-across (λ b c. precedes c b ≡ false) (calls_at calls numbers) (a ∷ []) precedence k b within 0 a (omega arith))
    ∙ ap (precedes a) is
    ∙ precedes_b)

-- the last call of a legal order is legal after the others
legal_last : (start : Contents) (calls : List Operation) (numbers : List ℕ) (n : ℕ) (a : Operation)
    → IsLegalOrder start calls (numbers ++ n ∷ [])
    → slice_get calls n ≡ Some a → IsLegalCall (after_calls start (calls_at calls numbers)) a.call a.response
legal_last start calls numbers n a h here =
    let legal : IsLegal start (calls_at calls numbers ++ a ∷ []) = rw (calls_at-push calls numbers n a here) at h.legal in
    (IsLegal-back start (calls_at calls numbers) (a ∷ []) legal).0

-- the numbers before a place are a legal order, and with the one there they are none
record BreaksAt (start : Contents) (calls : List Operation) (order : List ℕ) (place : ℕ) : Type 0 where
  sound : IsLegalOrder start calls (take place order)
  broken : IsLegalOrder start calls (take (place + 1) order) → ⊥

module _ (start : Contents) (calls : List Operation) (order : List ℕ) where
  -- a legal order breaks at no place
  whole_unbroken : IsLegalOrder start calls order → (p : ℕ) → BreaksAt start calls order p → ⊥
  whole_unbroken h p at_p = at_p.broken (IsLegalOrder-take start calls order (p + 1) h)

  -- before a place where the list breaks it does not
  front_unbroken : (p q : ℕ) → BreaksAt start calls order p → BreaksAt start calls order q → p < q → ⊥
  front_unbroken p q at_p at_q before =
      at_p.broken (subst (IsLegalOrder start calls) (take-take (p + 1) q order (omega arith))
      (IsLegalOrder-take start calls (take q order) (p + 1) at_q.sound))

  -- a list breaks at only one place
  same_place : (p q : ℕ) → BreaksAt start calls order p → BreaksAt start calls order q → p ≡ q
  same_place p q at_p at_q = elim (cases_order p q) [
    | inl same ↦ same
    | inr (inl before) ↦ absurd (front_unbroken p q at_p at_q before)
    | inr (inr after) ↦ absurd (front_unbroken q p at_q at_p after)
  ]

  -- a list breaks where the number that comes next makes no legal order
  BreaksAt-next : (p n : ℕ) → IsNextAt start calls order p n → (IsLegalOrder start calls (take p order ++ n ∷ []) → ⊥)
      → BreaksAt start calls order p
  BreaksAt-next p n next broken =
      record { sound = next.sound; broken = λ legal. broken (subst (IsLegalOrder start calls) (take-next order p n next.here) legal) }

  -- each fault of a number breaks the list at its place
  BreaksAt-unknown : (p : ℕ) → IsUnknownAt start calls order p → BreaksAt start calls order p
  BreaksAt-unknown p h = BreaksAt-next p h.number h.next
      (λ legal. absurd (omega (arith, h.unknown, known_last start calls (take p order) h.number legal)))

  BreaksAt-repeated : (p : ℕ) → IsRepeatedAt start calls order p → BreaksAt start calls order p
  BreaksAt-repeated p h = BreaksAt-next p h.number h.next (λ legal. new_last start calls (take p order) h.number legal h.repeated)

  BreaksAt-precedence : (p : ℕ) → BreaksPrecedenceAt start calls order p → BreaksAt start calls order p
  BreaksAt-precedence p h =
      BreaksAt-next p h.next.number h.next.next
      (λ legal. free_last start calls (take p order) h.next.number h.a legal h.next.call h.precedes_earlier)

  BreaksAt-illegal : (p : ℕ) → IsIllegalAt start calls order p → BreaksAt start calls order p
  BreaksAt-illegal p h =
      BreaksAt-next p h.next.number h.next.next
      (λ legal. h.illegal (legal_last start calls (take p order) h.next.number h.a legal h.next.call))

  -- two facts that break the list, and exclude each other at one place, exclude each other
  apart : (P Q : ℕ → Type 0) → ((p : ℕ) → P p → BreaksAt start calls order p) → ((p : ℕ) → Q p → BreaksAt start calls order p)
      → ((p : ℕ) → P p → Q p → ⊥)
      → (p q : ℕ) → P p → Q q → ⊥
  apart P Q breaks_P breaks_Q clash p q h k = clash q (subst P (same_place p q (breaks_P p h) (breaks_Q q k)) h) k

  -- an unknown number is not one that comes before
  unknown_repeated : (p : ℕ) → IsUnknownAt start calls order p → IsRepeatedAt start calls order p → ⊥
  unknown_repeated p h k =
      let same : h.number ≡ k.number = cc in
      absurd (omega (arith, h.unknown, k.known))

  -- an unknown number is not that of a call
  unknown_new : (p : ℕ) (a : Operation) → IsUnknownAt start calls order p → IsNewAt start calls order p a → ⊥
  unknown_new p a h k =
      let same : h.number ≡ k.number = cc in
      absurd (omega (arith, h.unknown, slice_get_within calls k.number a k.call))

  -- a number that comes before is not there for the first time
  repeated_new : (p : ℕ) (a : Operation) → IsRepeatedAt start calls order p → IsNewAt start calls order p a → ⊥
  repeated_new p a h k =
      let same : h.number ≡ k.number = cc in
      k.new (subst (Contains (take p order)) same h.repeated)

  -- a call that precedes an earlier one is not tested for its reply
  precedence_illegal : (p : ℕ) → BreaksPrecedenceAt start calls order p → IsIllegalAt start calls order p → ⊥
  precedence_illegal p h k =
      let same : h.next.number ≡ k.next.number = cc in
      let same_call : h.a ≡ k.a = cc in
      k.keeps_precedence (subst (PrecedesSome calls (take p order)) same_call h.precedes_earlier)

  -- the least completed call that is absent is one
  same_missing : (m n : ℕ) → IsLeastMissing start calls order m → IsLeastMissing start calls order n → m ≡ n
  same_missing m n h k = elim (cases_order m n) [
    | inl same ↦ same
    | inr (inl before) ↦ absurd (h.missing (k.least m before h.completed))
    | inr (inr after) ↦ absurd (k.missing (h.least n after k.completed))
  ]

  -- a list of numbers has one first fault at most
  pub one_first_fault : (one other : OrderFault) → IsFirstFault start calls order one → IsFirstFault start calls order other → one ≡ other
  one_first_fault Memory other h k = absurd h
  one_first_fault (Unknown p) (Unknown q) h k = ap Unknown (same_place p q (BreaksAt-unknown p h) (BreaksAt-unknown q k))
  one_first_fault (Unknown p) (Repeated q) h k = absurd (apart _ _ BreaksAt-unknown BreaksAt-repeated unknown_repeated p q h k)
  one_first_fault (Unknown p) (Precedence q) h k =
      absurd (apart _ _ BreaksAt-unknown BreaksAt-precedence (λ i u f. unknown_new i f.a u f.next) p q h k)
  one_first_fault (Unknown p) (Reply q) h k = absurd (apart _ _ BreaksAt-unknown BreaksAt-illegal (λ i u f. unknown_new i f.a
      u f.next) p q h k)
  one_first_fault (Unknown p) (Missing n) h k = absurd (whole_unbroken k.sound p (BreaksAt-unknown p h))
  one_first_fault (Unknown p) Memory h k = absurd k
  one_first_fault (Repeated p) (Unknown q) h k = absurd (apart _ _ BreaksAt-unknown BreaksAt-repeated unknown_repeated q p k h)
  one_first_fault (Repeated p) (Repeated q) h k = ap Repeated (same_place p q (BreaksAt-repeated p h) (BreaksAt-repeated q k))
  one_first_fault (Repeated p) (Precedence q) h k =
      absurd (apart _ _ BreaksAt-repeated BreaksAt-precedence (λ i r f. repeated_new i f.a r f.next) p q h k)
  one_first_fault (Repeated p) (Reply q) h k =
      absurd (apart _ _ BreaksAt-repeated BreaksAt-illegal (λ i r f. repeated_new i f.a r f.next) p q h k)
  one_first_fault (Repeated p) (Missing n) h k = absurd (whole_unbroken k.sound p (BreaksAt-repeated p h))
  one_first_fault (Repeated p) Memory h k = absurd k
  one_first_fault (Precedence p) (Unknown q) h k =
      absurd (apart _ _ BreaksAt-unknown BreaksAt-precedence (λ i u f. unknown_new i f.a u f.next) q p k h)
  one_first_fault (Precedence p) (Repeated q) h k =
      absurd (apart _ _ BreaksAt-repeated BreaksAt-precedence (λ i r f. repeated_new i f.a r f.next) q p k h)
  one_first_fault (Precedence p) (Precedence q) h k = ap Precedence (same_place p q (BreaksAt-precedence p h) (BreaksAt-precedence q k))
  one_first_fault (Precedence p) (Reply q) h k = absurd (apart _ _ BreaksAt-precedence BreaksAt-illegal precedence_illegal p q h k)
  one_first_fault (Precedence p) (Missing n) h k = absurd (whole_unbroken k.sound p (BreaksAt-precedence p h))
  one_first_fault (Precedence p) Memory h k = absurd k
  one_first_fault (Reply p) (Unknown q) h k = absurd (apart _ _ BreaksAt-unknown BreaksAt-illegal (λ i u f. unknown_new i f.a
      u f.next) q p k h)
  one_first_fault (Reply p) (Repeated q) h k =
      absurd (apart _ _ BreaksAt-repeated BreaksAt-illegal (λ i r f. repeated_new i f.a r f.next) q p k h)
  one_first_fault (Reply p) (Precedence q) h k = absurd (apart _ _ BreaksAt-precedence BreaksAt-illegal precedence_illegal q p k h)
  one_first_fault (Reply p) (Reply q) h k = ap Reply (same_place p q (BreaksAt-illegal p h) (BreaksAt-illegal q k))
  one_first_fault (Reply p) (Missing n) h k = absurd (whole_unbroken k.sound p (BreaksAt-illegal p h))
  one_first_fault (Reply p) Memory h k = absurd k
  one_first_fault (Missing m) (Unknown q) h k = absurd (whole_unbroken h.sound q (BreaksAt-unknown q k))
  one_first_fault (Missing m) (Repeated q) h k = absurd (whole_unbroken h.sound q (BreaksAt-repeated q k))
  one_first_fault (Missing m) (Precedence q) h k = absurd (whole_unbroken h.sound q (BreaksAt-precedence q k))
  one_first_fault (Missing m) (Reply q) h k = absurd (whole_unbroken h.sound q (BreaksAt-illegal q k))
  one_first_fault (Missing m) (Missing n) h k = ap Missing (same_missing m n h k)
  one_first_fault (Missing m) Memory h k = absurd k

  -- a list of numbers that has a first fault is no order
  pub faulty_is_no_order : (fault : OrderFault) → IsFirstFault start calls order fault → IsOrder start calls order → ⊥
  faulty_is_no_order (Unknown p) h k = whole_unbroken k.legal_order p (BreaksAt-unknown p h)
  faulty_is_no_order (Repeated p) h k = whole_unbroken k.legal_order p (BreaksAt-repeated p h)
  faulty_is_no_order (Precedence p) h k = whole_unbroken k.legal_order p (BreaksAt-precedence p h)
  faulty_is_no_order (Reply p) h k = whole_unbroken k.legal_order p (BreaksAt-illegal p h)
  faulty_is_no_order (Missing n) h k = h.missing (k.complete n h.completed)
  faulty_is_no_order Memory h k = h

-- an order is refused only if memory runs out
pub refused_order : (start : Contents) (calls : List Operation) (order : List ℕ) (fault : OrderFault) → IsRefusedFor start calls order fault
    → IsOrder start calls order → fault ≡ Memory
refused_order start calls order Memory h k = refl
refused_order start calls order (Unknown p) h k = absurd (faulty_is_no_order start calls order (Unknown p) h k)
refused_order start calls order (Repeated p) h k = absurd (faulty_is_no_order start calls order (Repeated p) h k)
refused_order start calls order (Precedence p) h k = absurd (faulty_is_no_order start calls order (Precedence p) h k)
refused_order start calls order (Reply p) h k = absurd (faulty_is_no_order start calls order (Reply p) h k)
refused_order start calls order (Missing n) h k = absurd (faulty_is_no_order start calls order (Missing n) h k)
