-- Legal lists of calls by key ranges: what is legal falls into legal parts, and legal parts join.
use Rattle.orders.proofs.Common.{◌≡◌, ℕ, Bool, true, false, cond, List, [], ◌∷◌, filter, Option, Some, None, refl, MatchBool, slice_get, All}
use Rattle.orders.proofs.Common.{cons_option, All-head, All-tail, Operation, Contents, within, after_call, IsLegal, calls_at}
use Rattle.orders.proofs.RangeLemmas.{IsInside, IsOutside, within-after_call, within_left_call, IsLegalCall-within}

-- a test of numbers goes by a key range: the call of a number that passes is within it, and that of another leaves its pairs
abbrev pub GoesByKeys : List Operation → (ℕ → Bool) → ℕ → ℕ → ℕ → Type 0
GoesByKeys calls test low high n = (a : Operation) → slice_get calls n ≡ Some a
    → MatchBool (test n) (IsInside low high a.call) (IsOutside low high a.call)

-- the calls of a range, one call further
pub IsLegal-part_next : (calls : List Operation) (test : ℕ → Bool) (low high : ℕ) (m : Contents) (n : ℕ) (a : Operation) (order : List ℕ)
    → GoesByKeys calls test low high n
    → slice_get calls n ≡ Some a → IsLegal (within low high m) (calls_at calls (filter test (n ∷ order)))
    → IsLegal (within low high (after_call m a.call a.response)) (calls_at calls (filter test order))
IsLegal-part_next calls test low high m n a order by_keys here legal = next (test n) (by_keys a here) legal
  where
    next : (b : Bool) → MatchBool b (IsInside low high a.call) (IsOutside low high a.call)
        → IsLegal (within low high m) (calls_at calls (cond b (n ∷ filter test order) (filter test order)))
        → IsLegal (within low high (after_call m a.call a.response)) (calls_at calls (filter test order))
    next true inside h = rw (within-after_call low high m a.call a.response inside) ((rw here at h).1)
    next false outside h = rw (within_left_call low high m a.call a.response outside) h

-- the calls of a legal list within a range are legal from the pairs of the range on
pub IsLegal-part : (calls : List Operation) (test : ℕ → Bool) (low high : ℕ) (m : Contents) (order : List ℕ)
    → All (GoesByKeys calls test low high) order
    → IsLegal m (calls_at calls order)
    → IsLegal (within low high m) (calls_at calls (filter test order))
IsLegal-part calls test low high m [] by_keys legal = tt
IsLegal-part calls test low high m (n ∷ order) by_keys legal =
    part (slice_get calls n) refl (test n) (All-head (GoesByKeys calls test low high) n order by_keys) legal
    (λ k h. IsLegal-part calls test low high k order (All-tail (GoesByKeys calls test low high) n order by_keys) h)
  where
    part : (o : Option Operation) → slice_get calls n ≡ o → (b : Bool)
        → ((a : Operation) → slice_get calls n ≡ Some a → MatchBool b (IsInside low high a.call) (IsOutside low high a.call))
        → IsLegal m (cons_option o (calls_at calls order))
        → ((k : Contents) → IsLegal k (calls_at calls order) → IsLegal (within low high k) (calls_at calls (filter test order)))
        → IsLegal (within low high m) (calls_at calls (cond b (n ∷ filter test order) (filter test order)))
    part None e true keys h rest = rw e (rest m h)
    part None e false keys h rest = rest m h
    part (Some a) e true keys h rest =
        rw e (
          (IsLegalCall-within low high m a.call a.response (keys a e)).0 h.0,
          rw (within-after_call low high m a.call a.response (keys a e)) at (rest (after_call m a.call a.response) h.1),
        )
    part (Some a) e false keys h rest = rw (within_left_call low high m a.call a.response (keys a e)) at
        (rest (after_call m a.call a.response) h.1)

-- a list of calls is legal where each of them is in one of some ranges, and the calls of each range
-- are legal on their own
pub IsLegal-from_parts : {I : Type 0} (calls : List Operation) (test : I → ℕ → Bool) (low high : I → ℕ) (m : Contents) (order : List ℕ)
    → ((i : I) → All (GoesByKeys calls (test i) (low i) (high i)) order) → All (λ n. (i : I) × (test i n ≡ true)) order
    → ((i : I) → IsLegal (within (low i) (high i) m) (calls_at calls (filter (test i) order))) → IsLegal m (calls_at calls order)
IsLegal-from_parts calls test low high m [] by_keys covered legal = tt
IsLegal-from_parts {I = I} calls test low high m (n ∷ order) by_keys covered legal =
    join (slice_get calls n) refl (λ k parts. IsLegal-from_parts calls test low high k order
    (λ i. All-tail (GoesByKeys calls (test i) (low i) (high i)) n order (by_keys i))
    (All-tail (λ n. (i : I) × (test i n ≡ true)) n order covered) parts)
  where
    without : (i : I) (b : Bool) → slice_get calls n ≡ None
        → IsLegal (within (low i) (high i) m) (calls_at calls (cond b (n ∷ filter (test i) order) (filter (test i) order)))
        → IsLegal (within (low i) (high i) m) (calls_at calls (filter (test i) order))
    without i true none h = rw none at h
    without i false none h = h

    join : (o : Option Operation) → slice_get calls n ≡ o
        → ((k : Contents) → ((i : I) → IsLegal (within (low i) (high i) k) (calls_at calls (filter (test i) order)))
        → IsLegal k (calls_at calls order))
        → IsLegal m (cons_option o (calls_at calls order))
    join None e rest = rest m (λ i. without i (test i n) e (legal i))
    join (Some a) e rest =
        let (i, passes) = All-head (λ n. (i : I) × (test i n ≡ true)) n order covered in
        let inside = rw passes at (All-head (GoesByKeys calls (test i) (low i) (high i)) n order (by_keys i) a e) in
        let legal_there = rw (passes, e) at (legal i) in (
          (IsLegalCall-within (low i) (high i) m a.call a.response inside).1 legal_there.0,
          rest (after_call m a.call a.response)
              (λ j. IsLegal-part_next calls (test j) (low j) (high j) m n a order
              (All-head (GoesByKeys calls (test j) (low j) (high j)) n order (by_keys j)) e
              (legal j)),
        )
