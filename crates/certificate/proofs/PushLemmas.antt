-- A legal order that goes on with one more call.
use Rattle.certificate.proofs.Common.{◌≡◌, ℕ, ◌<◌, ◌≤◌, true, false, List, Some, None, [], ◌∷◌, ◌++◌, length, get_or, Option, ◌∙◌, inl, inr, ⊎_elim}
use Rattle.certificate.proofs.Common.{arith, ◌≢◌, ◌⊎◌, max, map, slice_get, Any, Contains, lt-ltb, ltb-true, false≢true, false_from_ne_true}
use Rattle.certificate.proofs.Common.{get_or_default, All-push, slice_get_within, Operation, greatest, is_before, precedes, Contents, IsLegalCall}
use Rattle.certificate.proofs.Common.{after_calls, calls_at, IsLegalOrder, PrecedesSome, Any-first, Any-later, IsLegal-append, calls_at-push}
use Rattle.certificate.proofs.Common.{greatest_bound, Response}
use Rattle.std.proofs.lemmas.List.Quantifiers.{all_pairs_push}

-- a legal order goes on with a new call that precedes none of its calls and is legal after them
pub IsLegalOrder-push : (start : Contents) (calls : List Operation) (order : List ℕ) (n : ℕ) (a : Operation)
    → IsLegalOrder start calls order
    → slice_get calls n ≡ Some a → (Contains order n → ⊥) → (PrecedesSome calls order a → ⊥)
    → IsLegalCall (after_calls start (calls_at calls order)) a.call a.response → IsLegalOrder start calls (order ++ n ∷ [])
IsLegalOrder-push start calls order n a sound here new free legal =
    let taken = calls_at calls order in
    let pushed = calls_at-push calls order n a here in
    record {
      known = All-push (λ m. m < length calls) order n sound.known (slice_get_within calls n a here);
      distinct = all_pairs_push (λ m k. m ≢ k) order n sound.distinct
          (λ k d within is. new (k, within, get_or_default order k n d within ∙ is));
      precedence =
          rw pushed
          (all_pairs_push (λ b c. precedes c b ≡ false) taken a sound.precedence
          (λ k d within. false_from_ne_true _ (λ e. free (k, get_or taken k d, within, get_or_default taken k _ d within, e))));
      legal = rw pushed (IsLegal-append start taken (a ∷ []) sound.legal (legal, tt));
    }

-- a response that comes before a place comes before each later one
is_before-later : (response : Option Response) (m n : ℕ) → m ≤ n → is_before response m ≡ true → is_before response n ≡ true
is_before-later None m n le h = h
is_before-later (Some r) m n le h = lt-ltb r.res n (omega (arith, ltb-true r.res m h))

-- no response comes before the first place
is_before-first : (response : Option Response) → is_before response 0 ≡ true → ⊥
is_before-first None h = false≢true h
is_before-first (Some r) h = absurd (omega (arith, ltb-true r.res 0 h))

-- what comes before the greater of two places comes before one of them
is_before-greater : (response : Option Response) (m n : ℕ) → is_before response (max m n) ≡ true → (is_before response m ≡ true)
    ⊎ (is_before response n ≡ true)
is_before-greater None m n h = inl h
is_before-greater (Some r) m n h = ⊎_elim (λ lt. inl (lt-ltb r.res m lt)) (λ lt. inr (lt-ltb r.res n lt))
    (after_greater r.res m n (ltb-true r.res (max m n) h))
  where
    after_greater : (i m n : ℕ) → i < max m n → (i < m) ⊎ (i < n)
    after_greater i m n h = grind arith

-- a call that precedes one of some calls has its response before the latest of their invocations
pub before_latest : (a : Operation) (calls : List Operation) → Any (λ b. precedes a b ≡ true) calls
    → is_before a.response (greatest (map (λ b. b.inv) calls)) ≡ true
before_latest a calls h = is_before-later a.response h.1.inv _ (greatest_bound (λ b. b.inv) calls h.1 (h.0, h.2, h.3)) h.4

-- a call whose response comes before the latest of some invocations precedes one of those calls
pub before_latest-from : (a : Operation) (calls : List Operation) → is_before a.response (greatest (map (λ b. b.inv) calls)) ≡ true
    → Any (λ b. precedes a b ≡ true) calls
before_latest-from a [] h = absurd (is_before-first a.response h)
before_latest-from a (b ∷ calls) h =
    ⊎_elim (λ first. Any-first (λ c. precedes a c ≡ true) b calls first)
    (λ later. Any-later (λ c. precedes a c ≡ true) b calls (before_latest-from a calls later))
    (is_before-greater a.response b.inv (greatest (map (λ c. c.inv) calls)) h)
