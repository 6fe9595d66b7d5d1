-- Lists of calls that are fronts except for their answers.
use Rattle.follow_fronts.proofs.Common.{◌≡◌, ℕ, ◌<◌, List, Some, [], ◌∷◌, ◌++◌, ◌+◌, length, take, drop, get_or, refl, sym, ap, ◌∙◌, subst, arith, ◌≢◌}
use Rattle.follow_fronts.proofs.Common.{slice_get, All, Contains, take_at, take_more, append_assoc, get_or_default, same_Some, All-head, All-contains}
use Rattle.follow_fronts.proofs.Common.{Operation, Contents, IsLegalCall, after_calls, calls_at, IsFront, IsNext, IsNext-from_front, pairs_after, All-back}
use Rattle.follow_fronts.proofs.Common.{AllPairs-across, slice_get-middle, IsClosed}
use Rattle.events.proofs.Places.{parts_at}

-- a front is closed
pub IsClosed-from_front : (start : Contents) (calls : List Operation) (path : List ℕ) → IsFront start calls path → IsClosed calls path
IsClosed-from_front start calls path h = record { known = h.known; distinct = h.distinct; closed = h.closed }

-- a call of a closed list is known
pub below-closed : (calls : List Operation) (path : List ℕ) (n : ℕ) (rest : List ℕ) → IsClosed calls (path ++ n ∷ rest) → n < length calls
below-closed calls path n rest h =
    All-head (λ k. k < length calls) n rest (All-back (λ k. k < length calls) path (n ∷ rest) h.known)

-- a list of calls is those before a place, that one, and those after it
pub split_at : (path more : List ℕ) (i : ℕ) → i < length more
    → path ++ more ≡ (path ++ take i more) ++ get_or more i 0 ∷ drop (i + 1) more
split_at path more i lt =
    ap (λ xs. path ++ xs) (parts_at more i (get_or more i 0) lt (sym (get_or_default more i (get_or more i 0) 0 lt)))
    ∙ sym (append_assoc path (take i more) (get_or more i 0 ∷ drop (i + 1) more))

-- the call after the beginning of a closed list may come next, where it is legal
pub IsNext-from_closed : (start : Contents) (calls : List Operation) (path : List ℕ) (n : ℕ) (rest : List ℕ) (a : Operation)
    → IsClosed calls (path ++ n ∷ rest) → slice_get calls n ≡ Some a
    → IsLegalCall (after_calls start (calls_at calls path)) a.call a.response → IsNext start calls path n
IsNext-from_closed start calls path n rest a h here legal = record {
  call = a;
  here = here;
  new = λ within. All-contains (λ m. All (λ k. m ≢ k) (n ∷ rest)) path n
      (AllPairs-across (λ m k. m ≢ k) path (n ∷ rest) h.distinct) within 0 n
      (omega arith) refl;
  preceded = λ m before. subst (λ taken. Contains taken m) (take_at path (n ∷ rest) (length path) refl)
      (h.closed (length path) m n (slice_get-middle path n rest) before);
  legal = legal;
}

module _ (start : Contents) (calls : List Operation) (path more now : List ℕ) (i : ℕ) (lt : i < length more) (now_is : now ≡ path ++ take i more) where
  -- the call at a place of a closed list is known
  pub known_at : IsClosed calls (path ++ more) → get_or more i 0 < length calls
  known_at h =
      below-closed calls (path ++ take i more) (get_or more i 0) (drop (i + 1) more) (subst (IsClosed calls) (split_at path more i lt) h)

  module _ (a : Operation) (here : slice_get calls (get_or more i 0) ≡ Some a) (m : Contents) (m_is : m ≡ pairs_after start calls now) where
    -- the call at a place of a closed list may come next if it is legal
    pub next_at : IsClosed calls (path ++ more) → IsLegalCall m a.call a.response → IsNext start calls now (get_or more i 0)
    next_at h legal = subst (λ p. IsNext start calls p (get_or more i 0)) (sym now_is)
        (IsNext-from_closed start calls (path ++ take i more) (get_or more i 0) (drop (i + 1) more) a
        (subst (IsClosed calls) (split_at path more i lt) h) here
        (subst (λ x. IsLegalCall x a.call a.response) (m_is ∙ ap (pairs_after start calls) now_is) legal))

    -- the call is legal there if all calls are a front
    pub legal_at : IsFront start calls (path ++ more) → IsLegalCall m a.call a.response
    legal_at h =
        let next = IsNext-from_front start calls (path ++ take i more) (get_or more i 0) (drop (i + 1) more)
        (subst (IsFront start calls) (split_at path more i lt) h) in
        let same = same_Some next.call a (sym next.here ∙ here) in
        subst (λ (x : Operation). IsLegalCall m x.call x.response) same
        (subst (λ x. IsLegalCall x next.call.call next.call.response) (sym (m_is ∙ ap (pairs_after start calls) now_is)) next.legal)

  -- one call further
  pub more_at : (later : List ℕ) → later ≡ now ++ get_or more i 0 ∷ [] → later ≡ path ++ take (i + 1) more
  more_at later is = is ∙ ap (λ xs. xs ++ get_or more i 0 ∷ []) now_is ∙ append_assoc path (take i more) (get_or more i 0 ∷ [])
      ∙ ap (λ xs. path ++ xs) (sym (take_more more i 0 lt))
