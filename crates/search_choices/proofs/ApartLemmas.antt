-- Calls of other keys: each may be done before the other.
use Rattle.search_choices.proofs.Common.{◌≡◌, ℕ, ◌<◌, ◌≤◌, false, List, [], ◌∷◌, ◌++◌, None, refl, sym, ap, ◌∙◌, subst, inl, inr, ⊎_elim, arith, ◌⊎◌}
use Rattle.search_choices.proofs.Common.{All, false≢true, All-head, All-tail, Call, Get, Insert, Remove, Scan, Replace, Operation, low_key, high_key}
use Rattle.search_choices.proofs.Common.{may_change, Contents, IsRising, value_at, within, after, IsLegalCall, IsLegal, after_call, after_calls}
use Rattle.search_choices.proofs.Common.{IsInside, IsOutside, value_at-within, within-after_call, within_left_call, IsLegalCall-within, in_or_out}
use Rattle.search_choices.proofs.Common.{same_pairs, value_alone, value_left, rising_kept}

own_keys : (a : Operation) → IsInside (low_key a.call) (high_key a.call) a.call
own_keys a = record { low_inside = omega arith; high_inside = omega arith }

-- what a call leaves at its keys is the same where one goes before it that changes none of them
kept_range : (m : Contents) (a p : Operation) → IsOutside (low_key a.call) (high_key a.call) p.call
    → within (low_key a.call) (high_key a.call) (after_call (after_call m p.call p.response) a.call a.response)
    ≡ within (low_key a.call) (high_key a.call) (after_call (after_call m a.call a.response) p.call p.response)
kept_range m a p out =
    let low = low_key a.call in
    let high = high_key a.call in
    within-after_call low high (after_call m p.call p.response) a.call a.response (own_keys a)
    ∙ (ap (λ (n : Contents). after_call n a.call a.response) (within_left_call low high m p.call p.response out)
    ∙ (sym (within-after_call low high m a.call a.response (own_keys a))
    ∙ sym (within_left_call low high (after_call m a.call a.response) p.call p.response out)))

value_in : (low high key : ℕ) (m n : Contents) → (low ≤ key) × (key ≤ high) → within low high m ≡ within low high n
    → value_at m key ≡ value_at n key
value_in low high key m n bounds same =
    sym (value_at-within low high m key bounds.0 bounds.1)
    ∙ (ap (λ (l : Contents). value_at l key) same ∙ value_at-within low high n key bounds.0 bounds.1)

-- two calls whose keys are apart leave the same in either order
module _ (m : Contents) (a p : Operation) (rising : IsRising m)
    (apart : (high_key p.call < low_key a.call) ⊎ (high_key a.call < low_key p.call)) where
  p_outside : IsOutside (low_key a.call) (high_key a.call) p.call
  p_outside = inr apart

  a_outside : IsOutside (low_key p.call) (high_key p.call) a.call
  a_outside = ⊎_elim (λ less. inr (inr less)) (λ more. inr (inl more)) apart

  swapped_at : (key : ℕ) → value_at (after_call (after_call m p.call p.response) a.call a.response) key
      ≡ value_at (after_call (after_call m a.call a.response) p.call p.response) key
  swapped_at key =
      let first = after_call (after_call m p.call p.response) a.call a.response in
      let second = after_call (after_call m a.call a.response) p.call p.response in
      ⊎_elim
      (λ here. value_in (low_key a.call) (high_key a.call) key first second here (kept_range m a p p_outside))
      (λ out. ⊎_elim
      (λ here. sym (value_in (low_key p.call) (high_key p.call) key second first here (kept_range m p a a_outside)))
      (λ beside. (value_left (after_call m p.call p.response) a key out ∙ value_left m p key beside)
      ∙ sym (value_left (after_call m a.call a.response) p key beside ∙ value_left m a key out))
      (in_or_out (low_key p.call) (high_key p.call) key))
      (in_or_out (low_key a.call) (high_key a.call) key)

  swapped : after_call (after_call m p.call p.response) a.call a.response ≡ after_call (after_call m a.call a.response) p.call p.response
  swapped = same_pairs (after_call (after_call m p.call p.response) a.call a.response)
      (after_call (after_call m a.call a.response) p.call p.response)
      (rising_kept (after_call m p.call p.response) a (rising_kept m p rising))
      (rising_kept (after_call m a.call a.response) p (rising_kept m a rising)) swapped_at

changes_none : (m : Contents) (call : Call) → may_change call ≡ false → after m call ≡ m
changes_none m (Get key) h = refl
changes_none m (Insert key value) h = absurd (false≢true (sym h))
changes_none m (Remove key) h = absurd (false≢true (sym h))
changes_none m (Scan low high) h = refl
changes_none m (Replace key expected value) h = absurd (false≢true (sym h))

-- a call lets another one go before it: their keys are apart, or it is legal at all pairs and leaves them as they are
abbrev pub LetsPass : Operation → Operation → Type 0
LetsPass a p =
    ((high_key p.call < low_key a.call) ⊎ (high_key a.call < low_key p.call))
    ⊎ (((m : Contents) → IsLegalCall m p.call p.response) × ((m : Contents) → after_call m p.call p.response ≡ m))

-- a call is legal where it is so after one of other keys
legal_before : (m : Contents) (a p : Operation) → IsOutside (low_key a.call) (high_key a.call) p.call
    → IsLegalCall (after_call m p.call p.response) a.call a.response → IsLegalCall m a.call a.response
legal_before m a p out h =
    (IsLegalCall-within (low_key a.call) (high_key a.call) m a.call a.response (own_keys a)).1
    (subst (λ (n : Contents). IsLegalCall n a.call a.response) (within_left_call (low_key a.call) (high_key a.call) m p.call p.response out)
    ((IsLegalCall-within (low_key a.call) (high_key a.call) (after_call m p.call p.response) a.call a.response (own_keys a)).0 h))

-- a call that is legal is legal after one of other keys
legal_behind : (m : Contents) (a p : Operation) → IsOutside (low_key p.call) (high_key p.call) a.call → IsLegalCall m p.call p.response
    → IsLegalCall (after_call m a.call a.response) p.call p.response
legal_behind m a p out h =
    (IsLegalCall-within (low_key p.call) (high_key p.call) (after_call m a.call a.response) p.call p.response (own_keys p)).1
    (subst (λ (n : Contents). IsLegalCall n p.call p.response) (sym (within_left_call (low_key p.call) (high_key p.call) m a.call a.response out))
    ((IsLegalCall-within (low_key p.call) (high_key p.call) m p.call p.response (own_keys p)).0 h))

-- a call goes before those that let it
pub passes : (m : Contents) (front back : List Operation) (a : Operation) → IsRising m → All (LetsPass a) front → IsLegal m (front ++ a ∷ back)
    → IsLegal m (a ∷ (front ++ back))
passes m [] back a rising lets h = h
passes m (p ∷ front) back a rising lets h =
    let next = after_call m p.call p.response in
    let later = passes next front back a (rising_kept m p rising) (All-tail (LetsPass a) p front lets) h.1 in
    ⊎_elim
    (λ apart. (
      legal_before m a p (inr apart) later.0,
      (
        legal_behind m a p (a_outside m a p rising apart) h.0,
        subst (λ (n : Contents). IsLegal n (front ++ back)) (swapped m a p rising apart) later.1,
      ),
    ))
    (λ inert. (
      subst (λ (n : Contents). IsLegalCall n a.call a.response) (inert.1 m) later.0,
      (
        inert.0 (after_call m a.call a.response),
        subst (λ (n : Contents). IsLegal n (front ++ back))
            (ap (λ (n : Contents). after_call n a.call a.response) (inert.1 m) ∙ sym (inert.1 (after_call m a.call a.response))) later.1,
      ),
    ))
    (All-head (LetsPass a) p front lets)

-- a pending call that changes none of the keys of another lets that pass
pub pending_passes : (a p : Operation) → p.response ≡ None → IsOutside (low_key a.call) (high_key a.call) p.call → LetsPass a p
pending_passes a p pending out = ⊎_elim
    (λ same. inr (
      λ m. subst (λ o. IsLegalCall m p.call o) (sym pending) tt,
      λ m. ap (λ o. after_call m p.call o) pending ∙ changes_none m p.call same,
    ))
    (λ apart. inl apart)
    out

-- calls that do not change a key leave its value
pub value_stays : (m : Contents) (front : List Operation) (key : ℕ) → All (λ p. IsOutside key key p.call) front
    → value_at (after_calls m front) key ≡ value_at m key
value_stays m [] key free = refl
value_stays m (p ∷ front) key free =
    let next = after_call m p.call p.response in
    value_stays next front key (All-tail (λ p. IsOutside key key p.call) p front free)
    ∙ (value_alone next key
    ∙ (ap (λ (n : Contents). value_at n key)
    (within_left_call key key m p.call p.response (All-head (λ p. IsOutside key key p.call) p front free))
    ∙ sym (value_alone m key)))
