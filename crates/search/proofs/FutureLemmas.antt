-- What may follow a front depends on its configuration alone.
use Rattle.search.proofs.Common.{◌≡◌, ℕ, List, Some, [], ◌∷◌, ◌++◌, sym, ap, ◌∙◌, subst, ⊎_elim, slice_get, Contains, append-nil, append_assoc}
use Rattle.search.proofs.Common.{Contains-append_left, Contains-append_right, Contains-append_cases, Contains-push, Contains-push_cases, Operation}
use Rattle.search.proofs.Common.{Contents, IsLegalCall, after_call, after_calls, calls_at, IsOrder, IsFront, Configuration, LeadsTo, after_calls-push}
use Rattle.search.proofs.Common.{NonePrecedesItself, IsFront-from_order, IsOrder-from_front, IsNext, IsNext-from_front, IsFront-next}

-- two fronts hold the same calls and leave the same pairs
record AreAlike (start : Contents) (calls : List Operation) (f g : List ℕ) : Type 0 where
  to : (n : ℕ) → Contains f n → Contains g n
  from : (n : ℕ) → Contains g n → Contains f n
  pairs : after_calls start (calls_at calls f) ≡ after_calls start (calls_at calls g)

-- fronts that lead to one configuration are alike
AreAlike-from_leads : (start : Contents) (calls : List Operation) (f g : List ℕ) (c : Configuration) → LeadsTo start calls f c
    → LeadsTo start calls g c
    → AreAlike start calls f g
AreAlike-from_leads start calls f g c by_f by_g = record {
  to = λ n h. (by_g.taken n).0 ((by_f.taken n).1 h);
  from = λ n h. (by_f.taken n).0 ((by_g.taken n).1 h);
  pairs = sym by_f.pairs ∙ by_g.pairs;
}

-- what is in a list with one more number is in another with the same one more
members_push : (f g : List ℕ) (n : ℕ) → ((m : ℕ) → Contains f m → Contains g m) → (m : ℕ) → Contains (f ++ n ∷ []) m
    → Contains (g ++ n ∷ []) m
members_push f g n to m h =
    ⊎_elim (λ old. Contains-append_left g (n ∷ []) m (to m old)) (λ new. subst (λ k. Contains (g ++ n ∷ []) k) new (Contains-push g n))
    (Contains-push_cases f n m h)

-- alike fronts are still alike after one more call
AreAlike-push : (start : Contents) (calls : List Operation) (f g : List ℕ) (n : ℕ) (a : Operation) → slice_get calls n ≡ Some a
    → AreAlike start calls f g
    → AreAlike start calls (f ++ n ∷ []) (g ++ n ∷ [])
AreAlike-push start calls f g n a here alike = record {
  to = members_push f g n alike.to;
  from = members_push g f n alike.from;
  pairs = after_calls-push start calls f n a here ∙ ap (λ m. after_call m a.call a.response) alike.pairs
      ∙ sym (after_calls-push start calls g n a here);
}

-- a next call of a front is one of each front that is like it
IsNext-alike : (start : Contents) (calls : List Operation) (f g : List ℕ) (n : ℕ) → AreAlike start calls f g → IsNext start calls f n
    → IsNext start calls g n
IsNext-alike start calls f g n alike next = record {
  call = next.call;
  here = next.here;
  new = λ h. next.new (alike.from n h);
  preceded = λ m before. alike.to m (next.preceded m before);
  legal = subst (λ m. IsLegalCall m next.call.call next.call.response) alike.pairs next.legal;
}

-- what may follow a front may follow each front that is like it
same_future_if_alike : (start : Contents) (calls : List Operation) (f g rest : List ℕ) → AreAlike start calls f g → IsFront start calls g
    → IsFront start calls (f ++ rest) → IsFront start calls (g ++ rest)
same_future_if_alike start calls f g [] alike is_front h = subst (IsFront start calls) (sym (append-nil g)) is_front
same_future_if_alike start calls f g (n ∷ rest) alike is_front h =
    let next = IsNext-from_front start calls f n rest h in
    let more = same_future_if_alike start calls (f ++ n ∷ []) (g ++ n ∷ []) rest (AreAlike-push start calls f g n next.call next.here alike)
    (IsFront-next start calls g n is_front (IsNext-alike start calls f g n alike next))
    (subst (IsFront start calls) (sym (append_assoc f (n ∷ []) rest)) h) in
    subst (IsFront start calls) (append_assoc g (n ∷ []) rest) more

-- what may follow a front depends on its configuration alone
pub same_future : (start : Contents) (calls : List Operation) (f g rest : List ℕ) (c : Configuration) → IsFront start calls g
    → LeadsTo start calls f c
    → LeadsTo start calls g c → IsFront start calls (f ++ rest) → IsFront start calls (g ++ rest)
same_future start calls f g rest c is_front by_f by_g h =
    same_future_if_alike start calls f g rest (AreAlike-from_leads start calls f g c by_f by_g) is_front h

-- what completes one front to an order completes each front that leads to the same configuration
pub same_completion : (start : Contents) (calls : List Operation) (f g rest : List ℕ) (c : Configuration) → NonePrecedesItself calls
    → IsFront start calls g
    → LeadsTo start calls f c → LeadsTo start calls g c → IsOrder start calls (f ++ rest) → IsOrder start calls (g ++ rest)
same_completion start calls f g rest c none is_front by_f by_g h =
    IsOrder-from_front start calls (g ++ rest)
    (same_future start calls f g rest c is_front by_f by_g (IsFront-from_order start calls (f ++ rest) none h))
    (λ n done.
    ⊎_elim (λ taken. Contains-append_left g rest n ((by_g.taken n).0 ((by_f.taken n).1 taken)))
    (λ left. Contains-append_right g rest n left)
    (Contains-append_cases f rest n (h.complete n done)))
