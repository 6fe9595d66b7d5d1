-- The keys at which pasts are busy.
use Rattle.follow_pasts.proofs.Common.{◌≡◌, ℕ, ◌+◌, ◌<◌, ◌≤◌, ◌==◌, Bool, true, false, List, [], ◌∷◌, length, get_or, take, Option, Some, None, inl}
use Rattle.follow_pasts.proofs.Common.{inr, refl, sym, ap, ◌∙◌, subst, ⊎_elim, arith, ◌⊎◌, ◌&&◌, nat_le, All, Any, list_any, eq-eqb, eqb-true}
use Rattle.follow_pasts.proofs.Common.{false≢true, cases_Bool, or_cases, or_left, or_right, take_all, get_or_default, All-more, All-weaker}
use Rattle.follow_pasts.proofs.Common.{Any-from_list_any, list_any_at, none-some, same_Some, Call, Get, Insert, Remove, Scan, Replace, Operation}
use Rattle.follow_pasts.proofs.Common.{low_key, high_key, value_at, concerns_key, Keys, Found, Past, covered, AreBusy, IsBusyFor, IsOfKey, HasCalls}
use Rattle.follow_pasts.proofs.Common.{HasFound, HasDiffering, Range}
use Rattle.follow_pasts.proofs.RestingLemmas.{one_key}

-- the keys of a call are those of its range
pub in_its_range : (call : Call) (key : ℕ) → (nat_le (low_key call) key && nat_le key (high_key call)) ≡ concerns_key call key
in_its_range (Get own) key = one_key own key
in_its_range (Insert own value) key = one_key own key
in_its_range (Remove own) key = one_key own key
in_its_range (Scan low high) key = refl
in_its_range (Replace own expected value) key = one_key own key

any_as : {X : Type 0} (P Q : X → Type 0) (xs : List X) → ((x : X) → P x → Q x) → Any P xs → Any Q xs
any_as P Q xs implies (k, x, within, here, holds) = (k, x, within, here, implies x holds)

any_at : {X : Type 0} (P : X → Type 0) (xs : List X) (i : ℕ) (d : X) → i < length xs → P (get_or xs i d) → Any P xs
any_at P xs i d within holds = (i, get_or xs i d, within, get_or_default xs i (get_or xs i d) d within, holds)

-- values that no pair distinguishes are the same
values_same : (a b : Option ℕ) → ((v : ℕ) → a ≡ Some v → (b ≡ Some v → ⊥) → ⊥) → ((v : ℕ) → b ≡ Some v → (a ≡ Some v → ⊥) → ⊥) → a ≡ b
values_same None None one other = refl
values_same None (Some v) one other = absurd (other v refl (λ same. none-some v same))
values_same (Some v) None one other = absurd (one v refl (λ same. none-some v same))
values_same (Some v) (Some w) one other = by_test (cases_Bool (v == w))
  where
    by_test : ((v == w) ≡ true) ⊎ ((v == w) ≡ false) → Some v ≡ Some w
    by_test (inl same) = ap Some (eqb-true v w same)
    by_test (inr apart) = absurd (one v refl (λ same. false≢true (sym apart ∙ eq-eqb v w (same_Some v w (sym same)))))

module _ (first past : Past) (none called found differing busy : List Range) (calls : HasCalls past.calls.items none called)
    (has_found : HasFound past.found.items called found) (one : HasDiffering first.map past.map found differing)
    (other : HasDiffering past.map first.map differing busy) where
  abbrev test_call : ℕ → Operation → Bool
  test_call key o = nat_le (low_key o.call) key && nat_le key (high_key o.call)

  from_called : (key : ℕ) → covered called key ≡ true → covered busy key ≡ true
  from_called key holds = (other key).1 (inl ((one key).1 (inl (has_found key
      ∙ or_left (covered called key) (list_any (λ (f : Found). f.key == key) past.found.items) holds))))

  pub busy_wider : (key : ℕ) → covered none key ≡ true → covered busy key ≡ true
  busy_wider key holds = from_called key (calls key ∙ or_left (covered none key) (list_any (test_call key) past.calls.items) holds)

  busy_calls : All (λ (o : Operation). (key : ℕ) → concerns_key o.call key ≡ true → covered busy key ≡ true) past.calls.items
  busy_calls k d within key concerned = from_called key (calls key
      ∙ or_right (covered none key) (list_any (test_call key) past.calls.items)
      (list_any_at (test_call key) past.calls.items k d within (in_its_range (get_or past.calls.items k d).call key ∙ concerned)))

  busy_found : All (λ (f : Found). covered busy f.key ≡ true) past.found.items
  busy_found k d within =
      let key : ℕ = (get_or past.found.items k d).key in
      (other key).1 (inl ((one key).1 (inl (has_found key
      ∙ or_right (covered called key) (list_any (λ (f : Found). f.key == key) past.found.items)
      (list_any_at (λ (f : Found). f.key == key) past.found.items k d within (eq-eqb key key refl))))))

  busy_same : (key : ℕ) → covered busy key ≡ false → value_at past.map key ≡ value_at first.map key
  busy_same key fails = values_same (value_at past.map key) (value_at first.map key)
      (λ v at differ. false≢true (sym fails ∙ (other key).1 (inr (v, at, differ))))
      (λ v at differ. false≢true (sym fails ∙ (other key).1 (inl ((one key).1 (inr (v, at, differ))))))

  pub is_busy_for : IsBusyFor first past (covered busy)
  is_busy_for = record { calls = busy_calls; found = busy_found; same = busy_same }

  pub only_busy : (key : ℕ) → covered busy key ≡ true → (covered none key ≡ true) ⊎ (IsOfKey key past ⊎ IsOfKey key first)
  only_busy key holds = ⊎_elim
      (λ differs. ⊎_elim
      (λ from_found. ⊎_elim
      (λ from_calls. ⊎_elim (λ was. inl was)
      (λ of_call. inr (inl (inl (any_as (λ (o : Operation). test_call key o ≡ true) (λ (o : Operation). concerns_key o.call key ≡ true) past.calls.items
      (λ o in_range. sym (in_its_range o.call key) ∙ in_range) (Any-from_list_any (test_call key) past.calls.items of_call)))))
      (or_cases (covered none key) (list_any (test_call key) past.calls.items) (sym (calls key) ∙ from_calls)))
      (λ of_found. inr (inl (inr (inl (any_as (λ (f : Found). (f.key == key) ≡ true) (λ (f : Found). f.key ≡ key) past.found.items
      (λ f same. eqb-true f.key key same) (Any-from_list_any (λ (f : Found). f.key == key) past.found.items of_found))))))
      (or_cases (covered called key) (list_any (λ (f : Found). f.key == key) past.found.items) (sym (has_found key) ∙ from_found)))
      (λ of_first. inr (inr (inr (inr (of_first.0, of_first.1)))))
      ((one key).0 differs))
      (λ of_past. inr (inl (inr (inr (of_past.0, of_past.1)))))
      ((other key).0 holds)

-- the pasts so far are busy only there
pub record AreBusySoFar (pasts done : List Past) (busy : List Range) : Type 0 where
  pub each : (first : Past) (more : List Past) → pasts ≡ first ∷ more → All (λ (past : Past). IsBusyFor first past (covered busy)) done
  pub only : (key : ℕ) → covered busy key ≡ true → Any (IsOfKey key) pasts

wider_for : (first past : Past) (none busy : Keys) → ((key : ℕ) → none key ≡ true → busy key ≡ true) → IsBusyFor first past none
    → IsBusyFor first past busy
wider_for first past none busy wider is = record {
  calls = All-weaker (λ (o : Operation). (key : ℕ) → concerns_key o.call key ≡ true → none key ≡ true)
      (λ (o : Operation). (key : ℕ) → concerns_key o.call key ≡ true → busy key ≡ true)
      (λ o has key concerned. wider key (has key concerned)) past.calls.items is.calls;
  found = All-weaker (λ (f : Found). none f.key ≡ true) (λ (f : Found). busy f.key ≡ true) (λ f has. wider f.key has) past.found.items is.found;
  same = λ key fails. is.same key (not_before (none key) (busy key) (wider key) fails);
}
  where
    not_before : (a b : Bool) → (a ≡ true → b ≡ true) → b ≡ false → a ≡ false
    not_before false b implies fails = refl
    not_before true b implies fails = absurd (false≢true (sym fails ∙ implies refl))

-- one past more
pub busy_next : (pasts : List Past) (i : ℕ) (d e past : Past) (own_calls : List Operation) (own_found : List Found)
    (none called found differing busy : List Range) → i < length pasts → past ≡ get_or pasts i past
    → own_calls ≡ past.calls.items → own_found ≡ past.found.items → HasCalls own_calls none called → HasFound own_found called found
    → HasDiffering (get_or pasts 0 d).map past.map found differing → HasDiffering past.map (get_or pasts 0 e).map differing busy
    → AreBusySoFar pasts (take i pasts) none → AreBusySoFar pasts (take (i + 1) pasts) busy
busy_next pasts i d e past own_calls own_found none called found differing busy within here calls_are found_are calls has_found one other so = record {
  each = λ head more same.
      let own : first ≡ head = ap (λ (l : List Past). get_or l 0 d) same in
      subst (λ (p : Past). All (λ (q : Past). IsBusyFor p q (covered busy)) (take (i + 1) pasts)) own
      (All-more (λ (q : Past). IsBusyFor first q (covered busy)) pasts i past within
      (All-weaker (λ (q : Past). IsBusyFor first q (covered none)) (λ (q : Past). IsBusyFor first q (covered busy))
      (λ q has. wider_for first q (covered none) (covered busy)
      (busy_wider first past none called found differing busy all_calls all_found one back) has) (take i pasts)
      (subst (λ (p : Past). All (λ (q : Past). IsBusyFor p q (covered none)) (take i pasts)) (sym own) (so.each head more same)))
      (subst (λ (q : Past). IsBusyFor first q (covered busy)) here
      (is_busy_for first past none called found differing busy all_calls all_found one back)));
  only = λ key holds. ⊎_elim (λ was. so.only key was)
      (λ new. ⊎_elim (λ of_past. any_at (IsOfKey key) pasts i past within (subst (IsOfKey key) here of_past))
      (λ of_first. any_at (IsOfKey key) pasts 0 d some of_first) new)
      (only_busy first past none called found differing busy all_calls all_found one back key holds);
}
  where
    some : 0 < length pasts
    some = omega (arith, within)

    first : Past
    first = get_or pasts 0 d

    all_calls : HasCalls past.calls.items none called
    all_calls = subst (λ (l : List Operation). HasCalls l none called) calls_are calls

    all_found : HasFound past.found.items called found
    all_found = subst (λ (l : List Found). HasFound l called found) found_are has_found

    back : HasDiffering past.map first.map differing busy
    back = subst (λ (p : Past). HasDiffering past.map p.map differing busy) (get_or_default pasts 0 e d some) other

-- all pasts are, at other ranges of the same keys too
pub busy_end : (pasts : List Past) (i : ℕ) (ranges busy : List Range) → length pasts ≤ i
    → ((key : ℕ) → covered busy key ≡ covered ranges key) → AreBusySoFar pasts (take i pasts) ranges → AreBusy pasts (covered busy)
busy_end pasts i ranges busy past same so =
    by_list pasts refl (subst (λ (l : List Past). AreBusySoFar pasts l ranges) (take_all i pasts past) so)
  where
    not_any : {X : Type 0} (P : X → Type 0) → Any P [] → ⊥
    not_any P (k, x, within, here, holds) = omega (arith, within)

    only_of : (list : List Past) → AreBusySoFar pasts list ranges → (key : ℕ) → covered busy key ≡ true → Any (IsOfKey key) pasts
    only_of list all key holds = all.only key (sym (same key) ∙ holds)

    none_of : (b : Bool) → (b ≡ true → ⊥) → b ≡ false
    none_of true fails = absurd (fails refl)
    none_of false fails = refl

    by_list : (list : List Past) → list ≡ pasts → AreBusySoFar pasts list ranges → AreBusy pasts (covered busy)
    by_list [] is all = subst (λ (l : List Past). AreBusy l (covered busy)) is (record {
      all = λ key. none_of (covered busy key)
          (λ holds. not_any (IsOfKey key) (subst (Any (IsOfKey key)) (sym is) (only_of [] all key holds)));
      only = λ key holds. subst (Any (IsOfKey key)) (sym is) (only_of [] all key holds);
    })
    by_list (first ∷ more) is all = subst (λ (l : List Past). AreBusy l (covered busy)) is (record {
      all = All-weaker (λ (p : Past). IsBusyFor first p (covered ranges)) (λ (p : Past). IsBusyFor first p (covered busy))
          (λ p has. wider_for first p (covered ranges) (covered busy) (λ key holds. same key ∙ holds) has) (first ∷ more) (all.each first more (sym is));
      only = λ key holds. subst (Any (IsOfKey key)) (sym is) (only_of (first ∷ more) all key holds);
    })
