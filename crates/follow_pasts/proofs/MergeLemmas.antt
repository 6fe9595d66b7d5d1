-- The pairs and the calls of two pasts together.
use Rattle.events.specs.declared.event.Reply.TheVariants as replies
use Rattle.follow_pasts.proofs.Common.{◌≡◌, ℕ, zero, suc, ◌<◌, ◌≤◌, ◌+◌, ◌==◌, Bool, true, false, cond, List, [], ◌∷◌, ◌++◌, length, get_or, take, drop}
use Rattle.follow_pasts.proofs.Common.{Option, Some, None, inl, inr, refl, sym, ap, ◌∙◌, subst, ⊎_elim, arith, ◌⊎◌, ◌↔◌, ◌≢◌, All, AllPairs, Contains}
use Rattle.follow_pasts.proofs.Common.{slice_get, insert, eqb-true, eq-eqb, false≢true, cases_order, drop_more, take_more, take_all, All-cons}
use Rattle.follow_pasts.proofs.Common.{All-contains, Contains-append_left, Contains-append_right, Contains-append_cases, Contains-push_cases}
use Rattle.follow_pasts.proofs.Common.{Contains-push, AllPairs-cons, All-from_contains, AllPairs-append, AllPairs-front, AllPairs-back, AllPairs-across}
use Rattle.follow_pasts.proofs.Common.{AllPairs-at, Contains-first, Contains-later, Contains-cases, place_before-Contains, Insert, Operation, Contents}
use Rattle.follow_pasts.proofs.Common.{IsRising, value_at, below, above, put, AreBelow-below, AreAbove-above, AreAbove-first, IsRising-insert}
use Rattle.follow_pasts.proofs.Common.{value_at_found, value_at_above, or_else, IsPlaceFor}
use Rattle.call_effects.proofs.ValueLemmas.{value_left}

take_and_drop : {X : Type 0} (xs : List X) (i : ℕ) → take i xs ++ drop i xs ≡ xs
take_and_drop xs zero = refl
take_and_drop [] (suc i) = refl
take_and_drop (x ∷ xs) (suc i) = ap (λ l. x ∷ l) (take_and_drop xs i)

-- ---- pairs

put_here : (m : Contents) (k v : ℕ) → value_at (put k v m) k ≡ Some v
put_here m k v = value_at_found k v (below k m) (above k m) (AreBelow-below m k) (AreAbove-above m k)

put_else : (m : Contents) (k v key : ℕ) → (k == key) ≡ false → value_at (put k v m) key ≡ value_at m key
put_else m k v key other =
    value_left m (record { inv = 0; call = Insert k v; response = Some (record { res = 0; reply = replies.Done }) }) key (⊎_elim
    (λ same. absurd (false≢true (sym other ∙ eq-eqb k key same)))
    (λ differ. ⊎_elim (λ less. inr less) (λ more. inl more) differ)
    (cases_order k key))

-- the pairs that are left to add, before those that are there, have the values of all
abbrev pub AreAdding : Contents → Contents → ℕ → Contents → Type 0
AreAdding pairs others i both =
    (key : ℕ) → or_else (value_at (drop i others) key) (value_at both key) ≡ or_else (value_at others key) (value_at pairs key)

pub adding_more : (pairs others both next : Contents) (i : ℕ) (pair : ℕ × ℕ) → IsRising others → i < length others
    → pair ≡ get_or others i pair → next ≡ put pair.0 pair.1 both → AreAdding pairs others i both → AreAdding pairs others (i + 1) next
adding_more pairs others both next i (k, v) rising within here is so key = by_test (k == key) refl
  where
    rest : Contents
    rest = drop (i + 1) others

    parts : drop i others ≡ (k, v) ∷ rest
    parts = drop_more others i (k, v) within ∙ ap (λ (p : ℕ × ℕ). p ∷ rest) (sym here)

    first : IsRising ((k, v) ∷ rest)
    first = subst IsRising parts
        (AllPairs-back (λ (a : ℕ × ℕ) (b : ℕ × ℕ). a.0 < b.0) (take i others) (drop i others) (subst IsRising (sym (take_and_drop others i)) rising))

    before : or_else (value_at ((k, v) ∷ rest) key) (value_at both key) ≡ or_else (value_at others key) (value_at pairs key)
    before = subst (λ (l : Contents). or_else (value_at l key) (value_at both key) ≡ or_else (value_at others key) (value_at pairs key)) parts (so key)

    by_test : (t : Bool) → (k == key) ≡ t → or_else (value_at rest key) (value_at next key) ≡ or_else (value_at others key) (value_at pairs key)
    by_test true test =
        let named : k ≡ key = eqb-true k key test in
        ap (λ (o : Option ℕ). or_else o (value_at next key))
        (subst (λ (n : ℕ). value_at rest n ≡ None) named (value_at_above k rest (AreAbove-first (k, v) rest first)))
        ∙ (ap (λ (m : Contents). value_at m key) is ∙ subst (λ (n : ℕ). value_at (put k v both) n ≡ Some v) named (put_here both k v)
        ∙ (ap (λ (b : Bool). or_else (cond b (Some v) (value_at rest key)) (value_at both key)) (sym test) ∙ before))
    by_test false test =
        ap (λ (o : Option ℕ). or_else (value_at rest key) o) (ap (λ (m : Contents). value_at m key) is ∙ put_else both k v key test)
        ∙ (ap (λ (b : Bool). or_else (cond b (Some v) (value_at rest key)) (value_at both key)) (sym test) ∙ before)

get_or_any : {X : Type 0} (xs : List X) (i : ℕ) (d e : X) → i < length xs → get_or xs i d ≡ get_or xs i e
get_or_any [] i d e within = absurd (omega (arith, within))
get_or_any (x ∷ xs) zero d e within = refl
get_or_any (x ∷ xs) (suc i) d e within = get_or_any xs i d e (omega (arith, within))

pub adding_next : (pairs others list both next : Contents) (i : ℕ) (d : ℕ × ℕ) → list ≡ others → IsRising others → i < length list
    → next ≡ put (get_or list i d).0 (get_or list i d).1 both → AreAdding pairs others i both → AreAdding pairs others (i + 1) next
adding_next pairs others list both next i d same rising within is so =
    adding_more pairs others both next i (get_or list i d) rising (subst (λ (l : Contents). i < length l) same within)
    (get_or_any list i d (get_or list i d) within ∙ ap (λ (l : Contents). get_or l i (get_or list i d)) same) is so

pub adding_rises : (both next : Contents) (pair : ℕ × ℕ) → next ≡ put pair.0 pair.1 both → IsRising both → IsRising next
adding_rises both next pair is rising = subst IsRising (sym is) (IsRising-insert both rising pair.0 pair.1)

-- ---- calls

pub record AreMerging (calls others all : List Operation) (i : ℕ) : Type 0 where
  pub rising : AllPairs (λ o p. o.inv < p.inv) all
  pub each : (o : Operation) → Contains all o ↔ (Contains calls o ⊎ Contains (take i others) o)

abbrev IsBefore : Operation → Operation → Type 0
IsBefore o p = o.inv < p.inv

pub merging_more : (calls others all : List Operation) (i place : ℕ) (o : Operation) → AllPairs (λ o p. o.inv < p.inv) others
    → All (λ a. All (λ b. a.inv ≢ b.inv) others) calls → i < length others → o ≡ get_or others i o → Contains others o
    → slice_get others i ≡ Some o → IsPlaceFor all o.inv place → AreMerging calls others all i
    → AreMerging calls others (insert all place o) (i + 1)
merging_more calls others all i place o rising apart within here o_in there is so = record {
  rising = AllPairs-append IsBefore front (o ∷ back) (AllPairs-front IsBefore front back parted)
      (AllPairs-cons IsBefore o back above (AllPairs-back IsBefore front back parted))
      (All-from_contains (λ (a : Operation). All (IsBefore a) (o ∷ back)) front (λ a a_in.
      All-cons (IsBefore a) o back (All-contains (λ (x : Operation). x.inv < o.inv) front a is.less a_in)
      (All-contains (λ (x : Operation). All (IsBefore x) back) front a (AllPairs-across IsBefore front back parted) a_in)));
  each = λ p. (
    λ p_in. ⊎_elim (λ same. inr (subst (λ (l : List Operation). Contains l p) (sym taken)
        (subst (Contains (take i others ++ o ∷ [])) same (Contains-push (take i others) o))))
        (λ old. ⊎_elim (λ own. inl own)
        (λ first. inr (subst (λ (l : List Operation). Contains l p) (sym taken) (Contains-append_left (take i others) (o ∷ []) p first)))
        ((so.each p).0 (subst (λ (l : List Operation). Contains l p) (take_and_drop all place) (⊎_elim
        (λ l. Contains-append_left front back p l) (λ r. Contains-append_right front back p r) old))))
        (around p p_in),
    λ which. ⊎_elim (λ own. back_in p ((so.each p).1 (inl own)))
        (λ first. ⊎_elim (λ earlier. back_in p ((so.each p).1 (inr earlier)))
        (λ same. subst (Contains (front ++ o ∷ back)) same (Contains-append_right front (o ∷ back) o (Contains-first o back)))
        (Contains-push_cases (take i others) o p (subst (λ (l : List Operation). Contains l p) taken first)))
        which,
  );
}
  where
    front : List Operation
    front = take place all

    back : List Operation
    back = drop place all

    taken : take (i + 1) others ≡ take i others ++ o ∷ []
    taken = take_more others i o within ∙ ap (λ (x : Operation). take i others ++ x ∷ []) (sym here)

    parted : AllPairs IsBefore (front ++ back)
    parted = subst (AllPairs IsBefore) (sym (take_and_drop all place)) so.rising

    differs : (a : Operation) → Contains all a → a.inv ≡ o.inv → ⊥
    differs a a_in e = ⊎_elim
        (λ own. All-contains (λ (b : Operation). a.inv ≢ b.inv) others o
        (All-contains (λ (x : Operation). All (λ (b : Operation). x.inv ≢ b.inv) others) calls a apart own) o_in e)
        (λ first.
        let (j, less, at) = place_before-Contains others i a first in
        let before : a.inv < o.inv = AllPairs-at IsBefore others j i a o rising less at there in
        omega (arith, before, e))
        ((so.each a).0 a_in)

    above : All (IsBefore o) back
    above = All-from_contains (IsBefore o) back (λ a a_in.
        let no_less : o.inv ≤ a.inv = All-contains (λ (x : Operation). o.inv ≤ x.inv) back a is.no_less a_in in
        let other : a.inv ≡ o.inv → ⊥ = differs a
        (subst (λ (l : List Operation). Contains l a) (take_and_drop all place) (Contains-append_right front back a a_in)) in
        ⊎_elim (λ same. absurd (other (sym same)))
        (λ differ. ⊎_elim (λ less. less) (λ more. absurd (omega (arith, more, no_less))) differ)
        (cases_order o.inv a.inv))

    around : (p : Operation) → Contains (front ++ o ∷ back) p → (o ≡ p) ⊎ (Contains front p ⊎ Contains back p)
    around p p_in = ⊎_elim (λ l. inr (inl l))
        (λ r. ⊎_elim (λ same. inl same) (λ later. inr (inr later)) (Contains-cases o back p r))
        (Contains-append_cases front (o ∷ back) p p_in)

    back_in : (p : Operation) → Contains all p → Contains (front ++ o ∷ back) p
    back_in p p_in = ⊎_elim (λ l. Contains-append_left front (o ∷ back) p l)
        (λ r. Contains-append_right front (o ∷ back) p (Contains-later o back p r))
        (Contains-append_cases front back p (subst (λ (l : List Operation). Contains l p) (sym (take_and_drop all place)) p_in))

pub merging_all : (calls others all : List Operation) (i : ℕ) → length others ≤ i → AreMerging calls others all i → (o : Operation)
    → Contains all o ↔ (Contains calls o ⊎ Contains others o)
merging_all calls others all i past so o =
    subst (λ (l : List Operation). Contains all o ↔ (Contains calls o ⊎ Contains l o)) (take_all i others past) (so.each o)
