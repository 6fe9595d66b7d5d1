-- The keys at rest of a range are taken out.
use Rattle.follow_pasts.proofs.Common.{◌≡◌, ℕ, ◌<◌, ◌≤◌, ◌+◌, ◌==◌, Bool, true, false, cond, ◌||◌, List, [], ◌∷◌, ◌++◌, map, take, length, get_or}
use Rattle.follow_pasts.proofs.Common.{Option, Some, None, refl, sym, ap, ◌∙◌, subst, arith, ◌↔◌, nat_le, AllPairs, Contains, Result, Ok, Err, IfOk}
use Rattle.follow_pasts.proofs.Common.{OnOk, IsSome, eqb-true, eq-eqb, false≢true, and_parts, and_from, leb-true, le-leb, map-append, take_more}
use Rattle.follow_pasts.proofs.Common.{take_all, none-some, get_or_from_slice_get, Contains-get_or, has_number, AllPairs-from_map}
use Rattle.follow_pasts.proofs.Common.{place_before-Contains, has_number-Contains, has_number-from_Contains, has_number-push, Contents, IsRising}
use Rattle.follow_pasts.proofs.Common.{value_at, same_pairs, pairs_at, from_to, ArePairsOf}
use Rattle.packed_map.specs.Entries.{value_at as packed_at}
use Rattle.follow_pasts.proofs.UnionLemmas.{pairs_rise, none_either, values_at_some}

pub same_value : (pairs : Contents) (key : ℕ) → packed_at pairs key ≡ value_at pairs key
same_value [] key = refl
same_value ((k, v) ∷ pairs) key = ap (λ (o : Option ℕ). cond (k == key) (Some v) o) (same_value pairs key)

-- the keys so far were taken, with their values
pub record AreTaken (old new pairs : Contents) (done : List ℕ) : Type 0 where
  pub rises : IsRising new
  pub named : map (λ (p : ℕ × ℕ). p.0) pairs ≡ done
  pub left : (key : ℕ) → value_at new key ≡ cond (has_number done key) None (value_at old key)
  pub values : (key : ℕ) → value_at pairs key ≡ cond (has_number done key) (value_at old key) None

push_value : (pairs : Contents) (k v key : ℕ) → (k == key) ≡ false → value_at (pairs ++ (k, v) ∷ []) key ≡ value_at pairs key
push_value [] k v key other = ap (λ (b : Bool). cond b (Some v) None) other
push_value ((l, w) ∷ pairs) k v key other = ap (λ (o : Option ℕ). cond (l == key) (Some w) o) (push_value pairs k v key other)

push_here : (pairs : Contents) (k v : ℕ) → value_at pairs k ≡ None → value_at (pairs ++ (k, v) ∷ []) k ≡ Some v
push_here [] k v none = ap (λ (b : Bool). cond b (Some v) None) (eq-eqb k k refl)
push_here ((l, w) ∷ pairs) k v none = by_test (l == k) none (λ is. push_here pairs k v is)
  where
    by_test : (b : Bool) → cond b (Some w) (value_at pairs k) ≡ None
        → (value_at pairs k ≡ None → value_at (pairs ++ (k, v) ∷ []) k ≡ Some v)
        → cond b (Some w) (value_at (pairs ++ (k, v) ∷ []) k) ≡ Some v
    by_test true is later = absurd (none-some w (sym is))
    by_test false is later = later is

pub taken_more : (old rest new pairs : Contents) (done : List ℕ) (k v : ℕ) → has_number done k ≡ false → value_at rest k ≡ Some v
    → ((key : ℕ) → value_at new key ≡ cond (key == k) None (value_at rest key)) → IsRising new → AreTaken old rest pairs done
    → AreTaken old new (pairs ++ (k, v) ∷ []) (done ++ k ∷ [])
taken_more old rest new pairs done k v fresh there out rising so = record {
  rises = rising;
  named = map-append (λ (p : ℕ × ℕ). p.0) pairs ((k, v) ∷ []) ∙ ap (λ (l : List ℕ). l ++ k ∷ []) so.named;
  left = λ key. out key ∙ (ap (λ (o : Option ℕ). cond (key == k) None o) (so.left key) ∙ (left_by (key == k) (k == key) (has_number done key) (value_at old key)
      (λ is. eq-eqb k key (sym (eqb-true key k is))) (λ is. eq-eqb key k (sym (eqb-true k key is)))
      ∙ ap (λ (b : Bool). cond b None (value_at old key)) (sym (has_number-push done k key))));
  values = λ key. by_test key (k == key) refl ∙ ap (λ (b : Bool). cond b (value_at old key) None) (sym (has_number-push done k key));
}
  where
    left_by : (a b h : Bool) (o : Option ℕ) → (a ≡ true → b ≡ true) → (b ≡ true → a ≡ true)
        → cond a None (cond h None o) ≡ cond (h || b) None o
    left_by true true true o forth back = refl
    left_by true true false o forth back = refl
    left_by true false h o forth back = absurd (false≢true (forth refl))
    left_by false true h o forth back = absurd (false≢true (back refl))
    left_by false false true o forth back = refl
    left_by false false false o forth back = refl

    either : (h : Bool) (o : Option ℕ) → cond h o None ≡ cond (h || false) o None
    either true o = refl
    either false o = refl

    by_test : (key : ℕ) (t : Bool) → (k == key) ≡ t
        → value_at (pairs ++ (k, v) ∷ []) key ≡ cond (has_number done key || (k == key)) (value_at old key) None
    by_test key true test =
        let named : k ≡ key = eqb-true k key test in
        let at : value_at old k ≡ Some v = sym (so.left k ∙ ap (λ (b : Bool). cond b None (value_at old k)) fresh) ∙ there in
        let no : has_number done key ≡ false = subst (λ (n : ℕ). has_number done n ≡ false) named fresh in
        subst (λ (n : ℕ). value_at (pairs ++ (k, v) ∷ []) n ≡ Some v) named
        (push_here pairs k v (so.values k ∙ ap (λ (b : Bool). cond b (value_at old k) None) fresh))
        ∙ (sym (subst (λ (n : ℕ). value_at old n ≡ Some v) named at)
        ∙ sym (rw no (rw test refl)))
    by_test key false test = push_value pairs k v key test ∙ (so.values key ∙ (either (has_number done key) (value_at old key)
        ∙ ap (λ (b : Bool). cond (has_number done key || b) (value_at old key) None) (sym test)))

-- all keys of the range that have a value
pub taken_all : (low high : ℕ) (old new pairs : Contents) (keys : List ℕ) → AllPairs (λ k l. k < l) keys
    → ((key : ℕ) → Contains keys key ↔ ((low ≤ key) × (key ≤ high) × IsSome (packed_at old key))) → IsRising old
    → AreTaken old new pairs keys → ArePairsOf low high old new pairs
taken_all low high old new pairs keys rising each old_rises so = record {
  taken = same_pairs pairs (pairs_at (from_to low high) old)
      (AllPairs-from_map (λ (k : ℕ) (l : ℕ). k < l) (λ (p : ℕ × ℕ). p.0) pairs (subst (AllPairs (λ (k : ℕ) (l : ℕ). k < l)) (sym so.named) rising))
      (pairs_rise (from_to low high) old old_rises)
      (λ key. so.values key ∙ (by_test key (has_number keys key) refl (value_at old key) refl ∙ sym (values_at_some (from_to low high) old key)));
  left = so.rises;
  values = λ key. so.left key ∙ by_left key (has_number keys key) refl (value_at old key) refl;
}
  where
    inside : (key : ℕ) → has_number keys key ≡ true → from_to low high key ≡ true
    inside key has =
        let is = (each key).0 (has_number-Contains keys key has) in
        and_from (nat_le low key) (nat_le key high) (le-leb low key is.0) (le-leb key high is.1)

    has_of : (key v : ℕ) → from_to low high key ≡ true → value_at old key ≡ Some v → has_number keys key ≡ true
    has_of key v here at =
        let both = and_parts (nat_le low key) (nat_le key high) here in
        has_number-from_Contains keys key ((each key).1 (
          leb-true low key both.0,
          leb-true key high both.1,
          subst IsSome (sym (same_value old key ∙ at)) refl,
        ))

    by_test : (key : ℕ) (h : Bool) → has_number keys key ≡ h → (o : Option ℕ) → value_at old key ≡ o
        → cond h o None ≡ cond (from_to low high key) o None
    by_test key true has o at = ap (λ (b : Bool). cond b o None) (sym (inside key has))
    by_test key false has None at = none_either (from_to low high key)
    by_test key false has (Some v) at = out (from_to low high key) refl
      where
        out : (b : Bool) → from_to low high key ≡ b → None ≡ cond b (Some v) None
        out true here = absurd (false≢true (sym has ∙ has_of key v here at))
        out false here = refl

    by_left : (key : ℕ) (h : Bool) → has_number keys key ≡ h → (o : Option ℕ) → value_at old key ≡ o
        → cond h None o ≡ cond (from_to low high key) None o
    by_left key true has o at = ap (λ (b : Bool). cond b None o) (sym (inside key has))
    by_left key false has None at = none_either (from_to low high key)
    by_left key false has (Some v) at = out (from_to low high key) refl
      where
        out : (b : Bool) → from_to low high key ≡ b → Some v ≡ cond b None (Some v)
        out true here = absurd (false≢true (sym has ∙ has_of key v here at))
        out false here = refl

-- ---- the loop over the keys

pub fresh_at : (keys : List ℕ) (i : ℕ) → AllPairs (λ k l. k < l) keys → i < length keys → has_number (take i keys) (get_or keys i 0) ≡ false
fresh_at keys i rising within = by_test (has_number (take i keys) (get_or keys i 0)) refl
  where
    by_test : (b : Bool) → has_number (take i keys) (get_or keys i 0) ≡ b → has_number (take i keys) (get_or keys i 0) ≡ false
    by_test false is = is
    by_test true is =
        let (j, less, at) = place_before-Contains keys i (get_or keys i 0) (has_number-Contains (take i keys) (get_or keys i 0) is) in
        let same : get_or keys j 0 ≡ get_or keys i 0 = get_or_from_slice_get keys j (get_or keys i 0) 0 at in
        let below : get_or keys j 0 < get_or keys i 0 = rising j i 0 less within in
        absurd (omega (arith, same, below))

pub taken_next : (old rest new pairs next : Contents) (keys : List ℕ) (i v : ℕ) (found : Option ℕ) → AllPairs (λ k l. k < l) keys
    → i < length keys → found ≡ packed_at rest (get_or keys i 0) → found ≡ Some v
    → ((key : ℕ) → packed_at new key ≡ cond (key == get_or keys i 0) None (packed_at rest key)) → IsRising new
    → next ≡ pairs ++ (get_or keys i 0, v) ∷ [] → AreTaken old rest pairs (take i keys) → AreTaken old new next (take (i + 1) keys)
taken_next old rest new pairs next keys i v found rising within was is out rises same so =
    subst (λ (l : List ℕ). AreTaken old new next l) (sym (take_more keys i 0 within))
    (subst (λ (l : Contents). AreTaken old new l (take i keys ++ get_or keys i 0 ∷ [])) (sym same)
    (taken_more old rest new pairs (take i keys) (get_or keys i 0) v (fresh_at keys i rising within)
    (sym (same_value rest (get_or keys i 0)) ∙ (sym was ∙ is))
    (λ key. sym (same_value new key) ∙ (out key ∙ ap (λ (o : Option ℕ). cond (key == get_or keys i 0) None o) (same_value rest key)))
    rises so))

-- each key has a value until it is taken
pub has_value : (low high : ℕ) (old rest pairs : Contents) (keys : List ℕ) (i : ℕ) → AllPairs (λ k l. k < l) keys
    → ((key : ℕ) → Contains keys key ↔ ((low ≤ key) × (key ≤ high) × IsSome (packed_at old key))) → i < length keys
    → AreTaken old rest pairs (take i keys) → IsSome (packed_at rest (get_or keys i 0))
has_value low high old rest pairs keys i rising each within so =
    let k = get_or keys i 0 in
    let there = ((each k).0 (Contains-get_or keys i 0 within)).2 in
    subst IsSome (same_value old k
    ∙ (ap (λ (b : Bool). cond b None (value_at old k)) (sym (fresh_at keys i rising within))
    ∙ (sym (so.left k) ∙ sym (same_value rest k)))) there

pub taken_rise : (pairs : Contents) (keys : List ℕ) (i : ℕ) → AllPairs (λ k l. k < l) keys → length keys ≤ i
    → map (λ (p : ℕ × ℕ). p.0) pairs ≡ take i keys → IsRising pairs
taken_rise pairs keys i rising past named =
    AllPairs-from_map (λ (k : ℕ) (l : ℕ). k < l) (λ (p : ℕ × ℕ). p.0) pairs
    (subst (AllPairs (λ (k : ℕ) (l : ℕ). k < l)) (sym (named ∙ take_all i keys past)) rising)

pub taken_end : (low high : ℕ) (old new pairs : Contents) (keys : List ℕ) (i : ℕ) → AllPairs (λ k l. k < l) keys
    → ((key : ℕ) → Contains keys key ↔ ((low ≤ key) × (key ≤ high) × IsSome (packed_at old key))) → IsRising old → length keys ≤ i
    → AreTaken old new pairs (take i keys) → ArePairsOf low high old new pairs
taken_end low high old new pairs keys i rising each old_rises past so =
    taken_all low high old new pairs keys rising each old_rises (subst (λ (l : List ℕ). AreTaken old new pairs l) (take_all i keys past) so)

pub each_at : (low high : ℕ) (old : Contents) (keys list : List ℕ) → list ≡ keys
    → ((key : ℕ) → Contains keys key ↔ ((low ≤ key) × (key ≤ high) × IsSome (packed_at old key))) → (key : ℕ)
    → Contains list key ↔ ((low ≤ key) × (key ≤ high) × IsSome (packed_at old key))
each_at low high old keys list same each key =
    subst (λ (l : List ℕ). Contains l key ↔ ((low ≤ key) × (key ≤ high) × IsSome (packed_at old key))) (sym same) (each key)

pub of_taken : {E : Type 0} (result : Result Contents E) (pairs : Contents) (P : Contents → Type 0) → IfOk result (λ m. m ≡ pairs)
    → P pairs → OnOk result (IfOk result P)
of_taken (Ok m) pairs P is h = subst P (sym is) h
of_taken (Err e) pairs P is h = tt

pub not_none : (found : Option ℕ) → IsSome found → found ≡ None → ⊥
not_none found some none = false≢true (subst IsSome none some)
