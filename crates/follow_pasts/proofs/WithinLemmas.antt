-- The pairs of the keys of a range, one key after another.
use Rattle.follow_pasts.proofs.Common.{◌≡◌, ℕ, ◌+◌, ◌<◌, ◌≤◌, ◌==◌, Bool, true, false, not, cond, ◌||◌, List, [], ◌∷◌, ◌++◌, map, length, get_or, take}
use Rattle.follow_pasts.proofs.Common.{Option, Some, None, refl, sym, ap, ◌∙◌, subst, ◌↔◌, AllPairs, Contains, IsSome, eq-eqb, eqb-true, false≢true}
use Rattle.follow_pasts.proofs.Common.{map-append, take_more, take_all, has_number, has_number-push, Contents, IsRising, value_at, pairs_at, from_to}
use Rattle.packed_map.specs.Entries.{value_at as packed_at}
use Rattle.follow_pasts.proofs.PairLemmas.{value_at-push}
use Rattle.follow_pasts.proofs.TakenLemmas.{same_value, fresh_at, taken_all}
use Rattle.follow_pasts.proofs.UnionLemmas.{pairs_rise, values_at_some}

-- the pairs of the keys so far
pub record AreRead (rest pairs : Contents) (done : List ℕ) : Type 0 where
  pub named : map (λ (p : ℕ × ℕ). p.0) pairs ≡ done
  pub values : (key : ℕ) → value_at pairs key ≡ cond (has_number done key) (value_at rest key) None

pub read_more : (rest pairs : Contents) (done : List ℕ) (k v : ℕ) → has_number done k ≡ false → value_at rest k ≡ Some v
    → AreRead rest pairs done → AreRead rest (pairs ++ (k, v) ∷ []) (done ++ k ∷ [])
read_more rest pairs done k v fresh there so = record {
  named = map-append (λ (p : ℕ × ℕ). p.0) pairs ((k, v) ∷ []) ∙ ap (λ (l : List ℕ). l ++ k ∷ []) so.named;
  values = λ key.
      value_at-push pairs k v key (so.values k ∙ ap (λ (b : Bool). cond b (value_at rest k) None) fresh)
      ∙ (by_test key (key == k) refl
      ∙ ap (λ (b : Bool). cond b (value_at rest key) None) (sym (has_number-push done k key)));
}
  where
    either : (h : Bool) (o : Option ℕ) → cond h o None ≡ cond (h || false) o None
    either true o = refl
    either false o = refl

    or_true : (h : Bool) (o : Option ℕ) → o ≡ cond (h || true) o None
    or_true true o = refl
    or_true false o = refl

    other : (key : ℕ) (b : Bool) → (key == k) ≡ false → (k == key) ≡ b → b ≡ false
    other key false apart is = refl
    other key true apart is = absurd (false≢true (sym apart ∙ eq-eqb key k (sym (eqb-true k key is))))

    by_test : (key : ℕ) (t : Bool) → (key == k) ≡ t
        → cond t (Some v) (value_at pairs key) ≡ cond (has_number done key || (k == key)) (value_at rest key) None
    by_test key true test =
        let named : key ≡ k = eqb-true key k test in
        sym (subst (λ (n : ℕ). value_at rest n ≡ Some v) (sym named) there)
        ∙ (or_true (has_number done key) (value_at rest key)
        ∙ ap (λ (b : Bool). cond (has_number done key || b) (value_at rest key) None) (sym (eq-eqb k key (sym named))))
    by_test key false test =
        so.values key ∙ (either (has_number done key) (value_at rest key)
        ∙ ap (λ (b : Bool). cond (has_number done key || b) (value_at rest key) None) (sym (other key (k == key) test refl)))

-- one key more, with its value
pub read_next : (rest pairs next : Contents) (keys : List ℕ) (i v : ℕ) → AllPairs (λ k l. k < l) keys → i < length keys
    → packed_at rest (get_or keys i 0) ≡ Some v → next ≡ pairs ++ (get_or keys i 0, v) ∷ [] → AreRead rest pairs (take i keys)
    → AreRead rest next (take (i + 1) keys)
read_next rest pairs next keys i v rising within found pushed so =
    subst (λ (l : List ℕ). AreRead rest next l) (sym (take_more keys i 0 within))
    (subst (λ (m : Contents). AreRead rest m (take i keys ++ get_or keys i 0 ∷ [])) (sym pushed)
    (read_more rest pairs (take i keys) (get_or keys i 0) v (fresh_at keys i rising within)
    (sym (same_value rest (get_or keys i 0)) ∙ found) so))

-- all keys of the range that have a value
pub read_end : (low high : ℕ) (rest pairs : Contents) (keys : List ℕ) (i : ℕ) → AllPairs (λ k l. k < l) keys
    → ((key : ℕ) → Contains keys key ↔ ((low ≤ key) × (key ≤ high) × IsSome (packed_at rest key))) → IsRising rest → length keys ≤ i
    → AreRead rest pairs (take i keys) → pairs ≡ pairs_at (from_to low high) rest
read_end low high rest pairs keys i rising each rest_rises past so =
    let all : AreRead rest pairs keys = subst (λ (l : List ℕ). AreRead rest pairs l) (take_all i keys past) so in
    let others : ℕ → Bool = λ key. not (has_number keys key) in
    (taken_all low high rest (pairs_at others rest) pairs keys rising each rest_rises (record {
      rises = pairs_rise others rest rest_rises;
      named = all.named;
      left = λ key. values_at_some others rest key ∙ turned (has_number keys key) (value_at rest key);
      values = all.values;
    })).taken
  where
    turned : (b : Bool) (o : Option ℕ) → cond (not b) o None ≡ cond b None o
    turned true o = refl
    turned false o = refl
