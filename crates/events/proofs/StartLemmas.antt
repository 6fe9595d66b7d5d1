-- The pairs that a history starts with, taken one after another.
use Rattle.events.proofs.Common.{◌≡◌, ℕ, ◌-◌, ◌<◌, true, false, nat_lt, nat_le, List, [], ◌∷◌, ◌++◌, length, get_or, Some, None, refl, sym, ap, ◌∙◌}
use Rattle.events.proofs.Common.{arith, inl, inr, ltb-true, All, slice_get, cases_lt, lt-ltb, le-ltb, nat_tests, get_or_from_slice_get}
use Rattle.events.proofs.Common.{slice_get_within, AllPass-from_list_all, length-append, All-head, All-tail, All-weaker, list_all_at, start_limit}
use Rattle.events.proofs.Common.{KeysRise, IsStart, is_above, pair_fault_after}
use Rattle.events.proofs.Lists.{AllPairs-across}
use Rattle.std.proofs.lemmas.List.Quantifiers.{all_pairs_push}

-- a key above all others is above them
pub is_above-true : (before : List (ℕ × ℕ)) (key : ℕ) → All (λ pair. pair.0 < key) before → is_above before key ≡ true
is_above-true [] key h = refl
is_above-true (pair ∷ before) key h =
    grind (
      arith,
      nat_tests,
      All-head (λ (p : ℕ × ℕ). p.0 < key) pair before h,
      is_above-true before key
          (All-tail (λ (p : ℕ × ℕ). p.0 < key) pair before h),
    )

-- a key that is above some keys is greater than each of them
pub is_above-All : (before : List (ℕ × ℕ)) (key : ℕ) → is_above before key ≡ true → All (λ pair. pair.0 < key) before
is_above-All before key h =
    All-weaker (λ (p : ℕ × ℕ). nat_lt p.0 key ≡ true) (λ (p : ℕ × ℕ). p.0 < key) (λ p is. ltb-true p.0 key is) before
    (AllPass-from_list_all (λ (p : ℕ × ℕ). nat_lt p.0 key) before h)

-- if keys rise, a key is above all where it is above the last
pub is_above_last : (before : List (ℕ × ℕ)) (last : ℕ × ℕ) (key : ℕ) → KeysRise before → slice_get before (length before - 1) ≡ Some last
    → is_above before key ≡ nat_lt last.0 key
is_above_last before last key rising here = elim (cases_lt last.0 key) [
  | inl above ↦ rw (is_above-true before key (all above)) (sym (lt-ltb last.0 key above))
  | inr not_above ↦ list_all_at (λ (p : ℕ × ℕ). nat_lt p.0 key) before (length before - 1) last within
      (rw (get_or_from_slice_get before (length before - 1) last last here) (le-ltb last.0 key not_above))
      ∙ sym (le-ltb last.0 key not_above)
]
  where
    within : length before - 1 < length before
    within = slice_get_within before (length before - 1) last here

    all : last.0 < key → All (λ pair. pair.0 < key) before
    all above k d inside =
        let i = length before - 1 in
        let same : get_or before i d ≡ last = get_or_from_slice_get before i last d here in
        let key_is : (get_or before i d).0 ≡ last.0 = ap (λ (p : ℕ × ℕ). p.0) same in
        let earlier : k < i → (get_or before k d).0 < (get_or before i d).0 = λ lt. rising k i d lt within in
        let at : k ≡ i → (get_or before k d).0 ≡ (get_or before i d).0 = λ e. ap (λ j. (get_or before j d).0) e in
        grind (arith, key_is, earlier, at)

-- one pair more, whose key is above all
pub IsStart-push : (before : List (ℕ × ℕ)) (pair : ℕ × ℕ) → IsStart before → length before < start_limit → is_above before pair.0 ≡ true
    → IsStart (before ++ pair ∷ [])
IsStart-push before pair h room above = record {
  rising = all_pairs_push (λ (a : ℕ × ℕ) (b : ℕ × ℕ). a.0 < b.0) before pair h.rising (is_above-All before pair.0 above);
  few = rw (length-append before (pair ∷ [])) (omega arith);
}

-- nothing is wrong with a pair of a start, after those before it
pub IsStart-next : (before rest : List (ℕ × ℕ)) (pair : ℕ × ℕ) → IsStart (before ++ pair ∷ rest) → pair_fault_after before pair ≡ None
IsStart-next before rest pair h =
    let across = AllPairs-across (λ (a : ℕ × ℕ) (b : ℕ × ℕ). a.0 < b.0) before (pair ∷ rest) h.rising in
    let lower : All (λ p. p.0 < pair.0) before =
    All-weaker (λ (a : ℕ × ℕ). All (λ (b : ℕ × ℕ). a.0 < b.0) (pair ∷ rest)) (λ (a : ℕ × ℕ). a.0 < pair.0)
    (λ a later. All-head (λ (b : ℕ × ℕ). a.0 < b.0) pair rest later) before across in
    let room : length before < start_limit = omega (arith, h.few, length-append before (pair ∷ rest)) in
    let few : nat_le start_limit (length before) ≡ false = grind (arith, nat_tests) in
    rw (few, is_above-true before pair.0 lower) refl
