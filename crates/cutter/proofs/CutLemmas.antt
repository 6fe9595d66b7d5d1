-- Which calls are together: those whose ranges hang together are, and those whose ranges lie apart are not.
use Rattle.cutter.proofs.Common.{◌≡◌, ℕ, ◌+◌, ◌<◌, ◌≤◌, true, false, ◌&&◌, ltb, leb, List, ◌++◌, get_or, Some, refl, sym, ap, ◌∙◌, inl, inr, ⊎_elim}
use Rattle.cutter.proofs.Common.{arith, ◌⊎◌, slice_get, All, Contains, false≢true, both_ways, cases_Bool, or_left, or_cases, and_left, and_right}
use Rattle.cutter.proofs.Common.{and_from, le-ltb, lt-leb, lt-ltb, le-leb, All-contains, Contains-append_left, Contains-append_right}
use Rattle.cutter.proofs.Common.{Contains-append_cases, same_Some, slice_get-get_or, Operation, is_completed, low_key, high_key, may_change, belongs}
use Rattle.cutter.proofs.Common.{spans, IsCut, Separates, BelongsAt, AreTogether, Contains-at, All-from_contains, greatest_bound, Contains-from_map}
use Rattle.cutter.proofs.Common.{greatest_is, KeyRange, IsRangeOf, AreRanges, AreChained, AreApart}
use Rattle.events.specs.declared.event.Call.{Call}
use Rattle.events.specs.declared.event.Call.TheVariants.{Get, Insert, Remove, Scan, Replace}
use Rattle.cutter.proofs.ChainLemmas.{reach_of, Any-from_contains}

-- a call that may change the map names one key
one_key : (call : Call) → may_change call ≡ true → low_key call ≡ high_key call
one_key (Get key) h = refl
one_key (Insert key value) h = refl
one_key (Remove key) h = refl
one_key (Scan low high) h = absurd (false≢true h)
one_key (Replace key expected value) h = refl

-- a call that belongs and has keys on both sides of c is a completed scan over c
spans-from_keys : (c : ℕ) (a : Operation) → belongs a ≡ true → low_key a.call < c → c ≤ high_key a.call → spans c a ≡ true
spans-from_keys c a belonging low high = and_from (is_completed a) (ltb (low_key a.call) c && leb c (high_key a.call))
    (⊎_elim (λ completed. completed) (λ change. let one = one_key a.call change in absurd (omega arith))
    (or_cases (is_completed a) (may_change a.call) belonging))
    (and_from (ltb (low_key a.call) c) (leb c (high_key a.call)) (lt-ltb (low_key a.call) c low) (le-leb c (high_key a.call) high))

-- a completed call whose keys lie on one side of c is no scan over c
not_spans-from_keys : (c : ℕ) (a : Operation) → (is_completed a ≡ true → (c ≤ low_key a.call) ⊎ (high_key a.call < c)) → spans c a ≡ false
not_spans-from_keys c a h = ⊎_elim
    (λ completed. and_right (is_completed a) (ltb (low_key a.call) c && leb c (high_key a.call)) (⊎_elim
    (λ low. and_left (ltb (low_key a.call) c) (leb c (high_key a.call)) (le-ltb (low_key a.call) c low))
    (λ high. and_right (ltb (low_key a.call) c) (leb c (high_key a.call)) (lt-leb c (high_key a.call) high)) (h completed)))
    (λ pending. and_left (is_completed a) (ltb (low_key a.call) c && leb c (high_key a.call)) pending) (cases_Bool (is_completed a))

-- what is said of the calls at two places is said of the numbers
AreTogether-at : (calls : List Operation) (m n : ℕ) (a b : Operation) → slice_get calls m ≡ Some a → slice_get calls n ≡ Some b
    → ((c : ℕ) → IsCut calls c → Separates c a.call b.call → ⊥) → AreTogether calls m n
AreTogether-at calls m n a b m_here n_here h = rw (m_here, n_here) h

-- what is said of the numbers is said of the calls at their places
AreTogether-from : (calls : List Operation) (m n : ℕ) (a b : Operation) → slice_get calls m ≡ Some a → slice_get calls n ≡ Some b
    → AreTogether calls m n
    → (c : ℕ) → IsCut calls c → Separates c a.call b.call → ⊥
AreTogether-from calls m n a b m_here n_here h = rw (m_here, n_here) at h

-- no cut goes between ranges that hang together
not_cut-chained : (calls : List Operation) (chained : List KeyRange) (r s : KeyRange) (c : ℕ) → All (IsRangeOf calls) chained
    → AreChained chained
    → Contains chained r → Contains chained s → r.low < c → c ≤ s.high → IsCut calls c → ⊥
not_cut-chained calls chained r s c each hang r_is s_is low high cut =
    let (k, x, within, is, over) = hang c (Any-from_contains (λ z. z.low < c) chained r r_is low) (Any-from_contains (λ z. c ≤ z.high)
    chained s s_is high) in
    let range = All-contains (IsRangeOf calls) chained x each (k, within, is) in
    let clear = All-contains (λ a. spans c a ≡ false) calls range.operation cut.clear
    (Contains-at calls x.number range.operation range.here) in
    both_ways (spans c range.operation) clear
    (spans-from_keys c range.operation range.belonging (let e = range.low in omega arith) (let e = range.high in omega arith))

-- calls whose ranges hang together are together
pub AreTogether-chained : (calls : List Operation) (chained : List KeyRange) (r s : KeyRange) → All (IsRangeOf calls) chained
    → AreChained chained
    → Contains chained r → Contains chained s → AreTogether calls r.number s.number
AreTogether-chained calls chained r s each hang r_is s_is =
    let p = All-contains (IsRangeOf calls) chained r each r_is in
    let q = All-contains (IsRangeOf calls) chained s each s_is in
    AreTogether-at calls r.number s.number p.operation q.operation p.here q.here (λ c cut separates. ⊎_elim
    (λ first. not_cut-chained calls chained r s c each hang r_is s_is (let e = p.low in omega (arith, first))
    (let e = q.high in omega (arith, first)) cut)
    (λ second. not_cut-chained calls chained s r c each hang s_is r_is (let e = q.low in omega (arith, second))
    (let e = p.high in omega (arith, second)) cut) separates)

-- a call that belongs has its range among those of all calls
pub range_from_belonging : (calls : List Operation) (ranges : List KeyRange) (n : ℕ) → AreRanges calls ranges
    → BelongsAt calls n → (r : KeyRange)
    × Contains ranges r × (r.number ≡ n)
range_from_belonging calls ranges n h belonging = Contains-from_map (λ (r : KeyRange). r.number) ranges n (h.all n belonging)

-- a number above all keys of some ranges and not above those of the others is a cut
IsCut-between : (calls : List Operation) (front back : List KeyRange) (c : ℕ) → AreRanges calls (front ++ back) → 1 ≤ c
    → All (λ r. r.high < c) front
    → All (λ r. c ≤ r.low) back → IsCut calls c
IsCut-between calls front back c h positive below above =
    record { positive = positive; clear = λ k d within. clear k (get_or calls k d) (slice_get-get_or calls k d within) }
  where
    side : (r : KeyRange) → Contains (front ++ back) r → (c ≤ r.low) ⊎ (r.high < c)
    side r is =
        ⊎_elim (λ in_front. inr (All-contains (λ r. r.high < c) front r below in_front))
        (λ in_back. inl (All-contains (λ r. c ≤ r.low) back r above in_back))
        (Contains-append_cases front back r is)

    keys : (r : KeyRange) (a : Operation) → IsRangeOf calls r → slice_get calls r.number ≡ Some a → (c ≤ r.low) ⊎ (r.high < c)
        → (c ≤ low_key a.call) ⊎ (high_key a.call < c)
    keys r a range here on_side =
        let one : range.operation ≡ a = same_Some range.operation a (sym range.here ∙ here) in
        let low = range.low ∙ ap (λ a. low_key a.call) one in
        let high = range.high ∙ ap (λ a. high_key a.call) one in
        ⊎_elim (λ at. inl (omega arith)) (λ at. inr (omega arith)) on_side

    clear : (k : ℕ) (a : Operation) → slice_get calls k ≡ Some a → spans c a ≡ false
    clear k a here = not_spans-from_keys c a (λ completed.
        let belonging : BelongsAt calls k = rw here (or_left (is_completed a) (may_change a.call) completed) in
        let (r, is, number) = range_from_belonging calls (front ++ back) k h belonging in
        keys r a (All-contains (IsRangeOf calls) (front ++ back) r h.each is) (ap (slice_get calls) number ∙ here) (side r is))

-- the number after the greatest key of some ranges is a cut, where the others lie beyond
IsCut-reach : (calls : List Operation) (front back : List KeyRange) (r : KeyRange) → AreRanges calls (front ++ back) → AreApart front back
    → Contains front r
    → IsCut calls (reach_of front + 1)
IsCut-reach calls front back r h apart r_is =
    let (top, top_is, is) = greatest_is (λ z. z.high) front r r_is in
    IsCut-between calls front back (reach_of front + 1) h (omega arith)
    (All-from_contains (λ z. z.high < reach_of front + 1) front (λ z z_is. omega (arith, greatest_bound (λ z. z.high) front z z_is)))
    (All-from_contains (λ z. reach_of front + 1 ≤ z.low) back
    (λ z z_is. omega (
      arith,
      is,
      All-contains (λ s. top.high < s.low) back z
          (All-contains (λ r. All (λ s. r.high < s.low) back) front top apart top_is) z_is,
    )))

-- calls whose ranges lie apart are not together
pub not_together-apart : (calls : List Operation) (front back : List KeyRange) (r s : KeyRange) → AreRanges calls (front ++ back)
    → AreApart front back
    → Contains front r → Contains back s
    → (AreTogether calls r.number s.number → ⊥) × (AreTogether calls s.number r.number → ⊥)
not_together-apart calls front back r s h apart r_is s_is =
    let p = All-contains (IsRangeOf calls) (front ++ back) r h.each (Contains-append_left front back r r_is) in
    let q = All-contains (IsRangeOf calls) (front ++ back) s h.each (Contains-append_right front back s s_is) in
    let c = reach_of front + 1 in
    let cut = IsCut-reach calls front back r h apart r_is in
    let (top, top_is, is) = greatest_is (λ z. z.high) front r r_is in
    let beyond = All-contains (λ z. top.high < z.low) back s (All-contains (λ z. All (λ s. z.high < s.low) back) front top
    apart top_is) s_is in
    let bound = greatest_bound (λ z. z.high) front r r_is in
    let low : low_key p.operation.call < c = omega (arith, p.low, p.in_order) in
    let high : c ≤ high_key q.operation.call = omega (arith, q.high, q.in_order) in (
      λ together. AreTogether-from calls r.number s.number p.operation q.operation p.here q.here together c cut (inl (low, high)),
      λ together. AreTogether-from calls s.number r.number q.operation p.operation q.here p.here together c cut (inr (low, high)),
    )
