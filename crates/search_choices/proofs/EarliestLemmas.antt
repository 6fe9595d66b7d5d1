-- The earliest answer of the calls that are left, and which of them may come next, call by call.
use Rattle.search_choices.proofs.Common.{◌≡◌, ℕ, ◌+◌, ◌<◌, ◌≤◌, true, false, List, Option, Some, None, length, refl, sym, ap, ◌∙◌, subst, ⊎_elim, inl}
use Rattle.search_choices.proofs.Common.{inr, arith, ◌⊎◌, slice_get, AllPairs, Contains, false≢true, lt-ltb, ltb-true, cases_order, cases_lt, both_ways}
use Rattle.search_choices.proofs.Common.{same_Some, slice_get_within, Operation, Response, is_before, precedes, NonePrecedesItself, Contents, IsNext}
use Rattle.search_choices.proofs.Common.{AllPairs-at, All-at, RemainsBefore, IsEarliestAnswer, earlier_of}

-- the earliest answer of the calls left with a number below this
abbrev pub IsEarliestBelow : List Operation → List ℕ → ℕ → Option ℕ → Type 0
IsEarliestBelow calls path i None = (place : ℕ) (r : RemainsBefore calls path place) → r.n < i → ⊥
IsEarliestBelow calls path i (Some answered) =
    (place : ℕ) → (answered < place → (r : RemainsBefore calls path place) × (r.n < i))
    × ((r : RemainsBefore calls path place) → r.n < i → answered < place)

-- a number below the next one is this one, or is below it
pub below_or_at : (n i : ℕ) → n < i + 1 → (n < i) ⊎ (n ≡ i)
below_or_at n i lt = ⊎_elim (λ is. inr is) (λ apart. ⊎_elim (λ lower. inl lower) (λ higher. absurd (omega arith)) apart) (cases_order n i)

module _ (calls : List Operation) (path : List ℕ) where
  -- no call below is left
  pub earliest-taken : (i : ℕ) → ((n : ℕ) → n < i → Contains path n) → IsEarliestBelow calls path i None
  earliest-taken i all place r lt = r.new (all r.n lt)

  -- a call that is taken, or is pending, changes nothing
  passed : (i : ℕ) (earliest : Option ℕ) → ((place : ℕ) (r : RemainsBefore calls path place) → r.n ≡ i → ⊥)
      → IsEarliestBelow calls path i earliest
      → IsEarliestBelow calls path (i + 1) earliest
  passed i None none h = λ place r lt. ⊎_elim (λ below. h place r below) (λ is. none place r is) (below_or_at r.n i lt)
  passed i (Some answered) none h = λ place. (
    λ before. let (r, lt) = (h place).0 before in (r, omega arith),
    λ r lt. ⊎_elim (λ below. (h place).1 r below) (λ is. absurd (none place r is)) (below_or_at r.n i lt),
  )

  pub earliest-skip : (i : ℕ) (earliest : Option ℕ) → Contains path i → IsEarliestBelow calls path i earliest
      → IsEarliestBelow calls path (i + 1) earliest
  earliest-skip i earliest taken h = passed i earliest (λ place r is. r.new (subst (Contains path) (sym is) taken)) h

  -- the call of a number that is left
  remaining : (i : ℕ) (a : Operation) (place : ℕ) (r : RemainsBefore calls path place) → slice_get calls i ≡ Some a → r.n ≡ i
      → is_before a.response place ≡ true
  remaining i a place r here is =
      let same = same_Some r.call a (sym r.here ∙ ap (slice_get calls) is ∙ here) in
      subst (λ (b : Operation). is_before b.response place ≡ true) same r.before

  pub earliest-take : (i : ℕ) (a : Operation) (earliest : Option ℕ) → slice_get calls i ≡ Some a → (Contains path i → ⊥)
      → IsEarliestBelow calls path i earliest → IsEarliestBelow calls path (i + 1) (earlier_of earliest a.response)
  earliest-take i a earliest here new h = of earliest a.response refl h
    where
      of : (earliest : Option ℕ) (response : Option Response) → a.response ≡ response → IsEarliestBelow calls path i earliest
          → IsEarliestBelow calls path (i + 1) (earlier_of earliest response)
      of earliest None is h =
          passed i earliest (λ place r at. false≢true (ap (λ o. is_before o place) (sym is) ∙ remaining i a place r here at)) h
      of None (Some response) is h = λ place. (
        λ before. (
          record { n = i; call = a; here = here; new = new; before = ap (λ o. is_before o place) is ∙ lt-ltb response.res place before },
          omega arith,
        ),
        λ r lt. ⊎_elim (λ below. absurd (h place r below))
            (λ at. ltb-true response.res place (ap (λ o. is_before o place) (sym is) ∙ remaining i a place r here at))
            (below_or_at r.n i lt),
      )
      of (Some answered) (Some response) is h = λ place. (
        λ before. ⊎_elim
            (λ old. let (r, lt) = (h place).0 old in (r, omega arith))
            (λ not_old. (
              record {
                n = i;
                call = a;
                here = here;
                new = new;
                before = ap (λ o. is_before o place) is ∙ lt-ltb response.res place (omega arith);
              },
              omega arith,
            ))
            (cases_lt answered place),
        λ r lt. ⊎_elim
            (λ below. let old = (h place).1 r below in omega arith)
            (λ at. let this = ltb-true response.res place (ap (λ o. is_before o place) (sym is) ∙ remaining i a place r here
            at) in omega arith)
            (below_or_at r.n i lt),
      )

  -- all calls are looked at
  pub earliest-all : (i : ℕ) (earliest : Option ℕ) → length calls ≤ i → IsEarliestBelow calls path i earliest
      → IsEarliestAnswer calls path earliest
  earliest-all i None le h = λ place r. h place r (omega (arith, slice_get_within calls r.n r.call r.here))
  earliest-all i (Some answered) le h = λ place.
      (λ before. ((h place).0 before).0, λ r. (h place).1 r (omega (arith, slice_get_within calls r.n r.call r.here)))

  -- the others begin later
  pub earliest-before : (i answered : ℕ) (a : Operation) → NonePrecedesItself calls → AllPairs (λ a b. a.inv < b.inv) calls
      → slice_get calls i ≡ Some a
      → answered < a.inv → IsEarliestBelow calls path i (Some answered) → IsEarliestAnswer calls path (Some answered)
  earliest-before i answered a apart rising here late h place = (
    λ before. ((h place).0 before).0,
    λ r. ⊎_elim (λ below. (h place).1 r below) (λ le. later r le) (cases_lt r.n i),
  )
    where
      answered_after : (b : Operation) (response : Option Response) → is_before response b.inv ≡ false
          → is_before response place ≡ true → b.inv < place
      answered_after b None none before = absurd (false≢true before)
      answered_after b (Some response) none before =
          let lt = ltb-true response.res place before in
          ⊎_elim (λ early. absurd (both_ways (is_before (Some response) b.inv) none (lt-ltb response.res b.inv early))) (λ le. omega arith)
          (cases_lt response.res b.inv)

      later : (r : RemainsBefore calls path place) → i ≤ r.n → answered < place
      later r le =
          let begins = answered_after r.call r.call.response (All-at (λ b. precedes b b ≡ false) calls r.n r.call apart r.here) r.before in
          ⊎_elim
          (λ is. let same = same_Some r.call a (sym r.here ∙ ap (slice_get calls) is ∙ here) in
          let a_begins = subst (λ (b : Operation). b.inv < place) same begins in omega arith)
          (λ differ. ⊎_elim (λ lower. absurd (omega arith))
          (λ higher. let up = AllPairs-at (λ (x : Operation) (y : Operation). x.inv < y.inv) calls i r.n a r.call rising
          higher here r.here in
          omega arith) differ)
          (cases_order r.n i)

  -- a call that begins after the earliest answer may not come next
  pub not_next : (start : Contents) (i n answered : ℕ) (a : Operation) → AllPairs (λ a b. a.inv < b.inv) calls → slice_get calls i ≡ Some a
      → answered < a.inv
      → IsEarliestAnswer calls path (Some answered) → i ≤ n → IsNext start calls path n → ⊥
  not_next start i n answered a rising here late earliest le next =
      let remains = (earliest next.call.inv).0 later in
      remains.new (next.preceded remains.n (remains.call, next.call, remains.here, next.here, remains.before))
    where
      later : answered < next.call.inv
      later = ⊎_elim
          (λ is. subst (λ (b : Operation). answered < b.inv)
          (same_Some a next.call (sym here ∙ ap (slice_get calls) (sym is) ∙ next.here)) late)
          (λ differ. ⊎_elim (λ lower. absurd (omega arith))
          (λ higher. let up = AllPairs-at (λ (x : Operation) (y : Operation). x.inv < y.inv) calls i n a next.call rising
          higher here next.here in
          omega arith) differ)
          (cases_order n i)
