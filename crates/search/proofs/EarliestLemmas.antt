-- How many calls a configuration has taken, and what the earliest answer says of a front.
use Rattle.search.proofs.Common.{◌≡◌, ℕ, ◌+◌, ◌<◌, ◌≤◌, true, false, List, Option, Some, None, length, refl, sym, subst, ⊎_elim, arith, ◌∙◌, ◌≢◌}
use Rattle.search.proofs.Common.{is_some, slice_get, AllPairs, Contains, IsStrictlyIncreasing, false≢true, both_ways, cases_Bool, lt-ltb}
use Rattle.search.proofs.Common.{AllPairs-from_increasing, same_Some, Operation, Response, has_number, is_before, precedes, Contents, IsCompletedAt}
use Rattle.search.proofs.Common.{IsOrder, IsFront, PrecedesAt, Configuration, LeadsTo, All-from_contains, length-distinct, has_number-Contains}
use Rattle.search.proofs.Common.{has_number-from_Contains, slice_get-below, IsCompletedAt-below, IsOrder-from_front, RemainsBefore, IsEarliestAnswer}

-- rising numbers are distinct
pub distinct_from_increasing : (xs : List ℕ) → IsStrictlyIncreasing xs → AllPairs (λ m n. m ≢ n) xs
distinct_from_increasing xs rising i j d before within =
    λ same. absurd (omega (arith, same, AllPairs-from_increasing xs rising i j d before within))

-- a configuration has as many calls taken as a front that leads to it
pub length-taken : (start : Contents) (calls : List Operation) (front : List ℕ) (c : Configuration) → IsFront start calls front
    → LeadsTo start calls front c
    → length c.taken ≡ length front
length-taken start calls front c is_front leads =
    let at_most =
    length-distinct c.taken front (distinct_from_increasing c.taken leads.rising)
    (All-from_contains (Contains front) c.taken (λ n h. (leads.taken n).0 h)) in
    let at_least = length-distinct front c.taken is_front.distinct (All-from_contains (Contains c.taken) front
    (λ n h. (leads.taken n).1 h)) in
    omega arith

-- a call with a response is completed
IsCompletedAt-before : (calls : List Operation) (n : ℕ) (a : Operation) (place : ℕ) → slice_get calls n ≡ Some a
    → is_before a.response place ≡ true
    → IsCompletedAt calls n
IsCompletedAt-before calls n a place here before = rw here (of_response a.response before)
  where
    of_response : (response : Option Response) → is_before response place ≡ true → is_some response ≡ true
    of_response None h = h
    of_response (Some r) h = refl

-- a response comes before some place
place_after : (response : Option Response) → is_some response ≡ true → (place : ℕ) × (is_before response place ≡ true)
place_after None h = absurd (false≢true h)
place_after (Some r) h = (r.res + 1, lt-ltb r.res (r.res + 1) (omega arith))

-- a front is an order where no completed call remains
pub IsOrder-from_none : (start : Contents) (calls : List Operation) (front : List ℕ) → IsFront start calls front
    → IsEarliestAnswer calls front None
    → IsOrder start calls front
IsOrder-from_none start calls front is_front none = IsOrder-from_front start calls front is_front complete
  where
    remains : (n : ℕ) → IsCompletedAt calls n → has_number front n ≡ false → ⊥
    remains n done left =
        let (a, here) = slice_get-below calls n (IsCompletedAt-below calls n done) in
        let has_response : is_some a.response ≡ true = rw here at done in
        let (place, before) = place_after a.response has_response in
        none place
        (record {
          n = n;
          call = a;
          here = here;
          new =
              λ h. both_ways (has_number front n) left (has_number-from_Contains front n h);
          before = before;
        })

    complete : (n : ℕ) → IsCompletedAt calls n → Contains front n
    complete n done = ⊎_elim (λ is. has_number-Contains front n is) (λ left. absurd (remains n done left)) (cases_Bool (has_number front n))

module _ (start : Contents) (calls : List Operation) (front : List ℕ) (answered : ℕ)
    (earliest : IsEarliestAnswer calls front (Some answered)) where
  -- a front is no order where a completed call remains
  pub IsOrder-not_yet : IsOrder start calls front → ⊥
  IsOrder-not_yet order =
      let remains = (earliest (answered + 1)).0 (omega arith) in
      remains.new (order.complete remains.n (IsCompletedAt-before calls remains.n remains.call (answered + 1) remains.here remains.before))

  -- the calls that precede one that was not invoked later are taken
  pub preceded_from_earliest : (n : ℕ) (a : Operation) → slice_get calls n ≡ Some a → a.inv ≤ answered → (m : ℕ) → PrecedesAt calls m n
      → Contains front m
  preceded_from_earliest n a here free m before = ⊎_elim
      (λ is. has_number-Contains front m is)
      (λ not. absurd (too_late not))
      (cases_Bool (has_number front m))
    where
      too_late : has_number front m ≡ false → ⊥
      too_late not =
          let same = same_Some before.1 a (sym before.3 ∙ here) in
          let remains : RemainsBefore calls front a.inv =
          record {
            n = m;
            call = before.0;
            here = before.2;
            new = λ h. both_ways _ not (has_number-from_Contains front m h);
            before = subst (λ (b : Operation). precedes before.0 b ≡ true) same before.4;
          } in
          let late : answered < a.inv = (earliest a.inv).1 remains in
          omega arith
