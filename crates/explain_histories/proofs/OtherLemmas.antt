-- What calls are like of which some history has the like.
use Rattle.explain_histories.proofs.Common.{◌≡◌, ◌≢◌, ℕ, ◌+◌, ◌<◌, ◌≤◌, true, false, List, [], ◌∷◌, ◌++◌, length, map, take, get_or, Option, Some, None}
use Rattle.explain_histories.proofs.Common.{refl, sym, ap, ◌∙◌, ⊎_elim, inl, inr, subst, arith, ◌⊎◌, All, AllPairs, Contains, IfSome, slice_get}
use Rattle.explain_histories.proofs.Common.{cases_lt, cases_order, lt-ltb, false≢true, length-append, length-map, All-contains, All-map, All-weaker}
use Rattle.explain_histories.proofs.Common.{Contains-append_cases, all_pairs_push, IfSome_then, same_Some, slice_get-get_or, slice_get_within, Event}
use Rattle.explain_histories.proofs.Common.{Reply, Operation, Response, has_range, pair_count, AreHistoryEvents, process_limit, call_limit, pair_limit}
use Rattle.explain_histories.proofs.Common.{operations, is_before, precedes, length-operations_le, inv_rises, response_later, AllPairs-map}
use Rattle.explain_histories.proofs.Common.{AllPairs-weaker, Contains-from_map, All-from_contains, AllPairs-at, Contains-at, Contains-cases}
use Rattle.explain_histories.proofs.Common.{Contains-nil, Contains-take, length-distinct_below, place_before-Contains, place_of-Contains, greatest_is}
use Rattle.explain_histories.proofs.Common.{slice_get-below, AreAlike, reply_in, begun_of, NoneEndsBefore, EndsOutside, MayFollow, IsSeat, AreSeatedAs}
use Rattle.explain_histories.proofs.Common.{Seat}
use Rattle.explain_histories.proofs.OwnerLemmas.{owners, length-owners, owners_known, calls_shaped, replies_small, one_after_other}
use Rattle.explain_histories.proofs.PartLemmas.{not_before, before_later, behind_as_kept, begun_bound}

small_as : (o q : Option Response) → reply_in o ≡ reply_in q → IfSome q (λ response. pair_count response.reply ≤ pair_limit)
    → IfSome o (λ response. pair_count response.reply ≤ pair_limit)
small_as None q same h = tt
small_as (Some r) None same h = absurd (let e : Some r.reply ≡ None = same in cc)
small_as (Some r) (Some s) same h =
    subst (λ (reply : Reply). pair_count reply ≤ pair_limit) (sym (same_Some r.reply s.reply same)) h

module _ (calls : List Operation) (others : List Event) (history : AreHistoryEvents others) (alike : AreAlike calls (operations others)) where
  abbrev ops : List Operation
  ops = operations others

  -- each call has one of the history with its number
  there : (n : ℕ) (a : Operation) → slice_get calls n ≡ Some a → (c : Operation) × (slice_get ops n ≡ Some c)
  there n a a_at = slice_get-below ops n (subst (λ size. n < size) alike.size (slice_get_within calls n a a_at))

  pub few_calls : length calls ≤ call_limit
  few_calls = let most = length-operations_le others history in omega (arith, most, alike.size)

  pub all_shaped : (a : Operation) → Contains calls a → has_range a.call ≡ true
  all_shaped a a_is =
      let (n, a_at) = place_of-Contains calls a a_is in
      let (c, c_at) = there n a a_at in
      ap has_range (alike.same n a c a_at c_at).0
      ∙ All-contains (λ (a : Operation). has_range a.call ≡ true) ops c (calls_shaped 0 others history.shaped) (Contains-at ops n c c_at)

  pub all_small : (a : Operation) → Contains calls a → IfSome a.response (λ response. pair_count response.reply ≤ pair_limit)
  all_small a a_is =
      let (n, a_at) = place_of-Contains calls a a_is in
      let (c, c_at) = there n a a_at in
      small_as a.response c.response (alike.same n a c a_at c_at).1
      (All-contains (λ (a : Operation). IfSome a.response (λ response. pair_count response.reply ≤ pair_limit)) ops c
      (replies_small 0 others history.small) (Contains-at ops n c c_at))

  -- a call precedes only later ones
  not_itself_or_earlier : (i j : ℕ) (c d : Operation) → slice_get ops i ≡ Some c → slice_get ops j ≡ Some d → j ≤ i → precedes c d ≡ false
  not_itself_or_earlier i j c d c_at d_at upto =
      let late = IfSome_then c.response (All-contains (λ (a : Operation). IfSome a.response (λ response. a.inv < response.res)) ops c
      (response_later others) (Contains-at ops i c c_at)) (λ response h. let l : c.inv ≤ response.res = omega arith in l) in
      let no_later : d.inv ≤ c.inv = ⊎_elim
      (λ same. let one = ap (λ (a : Operation). a.inv) (same_Some d c (sym d_at ∙ (ap (slice_get ops) (sym same) ∙ c_at))) in omega arith)
      (λ apart. ⊎_elim
      (λ before. absurd (omega arith))
      (λ behind. let less = AllPairs-at (λ (a : Operation) (b : Operation). a.inv < b.inv) ops j i d c (inv_rises others) behind d_at c_at in omega arith)
      apart)
      (cases_order i j) in
      not_before c.response c.inv d.inv late no_later

  in_order : (i j : ℕ) (a b : Operation) → slice_get calls i ≡ Some a → slice_get calls j ≡ Some b → precedes a b ≡ true → i < j
  in_order i j a b a_at b_at before =
      let (c, c_at) = there i a a_at in
      let (d, d_at) = there j b b_at in
      let there_too = sym (alike.precedence i j a b c d a_at b_at c_at d_at) ∙ before in
      ⊎_elim (λ less. less) (λ upto. absurd (false≢true (sym (not_itself_or_earlier i j c d c_at d_at upto) ∙ there_too))) (cases_lt i j)

  -- what precedes a call precedes each later one
  goes_on : (i k j : ℕ) (a b x : Operation) → slice_get calls i ≡ Some a → slice_get calls k ≡ Some b → slice_get calls j ≡ Some x
      → precedes a b ≡ true → k < j → precedes a x ≡ true
  goes_on i k j a b x a_at b_at x_at before less =
      let (c, c_at) = there i a a_at in
      let (d, d_at) = there k b b_at in
      let (y, y_at) = there j x x_at in
      let there_too = sym (alike.precedence i k a b c d a_at b_at c_at d_at) ∙ before in
      let rising = AllPairs-at (λ (a : Operation) (b : Operation). a.inv < b.inv) ops k j d y (inv_rises others) less d_at y_at in
      alike.precedence i j a x c y a_at x_at c_at y_at ∙ before_later c.response d.inv y.inv there_too (omega arith)

  -- one of the first calls begins where the last of them does
  last_begun : (n : ℕ) (a : Operation) → slice_get calls n ≡ Some a
      → (k : ℕ) × (b : Operation) × (k < n + 1) × (slice_get calls k ≡ Some b) × (begun_of calls (n + 1) ≡ b.inv)
  last_begun n a a_at =
      let (b, b_is, same) = greatest_is (λ (a : Operation). a.inv) (take (n + 1) calls) a (Contains-take calls (n + 1) n a (omega arith) a_at) in
      let (k, less, b_at) = place_before-Contains calls (n + 1) b b_is in
      (k, b, less, b_at, same)

  pub may_follow : (n place : ℕ) (a : Operation) → slice_get calls n ≡ Some a → place ≡ begun_of calls (n + 1) → MayFollow calls n place a
  may_follow n place a a_at place_is = (ends_after, All-from_contains (EndsOutside a.inv place) (take n calls) ends_outside)
    where
      ends_after : IfSome a.response (λ response. place ≤ response.res)
      ends_after = of a.response refl
        where
          of : (o : Option Response) → a.response ≡ o → IfSome o (λ response. place ≤ response.res)
          of None is = tt
          of (Some r) is =
              let (k, b, less, b_at, same) = last_begun n a a_at in
              ⊎_elim
              (λ early.
              let before : precedes a b ≡ true = ap (λ (o : Option Response). is_before o b.inv) is ∙ lt-ltb r.res b.inv (omega (arith, place_is, same, early)) in
              let order = in_order n k a b a_at b_at before in
              absurd (omega (arith, order, less)))
              (λ late. late)
              (cases_lt r.res place)

      ends_outside : (b : Operation) → Contains (take n calls) b → IfSome b.response (λ response. (response.res < a.inv) ⊎ (place ≤ response.res))
      ends_outside b b_is = of b.response refl
        where
          of : (o : Option Response) → b.response ≡ o → IfSome o (λ response. (response.res < a.inv) ⊎ (place ≤ response.res))
          of None is = tt
          of (Some r) is =
              let (i, first, b_at) = place_before-Contains calls n b b_is in
              let (k, x, less, x_at, same) = last_begun n a a_at in
              ⊎_elim (λ (l : r.res < a.inv). inl l) (λ (late : a.inv ≤ r.res). ⊎_elim
              (λ early.
              let before : precedes b x ≡ true = ap (λ (o : Option Response). is_before o x.inv) is ∙ lt-ltb r.res x.inv (omega (arith, place_is, same, early)) in
              let other : k < n = ⊎_elim
              (λ is_n.
              let one = ap (λ (a : Operation). a.inv) (same_Some x a (sym x_at ∙ (ap (slice_get calls) is_n ∙ a_at))) in
              absurd (omega (arith, one, place_is, same, early, late)))
              (λ apart. ⊎_elim (λ l. l) (λ above. absurd (omega (arith, above, less))) apart)
              (cases_order k n) in
              let after = goes_on i k n b x a b_at x_at a_at before other in
              absurd (false≢true (sym (not_before b.response a.inv a.inv
              (subst (λ (o : Option Response). IfSome o (λ response. a.inv ≤ response.res)) (sym is) late) (omega arith)) ∙ after)))
              (λ behind. inr behind)
              (cases_lt r.res place)) (cases_lt r.res a.inv)

  -- if all processes have a call open that does not end before the next one begins, there is none
  -- for it
  module _ (count place : ℕ) (seats : List Seat) (events : List Event) (h : AreSeatedAs calls count place [] seats events) (a : Operation)
      (here : slice_get calls count ≡ Some a) (place_is : place ≡ begun_of calls (count + 1)) (none : NoneEndsBefore place seats) where
    abbrev numbers : List ℕ
    numbers = map (λ (s : Seat). s.number) seats ++ count ∷ []

    abbrev owner : ℕ → ℕ
    owner n = get_or (owners others) n 0

    below : All (λ n. n < count) (map (λ (s : Seat). s.number) seats)
    below = All-map (λ n. n < count) (λ (s : Seat). s.number) seats
        (All-weaker (IsSeat calls count events) (λ (s : Seat). s.number < count) (λ s k. k.within) seats h.seats)

    rising : AllPairs (λ m n. m < n) numbers
    rising =
        all_pairs_push (λ (m : ℕ) (n : ℕ). m < n) (map (λ (s : Seat). s.number) seats) count
        (AllPairs-map (λ (m : ℕ) (n : ℕ). m < n) (λ (s : Seat). s.number) seats h.rising) below

    upto : (n : ℕ) → Contains numbers n → n < length calls
    upto n n_is =
        let last = slice_get_within calls count a here in
        ⊎_elim
        (λ old. let less = All-contains (λ (n : ℕ). n < count) (map (λ (s : Seat). s.number) seats) n below old in omega arith)
        (λ new. ⊎_elim (λ (same : count ≡ n). omega (arith, same, last)) (λ nothing. absurd (Contains-nil n nothing)) (Contains-cases count [] n new))
        (Contains-append_cases (map (λ (s : Seat). s.number) seats) (count ∷ []) n n_is)

    owner_at : (n : ℕ) → Contains numbers n → slice_get (owners others) n ≡ Some (owner n)
    owner_at n n_is = slice_get-get_or (owners others) n 0 (let less = upto n n_is in omega (arith, less, length-owners 0 others, alike.size))

    -- a call of these that another one follows does not precede it
    overlaps : (m n : ℕ) (b d : Operation) → Contains numbers m → Contains numbers n → m < n → slice_get calls m ≡ Some b
        → slice_get calls n ≡ Some d → precedes b d ≡ false
    overlaps m n b d m_is n_is less b_at d_at =
        let most : n < count + 1 = ⊎_elim
        (λ old. let l = All-contains (λ (n : ℕ). n < count) (map (λ (s : Seat). s.number) seats) n below old in omega arith)
        (λ new. ⊎_elim (λ (same : count ≡ n). omega (arith, same)) (λ nothing. absurd (Contains-nil n nothing)) (Contains-cases count [] n new))
        (Contains-append_cases (map (λ (s : Seat). s.number) seats) (count ∷ []) n n_is) in
        let begun : d.inv ≤ place = let bound = begun_bound calls (count + 1) n d most d_at in omega (arith, bound, place_is) in
        ⊎_elim
        (λ old.
        let (s, s_is, same) = Contains-from_map (λ (s : Seat). s.number) seats m old in
        let k = All-contains (IsSeat calls count events) seats s h.seats s_is in
        not_before b.response place d.inv (behind_as_kept b.response s.res place (k.res b (ap (slice_get calls) same ∙ b_at))
        (All-contains (λ (s : Seat). IfSome s.res (λ res. place ≤ res)) seats s none s_is)) begun)
        (λ new. ⊎_elim (λ (same : count ≡ m). absurd (omega (arith, same, less, most))) (λ nothing. absurd (Contains-nil m nothing))
        (Contains-cases count [] m new))
        (Contains-append_cases (map (λ (s : Seat). s.number) seats) (count ∷ []) m m_is)

    distinct_owners : (m n : ℕ) → Contains numbers m → Contains numbers n → m < n → owner m ≢ owner n
    distinct_owners m n m_is n_is less same =
        let (b, b_at) = slice_get-below calls m (upto m m_is) in
        let (d, d_at) = slice_get-below calls n (upto n n_is) in
        let (c, c_at) = there m b b_at in
        let (x, x_at) = there n d d_at in
        let turns = one_after_other 0 others m n (owner m) c x (λ p. (false, history.well_formed p)) less (owner_at m m_is)
        (owner_at n n_is ∙ ap (λ (p : ℕ). Some p) (sym same)) c_at x_at in
        false≢true (sym (overlaps m n b d m_is n_is less b_at d_at) ∙ (alike.precedence m n b d c x b_at d_at c_at x_at ∙ turns))

    pub no_process : ⊥
    no_process =
        let processes = map owner numbers in
        let distinct = AllPairs-map (λ (p : ℕ) (q : ℕ). p ≢ q) owner numbers
        (AllPairs-weaker (λ (m : ℕ) (n : ℕ). m < n) (λ (m : ℕ) (n : ℕ). owner m ≢ owner n) numbers distinct_owners rising) in
        let known = All-map (λ (p : ℕ). p < process_limit) owner numbers (All-from_contains (λ (n : ℕ). owner n < process_limit) numbers (λ n n_is.
        owners_known others history.small n 0 (let less = upto n n_is in omega (arith, less, length-owners 0 others, alike.size)))) in
        let most = length-distinct_below (map owner numbers) process_limit distinct known in
        omega (
          arith,
          most,
          length-map numbers owner,
          length-append (map (λ (s : Seat). s.number) seats) (count ∷ []),
          length-map seats (λ (s : Seat). s.number),
          h.all_processes,
        )
