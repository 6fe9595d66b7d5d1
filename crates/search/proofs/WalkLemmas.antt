-- The state of a walk after each of its steps.
use Rattle.search.proofs.Common.{◌≡◌, ℕ, ◌+◌, ◌-◌, ◌<◌, ◌≤◌, not, true, List, Option, Some, None, [], ◌∷◌, ◌++◌, length, take, reverse, refl, sym, ap}
use Rattle.search.proofs.Common.{◌∙◌, subst, ⊎_elim, arith, ◌⊎◌, ◌↔◌, slice_get, slice_index, AllPairs, Contains, range_with_len}
use Rattle.search.proofs.Common.{IsStrictlyIncreasing, AllPairs-filter, false≢true, cases_order, lt-ltb, ltb-true, append-nil, map-append}
use Rattle.search.proofs.Common.{reverse-append, take-append-le, take_at, length-set, All-contains, same_Some, slice_get_within, Call, Operation}
use Rattle.search.proofs.Common.{Response, has_number, is_before, NonePrecedesItself, Contents, IsLegalCall, after_call, IsOrder, IsFront, PrecedesAt}
use Rattle.search.proofs.Common.{Configuration, LeadsTo, slice_get-append_left, slice_get-middle, place-push, AllPairs-head, AllPairs-at}
use Rattle.search.proofs.Common.{Contains-first, Contains-nil, Contains-cases, Contains-range, All-from_contains, slice_get-below, after_calls-push}
use Rattle.search.proofs.Common.{IsStrictlyIncreasing-range, IsFront-push, IsNext, IsNext-from_front, LeadsTo-push, Level, cursor, StandsAtCursor}
use Rattle.search.proofs.Common.{RemainsBefore, IsEarliestAnswer, LinksView, AreWithin, unlinked, put_back, AreLeft, without, undone, first_pairs}
use Rattle.search.proofs.Common.{IsExhausted, places, pairs_after, IsConfigurationAt, Remembers, IsAnsweredBefore, IsNoLater, AreLinksOf, IsStateBut}
use Rattle.search.proofs.Common.{untried}
use Rattle.std.proofs.lemmas.List.Sorted.{IsPermutation-sym, IsPermutation-reverse, Contains-permutation}
use Rattle.search.proofs.LinkLemmas.{range_below, first_or, after-end, IsChain-left, AreLeft-take, left-Contains, left-from_Contains}
use Rattle.search.proofs.LinkLemmas.{IsNextLeft-first, IsNextLeft-after}
use Rattle.search.proofs.EarliestLemmas.{distinct_from_increasing}
use Rattle.search.proofs.BeforeLemmas.{ComesBefore-itself}
use Rattle.search.proofs.CursorLemmas.{taken_again, StandsAtCursor-pass, StandsAtCursor-seen, StandsAtCursor-push, StandsAtCursor-pop, none_at_end}
use Rattle.search.proofs.CursorLemmas.{HasCount-at_end}

-- ---- lists

-- a list has the same members the other way round
pub Contains-reverse : (xs : List ℕ) (n : ℕ) → Contains xs n → Contains (reverse xs) n
Contains-reverse xs n h = Contains-permutation xs (reverse xs) n (IsPermutation-reverse xs) h

pub Contains-from_reverse : (xs : List ℕ) (n : ℕ) → Contains (reverse xs) n → Contains xs n
Contains-from_reverse xs n h =
    Contains-permutation (reverse xs) xs n (IsPermutation-sym xs (reverse xs) (IsPermutation-reverse xs)) h

-- the places of one level more
pub places-push : (levels : List Level) (level : Level) → places (levels ++ level ∷ []) ≡ places levels ++ level.place ∷ []
places-push levels level = map-append (λ (l : Level). l.place) levels (level ∷ [])

-- the calls taken, latest first, with one more
reverse-push : (levels : List Level) (level : Level) → reverse (places (levels ++ level ∷ [])) ≡ level.place ∷ reverse (places levels)
reverse-push levels level = ap reverse (places-push levels level) ∙ reverse-append (places levels) (level.place ∷ [])

-- fewer calls are untried where the next one is later
pub untried-less : (size : ℕ) (levels : List Level) (next later : ℕ) → next < later → later ≤ size
    → untried size levels later < untried size levels next
untried-less size [] next later lt le = omega arith
untried-less size (level ∷ levels) next later lt le = omega (arith, untried-less size levels next later lt le)

-- a level more has all calls after it to try
untried-push : (size : ℕ) (levels : List Level) (level : Level) (next : ℕ)
    → untried size (levels ++ level ∷ []) next ≡ untried size levels level.place + (size - next)
untried-push size [] level next = refl
untried-push size (l ∷ levels) level next = omega (arith, untried-push size levels level next)

-- the place of an answer, where there is one
abbrev pub answer_place : Option Response → Option ℕ
answer_place None = None
answer_place (Some response) = Some response.res

-- ---- what is left

module _ (calls : List Operation) (path : List ℕ) (by_number by_answer : LinksView)
    (links : AreLinksOf calls (reverse path) by_number by_answer) where
  abbrev size : ℕ
  size = length calls

  abbrev answers : List ℕ
  answers = without links.order (reverse path)

  -- the first of the calls left by answer
  first_answer : slice_index by_answer.after size ≡ first_or answers size
  first_answer = after-end by_answer size answers size (IsChain-left size links.order (reverse path) by_answer links.answers_left)

  remains_in : (place : ℕ) (r : RemainsBefore calls path place) → Contains answers r.n
  remains_in place r =
      left-Contains links.order (reverse path) r.n (links.sorted.all r.n (slice_get_within calls r.n r.call r.here))
      (λ h. r.new (Contains-from_reverse path r.n h))

  -- what remains was answered no earlier than the first
  first_is_earliest : (xs : List ℕ) → answers ≡ xs → (place : ℕ) (r : RemainsBefore calls path place) → (x : ℕ)
      → first_or xs size ≡ x → x < size
      → IsAnsweredBefore calls x place
  first_is_earliest [] is place r x first lt = absurd (Contains-nil r.n (subst (λ ys. Contains ys r.n) is (remains_in place r)))
  first_is_earliest (y ∷ ys) is place r x first lt = subst (λ k. IsAnsweredBefore calls k place) first (⊎_elim
      (λ same. rw same (rw r.here r.before))
      (λ later. All-contains (IsNoLater calls y) ys r.n
      (AllPairs-head (IsNoLater calls) y ys
      (subst (AllPairs (IsNoLater calls)) is
      (AllPairs-filter (IsNoLater calls) (λ n. not (has_number (reverse path) n)) links.order links.sorted.sorted))) later place
      (rw r.here r.before))
      (Contains-cases y ys r.n (subst (λ zs. Contains zs r.n) is (remains_in place r))))

  -- no call is left
  pub earliest-none : slice_index by_answer.after size ≡ size → IsEarliestAnswer calls path None
  earliest-none is = λ place r. none answers refl place r
    where
      none : (xs : List ℕ) → answers ≡ xs → (place : ℕ) (r : RemainsBefore calls path place) → ⊥
      none [] same place r = Contains-nil r.n (subst (λ ys. Contains ys r.n) same (remains_in place r))
      none (y ∷ ys) same place r =
          let in_order = (left-from_Contains links.order (reverse path) y (subst (λ zs. Contains zs y) (sym same)
          (Contains-first y ys))).0 in
          let y_below = All-contains (λ n. n < size) links.order y links.sorted.below in_order in
          let y_is : slice_index by_answer.after size ≡ y = first_answer ∙ ap (λ zs. first_or zs size) same in
          absurd (omega arith)

  -- the first call left by answer is not taken
  first_new : (x : ℕ) → slice_index by_answer.after size ≡ x → x < size → Contains path x → ⊥
  first_new x is lt taken = of answers refl
    where
      of : (xs : List ℕ) → answers ≡ xs → ⊥
      of [] same =
          let x_is : slice_index by_answer.after size ≡ size = first_answer ∙ ap (λ zs. first_or zs size) same in
          absurd (omega arith)
      of (y ∷ ys) same =
          let y_is : x ≡ y = sym is ∙ first_answer ∙ ap (λ zs. first_or zs size) same in
          (left-from_Contains links.order (reverse path) y (subst (λ zs. Contains zs y) (sym same) (Contains-first y ys))).1
          (Contains-reverse path y (subst (Contains path) y_is taken))

  -- if a call that remains was answered before a place, so was the first call left by answer
  answered_first : (x : ℕ) (a : Operation) → slice_index by_answer.after size ≡ x → x < size → slice_get calls x ≡ Some a → (place : ℕ)
      → RemainsBefore calls path place → is_before a.response place ≡ true
  answered_first x a is lt here place r =
      let h : IsAnsweredBefore calls x place = first_is_earliest answers refl place r x (sym first_answer ∙ is) lt in
      rw here at h

  -- the answer of the first call left by answer is the earliest
  pub earliest-first : (x : ℕ) (a : Operation) → slice_index by_answer.after size ≡ x → x < size → slice_get calls x ≡ Some a
      → (response : Option Response)
      → a.response ≡ response → IsEarliestAnswer calls path (answer_place response)
  earliest-first x a is lt here None pending =
      λ place r. false≢true (ap (λ o. is_before o place) (sym pending) ∙ answered_first x a is lt here place r)
  earliest-first x a is lt here (Some response) done = λ place. (
    λ later. record {
      n = x;
      call = a;
      here = here;
      new = first_new x is lt;
      before = ap (λ o. is_before o place) done ∙ lt-ltb
          response.res place later;
    },
    λ r. ltb-true response.res place (ap (λ o. is_before o place) (sym done) ∙ answered_first x a is lt here place r),
  )

-- one configuration more changes nothing of the first
first_pairs-push : {at : ℕ} (visited : List Configuration) (d : Configuration) → at < length visited
    → first_pairs (visited ++ d ∷ []) ≡ first_pairs visited
first_pairs-push [] d lt = absurd (omega arith)
first_pairs-push (c ∷ visited) d lt = refl

-- ---- steps

module _ (start : Contents) (calls : List Operation) (apart : NonePrecedesItself calls) (levels : List Level) (next at : ℕ)
    (pairs : Contents)
    (visited : List Configuration)
    (by_number by_answer : LinksView) where
  -- the walk goes on to the next call left
  pub IsStateBut-pass : StandsAtCursor start calls (places levels) (next + 1) visited → next < length calls
      → (Contains (places levels) next → ⊥)
      → (IsOrder start calls (places levels) → ⊥) → first_pairs visited ≡ start → pairs ≡ pairs_after start calls (places levels)
      → IsConfigurationAt start calls visited (places levels) at
      → ((i : ℕ) (level : Level) → slice_get levels i ≡ Some level → Remembers start calls visited (places (take i levels)) level)
      → AreLinksOf calls (reverse (places levels)) by_number by_answer
      → IsStateBut start calls levels (slice_index by_number.after next) at pairs visited by_number by_answer
  IsStateBut-pass stands lt new not_order begins holds stands_at remembers links =
      let path = places levels in
      let left = IsNextLeft-after (length calls) (reverse path) by_number links.calls_left next lt
      (λ h. new (Contains-from_reverse path next h)) in
      record {
        cursor = StandsAtCursor-pass start calls path (next + 1) visited stands apart (slice_index by_number.after next) left.later
            (λ k from below is_front. taken_again start calls path k []
            (subst (IsFront start calls) (sym (append-nil (cursor path k))) is_front)
            (Contains-from_reverse path k (left.between k from below)))
            (λ is_order. absurd (not_order is_order));
        within = left.within;
        left = λ within taken. left.new within (Contains-reverse path (slice_index by_number.after next) taken);
        begins = begins;
        holds = holds;
        stands_at = stands_at;
        remembers = remembers;
        links = links;
      }

  module _ (s : IsStateBut start calls levels next at pairs visited by_number by_answer) (lt : next < length calls)
      (not_order : IsOrder start calls (places levels) → ⊥) where
    -- the cursor passes a call that is not a next one
    pub cursor-illegal : (a : Operation) → slice_get calls next ≡ Some a → (IsLegalCall pairs a.call a.response → ⊥)
        → StandsAtCursor start calls (places levels) (next + 1) visited
    cursor-illegal a here illegal = StandsAtCursor-pass start calls (places levels) next visited s.cursor apart (next + 1) (omega arith)
        (λ k from below is_front.
        let same : k ≡ next = omega arith in
        let found = IsNext-from_front start calls (places levels) next []
        (subst (λ j. IsFront start calls (cursor (places levels) j)) same is_front) in
        let call_is = same_Some found.call a (sym found.here ∙ here) in
        illegal (subst (λ m. IsLegalCall m a.call a.response) (sym s.holds)
        (subst (λ (b : Operation). IsLegalCall (pairs_after start calls (places levels)) b.call b.response) call_is found.legal)))
        (λ is_order. absurd (not_order is_order))

    -- a call that is passed over
    pub IsStateBut-passed : StandsAtCursor start calls (places levels) (next + 1) visited
        → IsStateBut start calls levels (slice_index by_number.after next) at pairs visited by_number by_answer
    IsStateBut-passed stands = IsStateBut-pass stands lt (s.left lt) not_order s.begins s.holds s.stands_at s.remembers s.links

    -- fewer calls are to try after it
    pub untried-passed : untried (length calls) levels (slice_index by_number.after next) < untried (length calls) levels next
    untried-passed =
        let left =
        IsNextLeft-after (length calls) (reverse (places levels)) by_number s.links.calls_left next lt
        (λ h. s.left lt (Contains-from_reverse (places levels) next h)) in
        untried-less (length calls) levels next (slice_index by_number.after next) (omega (arith, left.later)) left.within

    module _ (a : Operation) (here : slice_get calls next ≡ Some a)
        (preceded : (m : ℕ) → PrecedesAt calls m next → Contains (places levels) m)
        (legal : IsLegalCall pairs a.call a.response) where
      -- a call that may come next is taken
      pub IsFront-taken : IsFront start calls (cursor (places levels) next)
      IsFront-taken =
          IsFront-push start calls (places levels) next a s.cursor.is_front here (s.left lt) preceded
          (subst (λ m. IsLegalCall m a.call a.response) s.holds legal)

      -- to this configuration
      pub LeadsTo-taken : (c d : Configuration) → slice_get visited at ≡ Some c → IsStrictlyIncreasing d.taken
          → ((m : ℕ) → Contains d.taken m ↔ (Contains c.taken m ⊎ (m ≡ next))) → d.pairs ≡ after_call pairs a.call a.response
          → LeadsTo start calls (cursor (places levels) next) d
      LeadsTo-taken c d at_is up taken held =
          let (b, b_at, leads) = s.stands_at in
          let same = same_Some b c (sym b_at ∙ at_is) in
          let by = subst (LeadsTo start calls (places levels)) same leads in
          LeadsTo-push start calls (places levels) next a c d by here up taken
          (held ∙ ap (λ m. after_call m a.call a.response) (s.holds ∙ sym by.pairs))

      -- the configuration was visited
      pub cursor-seen : (d : Configuration) → LeadsTo start calls (cursor (places levels) next) d → Contains visited d
          → StandsAtCursor start calls (places levels) (next + 1) visited
      cursor-seen d leads within = StandsAtCursor-seen start calls (places levels) next visited s.cursor apart d IsFront-taken
          leads within not_order

      -- the configuration is new
      module _ (d : Configuration) (leads : LeadsTo start calls (cursor (places levels) next) d) (new : Contains visited d → ⊥)
          (undo : Option Call)
          (level : Level) (place_is : level.place ≡ next) (at_is : level.at ≡ at) (after_pairs : Contents)
          (after_is : after_pairs ≡ after_call pairs a.call a.response) (undo_is : undone after_pairs level.undo ≡ pairs)
          (within_number : AreWithin by_number)
          (within_answer : AreWithin by_answer) where
        path_is : places (levels ++ level ∷ []) ≡ cursor (places levels) next
        path_is = places-push levels level ∙ ap (cursor (places levels)) place_is

        pairs_is : after_pairs ≡ pairs_after start calls (cursor (places levels) next)
        pairs_is = after_is ∙ ap (λ m. after_call m a.call a.response) s.holds
            ∙ sym (after_calls-push start calls (places levels) next a here)

        links_pushed : AreLinksOf calls (next ∷ reverse (places levels)) (unlinked by_number next) (unlinked by_answer next)
        links_pushed = record {
          number_size = length-set by_number.after (slice_index by_number.before next) (slice_index by_number.after next)
              ∙ s.links.number_size;
          answer_size = length-set by_answer.after (slice_index by_answer.before next) (slice_index by_answer.after next)
              ∙ s.links.answer_size;
          calls_left =
              AreLeft-take (length calls) (range_with_len 0 (length calls)) (reverse (places levels)) by_number next within_number
              (omega (arith, s.links.number_size))
              (All-from_contains (λ n. n < length calls) (range_with_len 0 (length calls)) (range_below (length calls)))
              (distinct_from_increasing (range_with_len 0 (length calls)) (IsStrictlyIncreasing-range (length calls)))
              (Contains-range (length calls) next lt)
              (λ h. s.left lt (Contains-from_reverse (places levels) next h)) s.links.calls_left;
          order = s.links.order;
          sorted = s.links.sorted;
          answers_left =
              AreLeft-take (length calls) s.links.order (reverse (places levels)) by_answer next within_answer
              (omega (arith, s.links.answer_size)) s.links.sorted.below s.links.sorted.distinct (s.links.sorted.all next lt)
              (λ h. s.left lt (Contains-from_reverse (places levels) next h)) s.links.answers_left;
        }

        remembers_pushed : (i : ℕ) (l : Level) → slice_get (levels ++ level ∷ []) i ≡ Some l
            → Remembers start calls (visited ++ d ∷ []) (places (take i (levels ++ level ∷ []))) l
        remembers_pushed i l is = ⊎_elim
            (λ old.
            let within = slice_get_within levels i l old in
            let before = s.remembers i l old in
            subst (λ ls. Remembers start calls (visited ++ d ∷ []) (places ls) l) (sym (take-append-le i levels (level ∷ []) (omega arith)))
            (record {
              at = (
                before.at.0,
                slice_get-append_left visited (d ∷ []) l.at (slice_get_within visited l.at before.at.0 before.at.1)
                    ∙ before.at.1,
                before.at.2,
              );
              undo = before.undo;
            }))
            (λ pushed. subst (λ ls. Remembers start calls (visited ++ d ∷ []) (places ls) l) (sym (take_at levels (level ∷ []) i pushed.0))
            (subst (Remembers start calls (visited ++ d ∷ []) (places levels)) (sym pushed.1) (record {
              at = (
                s.stands_at.0,
                ap (slice_get (visited ++ d ∷ [])) at_is
                    ∙ slice_get-append_left visited (d ∷ []) at (slice_get_within visited at s.stands_at.0 s.stands_at.1) ∙ s.stands_at.1,
                s.stands_at.2,
              );
              undo = ap (λ k. undone (pairs_after start calls (places levels ++ k ∷ [])) level.undo) place_is
                  ∙ ap (λ m. undone m level.undo) (sym pairs_is)
                  ∙ undo_is ∙ s.holds;
            })))
            (place-push levels level i l is)

        pub IsStateBut-push : IsStateBut start calls (levels ++ level ∷ []) (slice_index (unlinked by_number next).after (length calls))
            (length visited) after_pairs
            (visited ++ d ∷ []) (unlinked by_number next) (unlinked by_answer next)
        IsStateBut-push =
            let pushed = StandsAtCursor-push start calls (places levels) next visited s.cursor d IsFront-taken leads new not_order in
            let left = IsNextLeft-first (length calls) (next ∷ reverse (places levels)) (unlinked by_number next) links_pushed.calls_left in
            let out_is : next ∷ reverse (places levels) ≡ reverse (places (levels ++ level ∷ [])) =
            sym (reverse-push levels level ∙ ap (λ k. k ∷ reverse (places levels)) place_is) in
            let in_path : (k : ℕ) → Contains (next ∷ reverse (places levels)) k → Contains (cursor (places levels) next) k =
            λ k h. subst (λ ys. Contains ys k) path_is
            (Contains-from_reverse (places (levels ++ level ∷ [])) k (subst (λ ys. Contains ys k) out_is h)) in
            record {
              cursor = subst (λ p. StandsAtCursor start calls p (slice_index (unlinked by_number next).after (length calls))
                  (visited ++ d ∷ [])) (sym path_is)
                  (StandsAtCursor-pass start calls (cursor (places levels) next) 0 (visited ++ d ∷ []) pushed apart
                  (slice_index (unlinked by_number next).after (length calls)) left.later
                  (λ k from below is_front. taken_again start calls (cursor (places levels) next) k []
                  (subst (IsFront start calls) (sym (append-nil (cursor (cursor (places levels) next) k))) is_front)
                  (in_path k (left.between k from below)))
                  (λ is_order k below. in_path k (left.between k (omega arith) below)));
              within = left.within;
              left = λ within taken. left.new within
                  (subst (λ ys. Contains ys (slice_index (unlinked by_number next).after (length calls))) (sym out_is)
                  (Contains-reverse (places (levels ++ level ∷ [])) (slice_index (unlinked by_number next).after (length calls)) taken));
              begins = first_pairs-push visited d (slice_get_within visited at s.stands_at.0 s.stands_at.1) ∙ s.begins;
              holds = pairs_is ∙ ap (pairs_after start calls) (sym path_is);
              stands_at = (d, slice_get-middle visited d [], subst (λ p. LeadsTo start calls p d) (sym path_is) leads);
              remembers = remembers_pushed;
              links = subst (λ out. AreLinksOf calls out (unlinked by_number next) (unlinked by_answer next)) out_is links_pushed;
            }

        pub untried-pushed : untried (length calls) (levels ++ level ∷ [])
            (slice_index (unlinked by_number next).after (length calls)) ≤ untried
            (length calls) levels next + length calls
        untried-pushed =
            omega (
              arith,
              untried-push (length calls) levels level (slice_index (unlinked by_number next).after (length calls)),
              ap (untried (length calls) levels) place_is,
            )

-- ---- back by one call

module _ (start : Contents) (calls : List Operation) (apart : NonePrecedesItself calls) where
  -- the cursor passes all calls after one that was invoked after the earliest answer
  pub cursor-past : (path : List ℕ) (next : ℕ) (visited : List Configuration) (answered : ℕ) → StandsAtCursor start calls path next visited
      → next ≤ length calls
      → AllPairs (λ a b. a.inv < b.inv) calls → IsEarliestAnswer calls path (Some answered)
      → ((a : Operation) → slice_get calls next ≡ Some a → answered < a.inv) → (IsOrder start calls path → ⊥)
      → StandsAtCursor start calls path (length calls) visited
  cursor-past path next visited answered stands within rising earliest late not_order =
      StandsAtCursor-pass start calls path next visited stands apart (length calls) within
      (λ k from below is_front. none k from (IsNext-from_front start calls path k [] is_front) (slice_get-below calls next (omega arith)))
      (λ is_order. absurd (not_order is_order))
    where
      later : (k : ℕ) (b a : Operation) → next ≤ k → slice_get calls k ≡ Some b → slice_get calls next ≡ Some a → answered < b.inv
      later k b a from there here = ⊎_elim
          (λ same. subst (λ (x : Operation). answered < x.inv)
          (same_Some a b (sym here ∙ ap (slice_get calls) (sym same) ∙ there)) (late a here))
          (λ differ. ⊎_elim (λ lt. absurd (omega arith))
          (λ lt. omega (
            arith,
            late a here,
            AllPairs-at (λ (x : Operation) (y : Operation). x.inv < y.inv) calls next k a b rising lt
                here there,
          )) differ)
          (cases_order k next)

      none : (k : ℕ) → next ≤ k → IsNext start calls path k → (a : Operation) × (slice_get calls next ≡ Some a) → ⊥
      none k from found (a, here) =
          let remains = (earliest found.call.inv).0 (later k found.call a from found.here here) in
          remains.new (found.preceded remains.n (remains.call, found.call, remains.here, found.here, remains.before))

  -- nothing is left to go back to
  pub IsExhausted-from_past : (visited : List Configuration) → StandsAtCursor start calls [] (length calls) visited
      → (IsOrder start calls [] → ⊥)
      → IsExhausted start calls visited
  IsExhausted-from_past visited stands not_order = record {
    none = none_at_end start calls [] (length calls) visited stands apart refl (omega arith) not_order;
    count = HasCount-at_end start calls [] (length calls) visited stands apart refl (omega arith) not_order;
  }

  module _ (levels : List Level) (level : Level) (next at : ℕ) (pairs : Contents) (visited : List Configuration)
      (by_number by_answer : LinksView)
      (s : IsStateBut start calls (levels ++ level ∷ []) next at pairs visited by_number by_answer)
      (past : StandsAtCursor start calls (places (levels ++ level ∷ [])) (length calls) visited)
      (not_order : IsOrder start calls (places (levels ++ level ∷ [])) → ⊥) where
    before_is : places (levels ++ level ∷ []) ≡ cursor (places levels) level.place
    before_is = places-push levels level

    popped : StandsAtCursor start calls (places levels) (level.place + 1) visited
    popped =
        StandsAtCursor-pop start calls (places levels) level.place (length calls) visited
        (subst (λ p. StandsAtCursor start calls p (length calls) visited) before_is past) (omega arith)
        (λ is_order. not_order (subst (IsOrder start calls) (sym before_is) is_order))

    whole : IsFront start calls (cursor (places levels) level.place)
    whole = subst (IsFront start calls) before_is s.cursor.is_front

    new : Contains (places levels) level.place → ⊥
    new h =
        let found = IsNext-from_front start calls (places levels) level.place [] whole in
        found.new h

    -- the call taken back has a number of the calls
    pub below-popped : level.place < length calls
    below-popped =
        let found = IsNext-from_front start calls (places levels) level.place [] whole in
        slice_get_within calls level.place found.call found.here

    -- the calls before it are no order
    not_order_before : IsOrder start calls (places levels) → ⊥
    not_order_before is_order = new ((popped.first (places levels) is_order (ComesBefore-itself (places levels) (level.place + 1))).1
        level.place (omega arith))

    remembered : Remembers start calls visited (places levels) level
    remembered =
        subst (λ ls. Remembers start calls visited (places ls) level) (take_at levels (level ∷ []) (length levels) refl)
        (s.remembers (length levels) level (slice_get-middle levels level []))

    left_parts : AreLeft (length calls) (range_with_len 0 (length calls)) (level.place ∷ reverse (places levels)) by_number
    left_parts = subst (λ out. AreLeft (length calls) (range_with_len 0 (length calls)) out by_number) (reverse-push levels level)
        s.links.calls_left

    answer_parts : AreLeft (length calls) s.links.order (level.place ∷ reverse (places levels)) by_answer
    answer_parts = subst (λ out. AreLeft (length calls) s.links.order out by_answer) (reverse-push levels level) s.links.answers_left

    -- the walk is before the call again, which it has tried
    pub IsStateBut-back : (restored : Contents) → restored ≡ undone pairs level.undo
        → IsStateBut start calls levels (slice_index (put_back by_number level.place).after level.place) level.at restored visited
        (put_back by_number level.place)
        (put_back by_answer level.place)
    IsStateBut-back restored restored_is =
        IsStateBut-pass start calls apart levels level.place level.at restored visited (put_back by_number level.place)
        (put_back by_answer level.place)
        popped below-popped new not_order_before s.begins
        (restored_is ∙ ap (λ m. undone m level.undo) (s.holds ∙ ap (pairs_after start calls) before_is) ∙ remembered.undo)
        remembered.at
        (λ i l is.
        let within = slice_get_within levels i l is in
        subst (λ ls. Remembers start calls visited (places ls) l) (take-append-le i levels (level ∷ []) (omega arith))
        (s.remembers i l (slice_get-append_left levels (level ∷ []) i within ∙ is)))
        (record {
          number_size = length-set by_number.after (slice_index by_number.before level.place) level.place ∙ s.links.number_size;
          answer_size = length-set by_answer.after (slice_index by_answer.before level.place) level.place ∙ s.links.answer_size;
          calls_left = left_parts.1;
          order = s.links.order;
          sorted = s.links.sorted;
          answers_left = answer_parts.1;
        })

    -- fewer calls are to try
    pub untried-back : untried (length calls) levels
        (slice_index (put_back by_number level.place).after level.place) < untried (length calls)
        (levels ++ level ∷ []) next
    untried-back =
        let left =
        IsNextLeft-after (length calls) (reverse (places levels)) (put_back by_number level.place) left_parts.1 level.place below-popped
        (λ h. new (Contains-from_reverse (places levels) level.place h)) in
        let less =
        untried-less (length calls) levels level.place (slice_index (put_back by_number level.place).after level.place)
        (omega (arith, left.later)) left.within in
        omega (arith, less, untried-push (length calls) levels level next)

-- a walk whose parts are equal to these is in the same state
pub IsStateBut-same : (start : Contents) (calls : List Operation) (levels l : List Level) (next n at a : ℕ) (pairs m : Contents)
    (visited v : List Configuration)
    (by_number b by_answer d : LinksView) → l ≡ levels → n ≡ next → a ≡ at → m ≡ pairs → v ≡ visited → b ≡ by_number → d ≡ by_answer
    → IsStateBut start calls levels next at pairs visited by_number by_answer → IsStateBut start calls l n a m v b d
IsStateBut-same start calls levels l next n at a pairs m visited v by_number b by_answer d l_is n_is a_is m_is v_is b_is d_is s =
    subst (λ x. IsStateBut start calls x n a m v b d) (sym l_is)
    (subst (λ x. IsStateBut start calls levels x a m v b d) (sym n_is)
    (subst (λ x. IsStateBut start calls levels next x m v b d) (sym a_is)
    (subst (λ x. IsStateBut start calls levels next at x v b d) (sym m_is)
    (subst (λ x. IsStateBut start calls levels next at pairs x b d) (sym v_is)
    (subst (λ x. IsStateBut start calls levels next at pairs visited x d) (sym b_is)
    (subst (λ x. IsStateBut start calls levels next at pairs visited by_number x) (sym d_is) s))))))
