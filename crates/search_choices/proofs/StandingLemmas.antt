-- The state of a search after each of its steps.
use Rattle.search_choices.proofs.Common.{Vec, Global, ◌≡◌, ℕ, ◌+◌, ◌<◌, ◌≤◌, Bool, true, false, List, Some, [], ◌∷◌, ◌++◌, length, take, replicate, set}
use Rattle.search_choices.proofs.Common.{get_or, refl, sym, ap, ◌∙◌, subst, inl, inr, ⊎_elim, arith, ◌⊎◌, slice_get, Contains, cases_lt, append-nil}
use Rattle.search_choices.proofs.Common.{map-append, take-append-le, take_all, length-append, length-map, Contains-append_left, Contains-push}
use Rattle.search_choices.proofs.Common.{Contains-push_cases, none-some, same_Some, slice_get_within, Operation, is_completed, NonePrecedesItself}
use Rattle.search_choices.proofs.Common.{Contents, IsRising, IsLegalCall, after_call, IsOrder, IsLinearizable, after_calls-push, IsFront, IsNext}
use Rattle.search_choices.proofs.Common.{IsNext-from_front, IsFront-next, IsFront-front, IsFront-nil, IsFront-from_order, Contains-nil, Contains-first}
use Rattle.search_choices.proofs.Common.{Contains-cases, Contains-at, place_before-Contains, place-push, slice_get-append_left, slice_get-middle}
use Rattle.search_choices.proofs.Common.{pairs_after, IsReadNext, places, IsDead, IsDeadAt, AreNext, Closes, Remembers, IsSettled, AreMarked}
use Rattle.search_choices.proofs.Common.{IsStateBut, AreChoices, IsNextOf, IsReduced, HasMoved, IsLooked, IsStep, to_try}
use Rattle.std.proofs.lemmas.List.{append_assoc}
use Rattle.memo.specs.Configurations.{Configuration, LeadsTo, IsReachable}
use Rattle.memo.proofs.ConfigurationLemmas.{configuration_of, LeadsTo-nil}
use Rattle.search.specs.Undo.{undone}
use Rattle.search.proofs.FutureLemmas.{same_completion}
use Rattle.search_choices.specs.declared.branch.CallSearch.{CallSearch}
use Rattle.search_choices.specs.declared.branch.SearchStep.{SearchStep}
use Rattle.search_choices.specs.declared.branch.SearchStep.TheVariants.{Made, Order, NoOrder}
use Rattle.search_choices.specs.declared.branch.Branch.{Branch}
use Rattle.search_choices.proofs.ReadLemmas.{reads_first}
use Rattle.search_choices.proofs.MarkLemmas.{marked-none, marked-push, marked-pop}

-- what is in the beginning of a list is in the list
Contains-from_take : (xs : List ℕ) (i n : ℕ) → Contains (take i xs) n → Contains xs n
Contains-from_take xs i n h = let (j, before, there) = place_before-Contains xs i n h in Contains-at xs j n there

pub places-push : (levels : List Branch) (level : Branch) → places (levels ++ level ∷ []) ≡ places levels ++ level.place ∷ []
places-push levels level = map-append (λ (l : Branch). l.place) levels (level ∷ [])

-- ---- what is to be tried

pub to_try-push : (levels : List Branch) (level : Branch) (rest : List ℕ)
    → to_try (levels ++ level ∷ []) rest ≡ to_try levels level.rest.items + 1 + length rest
to_try-push [] level rest = omega arith
to_try-push (l ∷ levels) level rest = omega (arith, to_try-push levels level rest)

pub to_try-rest : (levels : List Branch) (rest : List ℕ) → to_try levels rest ≡ to_try levels [] + length rest
to_try-rest [] rest = omega arith
to_try-rest (l ∷ levels) rest = omega (arith, to_try-rest levels rest)

module _ (start : Contents) (calls : List Operation) where
  -- a list that is to be tried from its end: the last call, and the others
  pub last_of : (path rest : List ℕ) (n : ℕ) → AreChoices start calls path (rest ++ n ∷ []) → IsNextOf start calls path n rest
  last_of path rest n choices = record {
    is_next = choices.next n (Contains-push rest n);
    next = λ k h. choices.next k (Contains-append_left rest (n ∷ []) k h);
    closes = λ dead others. choices.closes (λ k h. ⊎_elim
        (λ old. others k old)
        (λ is. subst (λ j. IsDead start calls (path ++ j ∷ [])) is dead)
        (Contains-push_cases rest n k h));
  }

  -- where nothing is to be tried
  pub dead_end : (path : List ℕ) → Closes start calls path [] → IsDead start calls path
  dead_end path closes = closes (λ n h. absurd (Contains-nil n h))

  pub none_at_end : IsDead start calls [] → IsLinearizable start calls → ⊥
  none_at_end dead (order, is_order) = dead (order, is_order)

  -- a read on its own makes an end
  pub read_closes : (path : List ℕ) (n : ℕ) → IsRising start → IsReadNext start calls path n → Closes start calls path (n ∷ [])
  read_closes path n rising read dead more = dead n (Contains-first n []) ((reads_first start calls path n rising read).0 more)

  -- calls to try may be listed in another order
  pub choices_again : (path rest again : List ℕ) → ((n : ℕ) → Contains rest n → Contains again n)
      → ((n : ℕ) → Contains again n → Contains rest n)
      → AreChoices start calls path rest → AreChoices start calls path again
  choices_again path rest again to from choices = record {
    next = λ n h. choices.next n (from n h);
    closes = λ dead. choices.closes (λ n h. dead n (to n h));
  }

  -- some of the calls, where the others are taken in vain
  pub choices_reduced : (path rest fewer : List ℕ) → IsReduced start calls path rest fewer → AreChoices start calls path rest
      → AreChoices start calls path fewer
  choices_reduced path rest fewer reduced choices = record {
    next = λ n h. choices.next n (reduced.from n h);
    closes = λ dead. choices.closes (λ n h. ⊎_elim (λ kept. dead n kept) (λ vain. vain) (reduced.others n h));
  }

  pub reduced-keep : (path rest fewer more : List ℕ) (n : ℕ) → more ≡ fewer ++ n ∷ [] → IsReduced start calls path rest fewer
      → IsReduced start calls path (rest ++ n ∷ []) more
  reduced-keep path rest fewer more n is h = subst (IsReduced start calls path (rest ++ n ∷ [])) (sym is) (record {
    from = λ k in_more. ⊎_elim
        (λ old. Contains-append_left rest (n ∷ []) k (h.from k old))
        (λ same. subst (Contains (rest ++ n ∷ [])) same (Contains-push rest n))
        (Contains-push_cases fewer n k in_more);
    others = λ k in_rest. ⊎_elim
        (λ old. ⊎_elim (λ kept. inl (Contains-append_left fewer (n ∷ []) k kept)) (λ vain. inr vain) (h.others k old))
        (λ same. inl (subst (Contains (fewer ++ n ∷ [])) same (Contains-push fewer n)))
        (Contains-push_cases rest n k in_rest);
    few = omega (arith, length-append rest (n ∷ []), length-append fewer (n ∷ []), h.few);
  })

  pub reduced-leave : (path rest fewer : List ℕ) (n : ℕ) → IsDead start calls (path ++ n ∷ []) → IsReduced start calls path rest fewer
      → IsReduced start calls path (rest ++ n ∷ []) fewer
  reduced-leave path rest fewer n vain h = record {
    from = λ k in_fewer. Contains-append_left rest (n ∷ []) k (h.from k in_fewer);
    others = λ k in_rest. ⊎_elim (λ old. h.others k old) (λ same. inr (subst (λ j. IsDead start calls (path ++ j ∷ [])) same vain))
        (Contains-push_cases rest n k in_rest);
    few = omega (arith, length-append rest (n ∷ []), h.few);
  }

  -- ---- at the beginning

  pub stands-open : (levels : List Branch) (visited : List Configuration) (pairs : Contents) → levels ≡ [] → pairs ≡ start
      → visited ≡ configuration_of [] start ∷ []
      → IsStateBut start calls levels 0 pairs visited (replicate (length calls) false) 0
  stands-open levels visited pairs levels_is pairs_is visited_is =
      subst (λ ls. IsStateBut start calls ls 0 pairs visited (replicate (length calls) false) 0) (sym levels_is)
      (subst (λ m. IsStateBut start calls [] 0 m visited (replicate (length calls) false) 0) (sym pairs_is)
      (subst (λ vs. IsStateBut start calls [] 0 start vs (replicate (length calls) false) 0) (sym visited_is) (record {
        is_front = IsFront-nil start calls;
        holds = refl;
        stands_at = (configuration_of [] start, refl, leads);
        remembers = λ i level is. absurd (none-some level is);
        reached = λ c h. ⊎_elim (λ is. subst (IsReachable start calls) is ([], IsFront-nil start calls, leads))
            (λ h. absurd (Contains-nil c h))
            (Contains-cases (configuration_of [] start) [] c h);
        settled = λ c h. ⊎_elim (λ is. subst (IsSettled start calls []) is (inr (0, omega arith, leads))) (λ h. absurd (Contains-nil c h))
            (Contains-cases (configuration_of [] start) [] c h);
        marked = marked-none (length calls);
      })))
    where
      leads : LeadsTo start calls [] (configuration_of [] start)
      leads = LeadsTo-nil start calls

  -- ---- a call that leads to a configuration that was visited is taken in vain

  module _ (levels : List Branch) (at : ℕ) (pairs : Contents) (visited : List Configuration) (taken : List Bool) (low : ℕ)
      (s : IsStateBut start calls levels at pairs visited taken low) (n : ℕ) (next : IsNext start calls (places levels) n)
      (d : Configuration) (leads : LeadsTo start calls (places levels ++ n ∷ []) d) where
    abbrev path : List ℕ
    path = places levels

    pub dead-seen : Contains visited d → IsDead start calls (path ++ n ∷ [])
    dead-seen seen = ⊎_elim
        (λ dead. dead (path ++ n ∷ []) (IsFront-next start calls path n s.is_front next) leads)
        (λ on_way. absurd (next.new (Contains-from_take path on_way.0 n ((on_way.2.taken n).0 ((leads.taken n).1 (Contains-push path n))))))
        (s.settled d seen)

    -- ---- one call further

    module _ (rest : List ℕ) (of : IsNextOf start calls path n rest) (level : Branch) (place_is : level.place ≡ n) (at_is : level.at ≡ at)
        (rest_is : level.rest.items ≡ rest) (after_pairs : Contents)
        (after_is : after_pairs ≡ after_call pairs next.call.call next.call.response)
        (undo_is : undone after_pairs level.undo ≡ pairs) (low_after : ℕ) (low_within : low_after ≤ length (set taken n true))
        (low_below : (k : ℕ) → k < low_after → (k < low) ⊎ (get_or (set taken n true) k false ≡ true)) where
      path_is : places (levels ++ level ∷ []) ≡ path ++ n ∷ []
      path_is = places-push levels level ∙ ap (λ k. path ++ k ∷ []) place_is

      pairs_is : after_pairs ≡ pairs_after start calls (path ++ n ∷ [])
      pairs_is = after_is ∙ ap (λ m. after_call m next.call.call next.call.response) s.holds
          ∙ sym (after_calls-push start calls path n next.call next.here)

      within_path : (i : ℕ) → i ≤ length path → take i (path ++ n ∷ []) ≡ take i path
      within_path i le = take-append-le i path (n ∷ []) le

      remembers_pushed : (i : ℕ) (l : Branch) → slice_get (levels ++ level ∷ []) i ≡ Some l
          → Remembers start calls (visited ++ d ∷ []) (take i (path ++ n ∷ [])) l
      remembers_pushed i l is = ⊎_elim
          (λ old.
          let before = s.remembers i l old in
          let le : i ≤ length path = omega (arith, slice_get_within levels i l old, length-map levels (λ (k : Branch). k.place)) in
          subst (λ p. Remembers start calls (visited ++ d ∷ []) p l) (sym (within_path i le))
          (record {
            at = (
              before.at.0,
              slice_get-append_left visited (d ∷ []) l.at (slice_get_within visited l.at before.at.0 before.at.1)
                  ∙ before.at.1,
              before.at.2,
            );
            undo = before.undo;
            next = before.next;
            closes = before.closes;
          }))
          (λ pushed.
          let whole : take i (path ++ n ∷ []) ≡ path =
          within_path i (omega (arith, pushed.0, length-map levels (λ (k : Branch). k.place)))
          ∙ take_all i path (omega (arith, pushed.0, length-map levels (λ (k : Branch). k.place))) in
          subst (λ p. Remembers start calls (visited ++ d ∷ []) p l) (sym whole)
          (subst (Remembers start calls (visited ++ d ∷ []) path) (sym pushed.1) (record {
            at = (
              s.stands_at.0,
              ap (slice_get (visited ++ d ∷ [])) at_is
                  ∙ slice_get-append_left visited (d ∷ []) at (slice_get_within visited at s.stands_at.0 s.stands_at.1) ∙ s.stands_at.1,
              s.stands_at.2,
            );
            undo = ap (λ k. undone (pairs_after start calls (path ++ k ∷ [])) level.undo) place_is
                ∙ ap (λ m. undone m level.undo) (sym pairs_is)
                ∙ undo_is ∙ s.holds;
            next = subst (AreNext start calls path) (sym rest_is) of.next;
            closes = λ dead. subst (Closes start calls path) (sym rest_is)
                (of.closes (subst (λ k. IsDead start calls (path ++ k ∷ [])) place_is dead));
          })))
          (place-push levels level i l is)

      settled_pushed : (c : Configuration) → Contains (visited ++ d ∷ []) c → IsSettled start calls (path ++ n ∷ []) c
      settled_pushed c h = ⊎_elim
          (λ old. ⊎_elim (λ dead. inl dead)
          (λ on_way. inr (
            on_way.0,
            omega (arith, on_way.1, length-append path (n ∷ [])),
            subst (λ p. LeadsTo start calls p c) (sym (within_path on_way.0 on_way.1)) on_way.2,
          ))
          (s.settled c old))
          (λ is. inr (
            length (path ++ n ∷ []),
            omega arith,
            subst (λ p. LeadsTo start calls p c) (sym (take_all (length (path ++ n ∷ [])) (path ++ n ∷ []) (omega arith)))
                (subst (LeadsTo start calls (path ++ n ∷ [])) is leads),
          ))
          (Contains-push_cases visited d c h)

      pub stands-push : IsStateBut start calls (levels ++ level ∷ []) (length visited) after_pairs (visited ++ d ∷ [])
          (set taken n true) low_after
      stands-push =
          let front = IsFront-next start calls path n s.is_front next in
          record {
            is_front = subst (IsFront start calls) (sym path_is) front;
            holds = pairs_is ∙ ap (pairs_after start calls) (sym path_is);
            stands_at = (d, slice_get-middle visited d [], subst (λ p. LeadsTo start calls p d) (sym path_is) leads);
            remembers = λ i l is. subst (λ p. Remembers start calls (visited ++ d ∷ []) (take i p) l) (sym path_is)
                (remembers_pushed i l is);
            reached = λ c h. ⊎_elim (λ old. s.reached c old) (λ is. subst (IsReachable start calls) is (path ++ n ∷ [], front, leads))
                (Contains-push_cases visited d c h);
            settled = λ c h. subst (λ p. IsSettled start calls p c) (sym path_is) (settled_pushed c h);
            marked = subst (λ p. AreMarked (length calls) p (set taken n true) low_after) (sym path_is)
                (marked-push (length calls) path taken low n low_after s.marked (slice_get_within calls n next.call next.here)
                low_within low_below);
          }

  -- ---- back by one call

  module _ (apart : NonePrecedesItself calls) (levels : List Branch) (level : Branch) (at : ℕ) (pairs : Contents)
      (visited : List Configuration)
      (taken : List Bool) (low : ℕ) (s : IsStateBut start calls (levels ++ level ∷ []) at pairs visited taken low)
      (dead : IsDead start calls (places (levels ++ level ∷ []))) where
    abbrev front : List ℕ
    front = places levels

    whole_is : places (levels ++ level ∷ []) ≡ front ++ level.place ∷ []
    whole_is = places-push levels level

    whole : IsFront start calls (front ++ level.place ∷ [])
    whole = subst (IsFront start calls) whole_is s.is_front

    dead_whole : IsDead start calls (front ++ level.place ∷ [])
    dead_whole = subst (IsDead start calls) whole_is dead

    taken_back : IsNext start calls front level.place
    taken_back = IsNext-from_front start calls front level.place [] whole

    pub below-popped : level.place < length calls
    below-popped = slice_get_within calls level.place taken_back.call taken_back.here

    cut : (i : ℕ) → i ≤ length front → take i (places (levels ++ level ∷ [])) ≡ take i front
    cut i le = ap (take i) whole_is ∙ take-append-le i front (level.place ∷ []) le

    remembered : Remembers start calls visited front level
    remembered =
        let le : length levels ≤ length front = omega (arith, length-map levels (λ (k : Branch). k.place)) in
        let ge : length front ≤ length levels = omega (arith, length-map levels (λ (k : Branch). k.place)) in
        subst (λ p. Remembers start calls visited p level) (cut (length levels) le ∙ take_all (length levels) front ge)
        (s.remembers (length levels) level (slice_get-middle levels level []))

    -- a configuration to which a dead end leads is a dead end
    dead_at : (c : Configuration) → LeadsTo start calls (front ++ level.place ∷ []) c → IsDeadAt start calls c
    dead_at c leads other is_front by_other (tail, order) =
        dead_whole (tail, same_completion start calls other (front ++ level.place ∷ []) tail c apart whole by_other leads order)

    settled_popped : (c : Configuration) → Contains visited c → IsSettled start calls front c
    settled_popped c h = ⊎_elim (λ dead. inl dead)
        (λ on_way. ⊎_elim
        (λ last. inl (dead_at c
        (subst (λ p. LeadsTo start calls p c) (ap (take on_way.0) whole_is ∙ take_all on_way.0 (front ++ level.place ∷ []) last) on_way.2)))
        (λ earlier. inr (on_way.0, earlier, subst (λ p. LeadsTo start calls p c) (cut on_way.0 earlier) on_way.2))
        (last_or_earlier on_way.0))
        (s.settled c h)
      where
        last_or_earlier : (i : ℕ) → (length (front ++ level.place ∷ []) ≤ i) ⊎ (i ≤ length front)
        last_or_earlier i = ⊎_elim (λ lt. inr (omega arith)) (λ le. inl (omega (arith, length-append front (level.place ∷ []))))
            (cases_lt i (length front + 1))

    pub stands-pop : (restored : Contents) (low_after : ℕ) → restored ≡ undone pairs level.undo → low_after ≤ low → low_after ≤ level.place
        → IsStateBut start calls levels level.at restored visited (set taken level.place false) low_after
    stands-pop restored low_after restored_is le not_above = record {
      is_front = IsFront-front start calls front (level.place ∷ []) whole;
      holds = restored_is ∙ ap (λ m. undone m level.undo) (s.holds ∙ ap (pairs_after start calls) whole_is) ∙ remembered.undo;
      stands_at = remembered.at;
      remembers = λ i l is.
          let within = slice_get_within levels i l is in
          subst (λ p. Remembers start calls visited p l) (cut i (omega (arith, within, length-map levels (λ (k : Branch). k.place))))
          (s.remembers i l (slice_get-append_left levels (level ∷ []) i within ∙ is));
      reached = s.reached;
      settled = settled_popped;
      marked = marked-pop (length calls) front taken low level.place low_after
          (subst (λ p. AreMarked (length calls) p taken low) whole_is s.marked) below-popped taken_back.new le not_above;
    }

    pub choices-pop : AreChoices start calls front level.rest.items
    choices-pop = record { next = remembered.next; closes = remembered.closes dead_whole }

-- a search whose parts are equal to these is in the same state
pub stands-same : (start : Contents) (calls : List Operation) (levels l : List Branch) (at a : ℕ) (pairs m : Contents)
    (visited v : List Configuration)
    (taken t : List Bool) (low k : ℕ) → l ≡ levels → a ≡ at → m ≡ pairs → v ≡ visited → t ≡ taken → k ≡ low
    → IsStateBut start calls levels at pairs visited taken low
    → IsStateBut start calls l a m v t k
stands-same start calls levels l at a pairs m visited v taken t low k l_is a_is m_is v_is t_is k_is s =
    subst (λ x. IsStateBut start calls x a m v t k) (sym l_is)
    (subst (λ x. IsStateBut start calls levels x m v t k) (sym a_is)
    (subst (λ x. IsStateBut start calls levels at x v t k) (sym m_is)
    (subst (λ x. IsStateBut start calls levels at pairs x t k) (sym v_is)
    (subst (λ x. IsStateBut start calls levels at pairs visited x k) (sym t_is)
    (subst (λ x. IsStateBut start calls levels at pairs visited taken x) (sym k_is) s)))))

-- a call that may come next and leaves all pairs as they are is a read that may go first
pub read_next : (start : Contents) (calls : List Operation) (path : List ℕ) (n : ℕ) (a : Operation) → IsRising start
    → slice_get calls n ≡ Some a
    → is_completed a ≡ true
    → ((m : Contents) → IsRising m → IsLegalCall m a.call a.response → after_call m a.call a.response ≡ m) → IsNext start calls path n
    → IsReadNext start calls path n
read_next start calls path n a rising here completed leaves next =
    let same = same_Some next.call a (sym next.here ∙ here) in
    let legal = subst (λ (b : Operation). IsLegalCall (pairs_after start calls path) b.call b.response) same next.legal in
    record {
      call = a;
      here = here;
      completed = completed;
      new = next.new;
      preceded = next.preceded;
      legal = legal;
      leaves = leaves;
    }

-- one read alone is to be tried
pub read_choices : (start : Contents) (calls : List Operation) (path rest : List ℕ) (n : ℕ) → IsRising start → rest ≡ n ∷ []
    → IsNext start calls path n
    → IsReadNext start calls path n → AreChoices start calls path rest
read_choices start calls path rest n rising is next read = subst (AreChoices start calls path) (sym is) (record {
  next = λ k h. ⊎_elim (λ same. subst (IsNext start calls path) same next) (λ none. absurd (Contains-nil k none)) (Contains-cases n [] k h);
  closes = read_closes start calls path n rising read;
})

-- ---- what a step came to

-- a step from where the same is visited and no more is to be tried
pub step_from : (start : Contents) (calls : List Operation) (old middle new : CallSearch) (progress : SearchStep)
    → length middle.memo ≡ length old.memo
    → to_try middle.levels.items middle.rest.items ≤ to_try old.levels.items old.rest.items → IsStep start calls middle new progress
    → IsStep start calls old new progress
step_from start calls old middle new Made visited le h = record {
  stands = h.stands;
  progress = ⊎_elim
      (λ tried. inl (tried.0 ∙ visited, omega (arith, tried.1)))
      (λ found. inr (found.0 ∙ ap (λ n. n + 1) visited, omega (arith, found.1)))
      h.progress;
}
step_from start calls old middle new Order visited le h = h
step_from start calls old middle new NoOrder visited le h = h

-- a call that leads to a new configuration, after which the search looked on
pub step_on : (start : Contents) (calls : List Operation) (old middle new : CallSearch) (rest : List ℕ) (progress : SearchStep)
    → length middle.memo ≡ length old.memo + 1
    → to_try middle.levels.items [] ≡ to_try old.levels.items rest + 1 → length old.rest.items ≡ length rest + 1
    → IsLooked start calls middle new progress
    → IsStep start calls old new progress
step_on start calls old middle new rest Made visited pushed popped h = record {
  stands = h.0;
  progress = inr (
    ap length h.1 ∙ visited,
    omega (
      arith,
      h.3,
      pushed,
      popped,
      to_try-rest new.levels.items new.rest.items,
      to_try-rest old.levels.items old.rest.items,
      to_try-rest old.levels.items rest,
      ap (λ (v : Vec Branch Global). to_try v.items []) h.2,
    ),
  );
}
step_on start calls old middle new rest Order visited pushed popped h = h.0
step_on start calls old middle new rest NoOrder visited pushed popped h = absurd h

-- a call that was put back
pub step_back : (start : Contents) (calls : List Operation) (old middle new : CallSearch) (n : ℕ)
    → IsStateBut start calls old.levels.items old.at old.map old.memo
    old.taken.items old.low
    → old.rest.items ≡ middle.rest.items ++ n ∷ [] → middle.levels ≡ old.levels → middle.memo ≡ old.memo
    → IsNextOf start calls (places old.levels.items) n middle.rest.items
    → IsStateBut start calls new.levels.items new.at new.map new.memo new.taken.items new.low → new.memo ≡ middle.memo
    → new.levels ≡ middle.levels
    → new.rest ≡ middle.rest → IsDead start calls (places middle.levels.items ++ n ∷ []) → HasMoved start calls old new
step_back start calls old middle new n s rest_is levels_is memo_is of stands memo levels rest dead =
    let path_is : places middle.levels.items ≡ places old.levels.items = ap (λ (v : Vec Branch Global). places v.items) levels_is in
    let new_path : places new.levels.items ≡ places old.levels.items = ap (λ (v : Vec Branch Global). places v.items) (levels ∙ levels_is) in
    let dead_there = subst (λ p. IsDead start calls (p ++ n ∷ [])) path_is dead in
    let choices : AreChoices start calls (places old.levels.items) middle.rest.items =
    record { next = of.next; closes = of.closes dead_there } in
    record {
      stands = (
        stands,
        subst (λ p. AreChoices start calls p new.rest.items) (sym new_path)
            (subst (λ (v : Vec ℕ Global). AreChoices start calls (places old.levels.items) v.items) (sym rest) choices),
      );
      progress = inl (
        ap length (memo ∙ memo_is),
        omega (
          arith,
          to_try-rest new.levels.items new.rest.items,
          to_try-rest old.levels.items old.rest.items,
          ap (λ (v : Vec Branch Global). to_try v.items []) (levels ∙ levels_is),
          ap (λ (v : Vec ℕ Global). length v.items) rest,
          ap length rest_is,
          length-append middle.rest.items (n ∷ []),
        ),
      );
    }
