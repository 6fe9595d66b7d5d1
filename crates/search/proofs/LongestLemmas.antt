-- The longest front, as a walk goes on.
use Rattle.search.proofs.Common.{◌≡◌, true, false, refl, ℕ, ◌<◌, ◌≤◌, List, [], ◌∷◌, ◌++◌, length, sym, ap, ◌∙◌, subst, ⊎_elim, arith, All, Contains}
use Rattle.search.proofs.Common.{slice_index, cases_Bool, length-map, All-contains, All-weaker, Contains-append_left, Contains-push_cases}
use Rattle.search.proofs.Common.{Configuration, LeadsTo, IsFront, configuration_of, LeadsTo-nil, LeadsTo-exists, IsFront-nil, All-from_contains}
use Rattle.search.proofs.Common.{Contains-at, Contains-nil, Contains-cases, SegmentView, numbers_at, Level, Standing, cursor, is_at_or_before, places}
use Rattle.search.proofs.Common.{Stands, HasMoved}
use Rattle.search.proofs.BeforeLemmas.{ComesBefore-from_at_or_before}
use Rattle.search.proofs.CursorLemmas.{visited_from_front}
use Rattle.search.proofs.EarliestLemmas.{length-taken}

-- the front leads to a configuration that was visited, none of which has more calls taken, and it is the least of the fronts as long
pub record IsLongestSoFar (segment : SegmentView) (standing : Standing) (front : List ℕ) : Type 0 where
  pub places : List ℕ
  pub is : front ≡ numbers_at segment places
  pub is_front : IsFront segment.start segment.calls places
  pub reached : (c : Configuration) × Contains standing.memo c × LeadsTo segment.start segment.calls places c
  pub most : All (λ c. length c.taken ≤ length places) standing.memo
  pub least : (other : List ℕ) → IsFront segment.start segment.calls other → length other ≡ length places
      → is_at_or_before places other ≡ true

-- a front has as many numbers as places
pub as_long_as : (segment : SegmentView) (front path : List ℕ) → front ≡ numbers_at segment path → length front ≡ length path
as_long_as segment front path is = ap length is ∙ length-map path (slice_index segment.numbers)

-- no configuration visited has more calls taken than the front has numbers
pub longest-most : (segment : SegmentView) (standing : Standing) (front : List ℕ) → IsLongestSoFar segment standing front
    → All (λ c. length c.taken ≤ length front) standing.memo
longest-most segment standing front h =
    subst (λ (n : ℕ). All (λ c. length c.taken ≤ n) standing.memo) (sym (as_long_as segment front h.places h.is)) h.most

module _ (segment : SegmentView) (standing : Standing) (s : Stands segment.start segment.calls standing) where
  abbrev pub path : List ℕ
  path = places standing.levels.items

  -- a configuration to which the calls taken lead has as many taken
  as_many : (c : Configuration) → LeadsTo segment.start segment.calls path c → length c.taken ≡ length path
  as_many c leads = length-taken segment.start segment.calls path c s.cursor.is_front leads

  -- as many calls are taken as there are levels
  pub as_long : length path ≡ length standing.levels.items
  as_long = length-map standing.levels.items (λ (l : Level). l.place)

  -- at the opening one configuration was visited: that of the start
  pub longest-open : (front : List ℕ) → front ≡ numbers_at segment path → length standing.memo ≡ 1 → IsLongestSoFar segment standing front
  longest-open front is one =
      let (c, here, leads) = s.stands_at in
      let visited = Contains-at standing.memo standing.at c here in
      let opening = visited_from_front segment.start segment.calls path standing.next standing.memo s.cursor []
      (configuration_of [] segment.start)
      (IsFront-nil segment.start segment.calls) (LeadsTo-nil segment.start segment.calls)
      (ComesBefore-from_at_or_before path [] standing.next refl) in
      let same = only standing.memo one c (configuration_of [] segment.start) visited opening in
      let none : length path ≡ 0 = sym (as_many c leads) ∙ ap (λ (x : Configuration). length x.taken) same in
      record {
        places = path;
        is = is;
        is_front = s.cursor.is_front;
        reached = (c, visited, leads);
        most = All-from_contains (λ d. length d.taken ≤ length path) standing.memo (λ d h.
            subst (λ (x : Configuration). length x.taken ≤ length path) (only standing.memo one c d visited h)
            (omega (arith, as_many c leads)));
        least = λ other is_front long. nothing_first path other none;
      }
    where
      only : (visited : List Configuration) → length visited ≡ 1 → (c d : Configuration) → Contains visited c → Contains visited d → c ≡ d
      only [] one c d h k = absurd (Contains-nil d k)
      only (x ∷ []) one c d h k = sym (first x c h) ∙ first x d k
        where
          first : (x c : Configuration) → Contains (x ∷ []) c → x ≡ c
          first x c h = ⊎_elim (λ is. is) (λ later. absurd (Contains-nil c later)) (Contains-cases x [] c h)
      only (x ∷ y ∷ visited) one c d h k = absurd (omega (arith, one))

      nothing_first : (xs ys : List ℕ) → length xs ≡ 0 → is_at_or_before xs ys ≡ true
      nothing_first [] ys none = refl
      nothing_first (x ∷ xs) ys none = absurd (omega (arith, none))

module _ (segment : SegmentView) (old new : Standing) (longest : List ℕ) (stood : Stands segment.start segment.calls old)
    (moved : HasMoved segment.start segment.calls old new) (was : IsLongestSoFar segment old longest) where
  -- after a turn no configuration has more calls taken than the longest front and the calls taken now
  most_moved : (most : ℕ) → length was.places ≤ most → length (places new.levels.items) ≤ most → All (λ c. length c.taken ≤ most) new.memo
  most_moved most old_within new_within = ⊎_elim
      (λ tried. subst (All (λ c. length c.taken ≤ most)) (sym tried.0) before)
      (λ (c, is, leads, fewer, at_cursor). subst (All (λ d. length d.taken ≤ most)) (sym is)
      (All-from_contains (λ d. length d.taken ≤ most) (old.memo ++ c ∷ []) (λ d h. ⊎_elim
      (λ earlier. All-contains (λ e. length e.taken ≤ most) old.memo d before earlier)
      (λ last. subst (λ (e : Configuration). length e.taken ≤ most) last
      (omega (arith, as_many segment new moved.stands c leads, new_within)))
      (Contains-push_cases old.memo c d h))))
      moved.progress
    where
      before : All (λ c. length c.taken ≤ most) old.memo
      before = All-weaker (λ c. length c.taken ≤ length was.places) (λ c. length c.taken ≤ most)
          (λ c h. omega (arith, h, old_within)) old.memo was.most

  -- what was visited stays so
  visited_still : (c : Configuration) → Contains old.memo c → Contains new.memo c
  visited_still c h = ⊎_elim
      (λ tried. subst (λ (memo : List Configuration). Contains memo c) (sym tried.0) h)
      (λ visited. subst (λ (memo : List Configuration). Contains memo c) (sym visited.1)
      (Contains-append_left old.memo (visited.0 ∷ []) c h))
      moved.progress

  -- the longest front stays where no more calls are taken now
  pub longest-kept : length (places new.levels.items) ≤ length was.places → IsLongestSoFar segment new longest
  longest-kept within = record {
    places = was.places;
    is = was.is;
    is_front = was.is_front;
    reached = (was.reached.0, visited_still was.reached.0 was.reached.1, was.reached.2);
    most = most_moved (length was.places) (omega arith) within;
    least = was.least;
  }

  -- else the calls taken now are the longest, and a front as long that comes before them would have been met
  pub longest-longer : (front : List ℕ) → front ≡ numbers_at segment (places new.levels.items)
      → length was.places < length (places new.levels.items)
      → IsLongestSoFar segment new front
  longest-longer front is more =
      let (c, here, leads) = moved.stands.stands_at in
      record {
        places = places new.levels.items;
        is = is;
        is_front = moved.stands.cursor.is_front;
        reached = (c, Contains-at new.memo new.at c here, leads);
        most = most_moved (length (places new.levels.items)) (omega (arith, more)) (omega arith);
        least = least;
      }
    where
      -- no front as long was after the cursor
      none_behind : (other : List ℕ) → IsFront segment.start segment.calls other → length other ≡ length (places new.levels.items)
          → is_at_or_before (cursor (places old.levels.items) old.next) other ≡ false → ⊥
      none_behind other is_front long before =
          let (d, leads) = LeadsTo-exists segment.start segment.calls other is_front.known in
          let visited = visited_from_front segment.start segment.calls (places old.levels.items) old.next old.memo stood.cursor other d
          is_front leads before in
          absurd (omega (
            arith,
            All-contains (λ e. length e.taken ≤ length was.places) old.memo d was.most visited,
            length-taken segment.start segment.calls other d is_front leads,
            long,
            more,
          ))

      least : (other : List ℕ) → IsFront segment.start segment.calls other → length other ≡ length (places new.levels.items)
          → is_at_or_before (places new.levels.items) other ≡ true
      least other is_front long = ⊎_elim (λ at. at)
          (λ behind. ⊎_elim
          (λ tried. let (c, here, leads) = moved.stands.stands_at in
          absurd (omega (
            arith,
            more,
            as_many segment new moved.stands c leads,
            All-contains (λ e. length e.taken ≤ length was.places) old.memo c was.most
                (subst (λ (memo : List Configuration). Contains memo c) tried.0 (Contains-at new.memo new.at c here)),
          )))
          (λ visited. absurd (none_behind other is_front long (ap (λ (path : List ℕ). is_at_or_before path other)
          (sym visited.4) ∙ behind)))
          moved.progress)
          (cases_Bool (is_at_or_before (places new.levels.items) other))
