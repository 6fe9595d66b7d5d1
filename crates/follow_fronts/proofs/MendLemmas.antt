-- A call comes before the last calls of a closed list.
use Rattle.follow_fronts.proofs.Common.{◌≡◌, ℕ, ◌+◌, ◌-◌, ◌<◌, ◌≤◌, List, Some, [], ◌∷◌, ◌++◌, length, take, reverse, get_or, refl, sym, ap, ◌∙◌, subst}
use Rattle.follow_fronts.proofs.Common.{⊎_elim, arith, ◌≢◌, ◌↔◌, slice_get, option_map, All, Contains, append-nil, append_assoc, get_or_default}
use Rattle.follow_fronts.proofs.Common.{get_or-reverse, length-append, length-map, length-reverse, reverse-append, take-append-le, take_at, All-contains}
use Rattle.follow_fronts.proofs.Common.{All-push, Contains-push, Contains-push_cases, Contains-append_left, Contains-append_right, Contains-append_cases}
use Rattle.follow_fronts.proofs.Common.{same_Some, slice_get_within, slice_get-map, Operation, Contents, IsLegalCall, IsOrder, PrecedesAt, IsFront, IsNext}
use Rattle.follow_fronts.proofs.Common.{IsOrder-from_front, pairs_after, All-front, AllPairs-front, AllPairs-across, Contains-first, Contains-later}
use Rattle.follow_fronts.proofs.Common.{place-push, slice_get-append_left, slice_get-middle, IsClosed, places, Stands, Front, Level}
use Rattle.std.proofs.lemmas.List.Quantifiers.{all_pairs_push}
use Rattle.std.proofs.Math.Seq.{take-append_seam}
use Rattle.follow_fronts.specs.Mending.{HasCompleted, GoesOn}
use Rattle.follow_fronts.proofs.ClosedLemmas.{below-closed, known_at, next_at, more_at}

-- ---- closed lists, call by call

-- what a call needs to be the next of a closed list
record Follows (calls : List Operation) (path : List ℕ) (n : ℕ) : Type 0 where
  known : n < length calls
  new : Contains path n → ⊥
  preceded : (m : ℕ) → PrecedesAt calls m n → Contains path m

-- the call after the beginning of a closed list does
follows-from_closed : (calls : List Operation) (path : List ℕ) (n : ℕ) (rest : List ℕ) → IsClosed calls (path ++ n ∷ rest)
    → Follows calls path n
follows-from_closed calls path n rest h = record {
  known = below-closed calls path n rest h;
  new = λ within. All-contains (λ m. All (λ k. m ≢ k) (n ∷ rest)) path n
      (AllPairs-across (λ m k. m ≢ k) path (n ∷ rest) h.distinct) within 0 n
      (omega arith) refl;
  preceded = λ m before. subst (λ taken. Contains taken m) (take_at path (n ∷ rest) (length path) refl)
      (h.closed (length path) m n (slice_get-middle path n rest) before);
}

-- the beginning of a closed list is closed
closed-front : (calls : List Operation) (path rest : List ℕ) → IsClosed calls (path ++ rest) → IsClosed calls path
closed-front calls path rest h = record {
  known = All-front (λ n. n < length calls) path rest h.known;
  distinct = AllPairs-front (λ m n. m ≢ n) path rest h.distinct;
  closed = λ i m n here before.
      let within = slice_get_within path i n here in
      subst (λ taken. Contains taken m) (take-append-le i path rest (omega arith))
      (h.closed i m n (slice_get-append_left path rest i within ∙ here) before);
}

-- a closed list goes on with such a call
closed-push : (calls : List Operation) (path : List ℕ) (n : ℕ) → IsClosed calls path → Follows calls path n
    → IsClosed calls (path ++ n ∷ [])
closed-push calls path n h f = record {
  known = All-push (λ m. m < length calls) path n h.known f.known;
  distinct = all_pairs_push (λ m k. m ≢ k) path n h.distinct (λ k d within is. f.new (k, within, get_or_default path k n d within ∙ is));
  closed = λ i m k place before. ⊎_elim
      (λ old. subst (λ taken. Contains taken m) (sym (take-append-le i path (n ∷ []) (within i k old))) (h.closed i m k old before))
      (λ pushed. subst (λ taken. Contains taken m) (sym (take_at path (n ∷ []) i pushed.0))
      (f.preceded m (subst (λ k. PrecedesAt calls m k) pushed.1 before)))
      (place-push path n i k place);
}
  where
    within : (i k : ℕ) → slice_get path i ≡ Some k → i ≤ length path
    within i k old = omega (arith, slice_get_within path i k old)

-- ---- two lists of the same calls

same-push : (old new : List ℕ) (n : ℕ) → ((m : ℕ) → Contains old m ↔ Contains new m) → (m : ℕ)
    → Contains (old ++ n ∷ []) m ↔ Contains (new ++ n ∷ []) m
same-push old new n same m = (push old new (same m).0, push new old (same m).1)
  where
    push : (xs ys : List ℕ) → (Contains xs m → Contains ys m) → Contains (xs ++ n ∷ []) m → Contains (ys ++ n ∷ []) m
    push xs ys go h = ⊎_elim
        (λ before. Contains-append_left ys (n ∷ []) m (go before))
        (λ is. subst (Contains (ys ++ n ∷ [])) is (Contains-push ys n))
        (Contains-push_cases xs n m h)

same-swap : (path : List ℕ) (a b m : ℕ) → Contains ((path ++ a ∷ []) ++ b ∷ []) m → Contains ((path ++ b ∷ []) ++ a ∷ []) m
same-swap path a b m h = ⊎_elim
    (λ before. ⊎_elim
    (λ first. Contains-append_left (path ++ b ∷ []) (a ∷ []) m (Contains-append_left path (b ∷ []) m first))
    (λ is. subst (Contains ((path ++ b ∷ []) ++ a ∷ [])) is (Contains-push (path ++ b ∷ []) a))
    (Contains-push_cases path a m before))
    (λ is. Contains-append_left (path ++ b ∷ []) (a ∷ []) m (subst (Contains (path ++ b ∷ [])) is (Contains-push path b)))
    (Contains-push_cases (path ++ a ∷ []) b m h)

-- a closed list stays closed if its beginning becomes another closed list of the same calls
closed-same : (calls : List Operation) (old new rest : List ℕ) → ((m : ℕ) → Contains old m ↔ Contains new m) → IsClosed calls new
    → IsClosed calls (old ++ rest) → IsClosed calls (new ++ rest)
closed-same calls old new [] same closed h = subst (IsClosed calls) (sym (append-nil new)) closed
closed-same calls old new (n ∷ rest) same closed h =
    let f = follows-from_closed calls old n rest h in
    let next : Follows calls new n = record {
      known = f.known;
      new = λ has. f.new ((same n).1 has);
      preceded = λ m before. (same m).0 (f.preceded m before);
    } in
    subst (IsClosed calls) (append_assoc new (n ∷ []) rest)
    (closed-same calls (old ++ n ∷ []) (new ++ n ∷ []) rest (same-push old new n same) (closed-push calls new n closed next)
    (subst (IsClosed calls) (sym (append_assoc old (n ∷ []) rest)) h))

-- neighbours of a closed list change places if the first does not precede the second
closed-swap : (calls : List Operation) (path : List ℕ) (last place : ℕ) (rest : List ℕ) → (PrecedesAt calls last place → ⊥)
    → IsClosed calls ((path ++ last ∷ []) ++ place ∷ rest) → IsClosed calls (path ++ place ∷ last ∷ rest)
closed-swap calls path last place rest apart h =
    let all = subst (IsClosed calls) (append_assoc path (last ∷ []) (place ∷ rest)) h in
    let first = follows-from_closed calls path last (place ∷ rest) all in
    let second = follows-from_closed calls (path ++ last ∷ []) place rest h in
    let earlier : Follows calls path place = record {
      known = second.known;
      new = λ has. second.new (Contains-append_left path (last ∷ []) place has);
      preceded = λ m before. ⊎_elim
          (λ old. old)
          (λ is. absurd (apart (subst (λ k. PrecedesAt calls k place) (sym is) before)))
          (Contains-push_cases path last m (second.preceded m before));
    } in
    let begun = closed-push calls path place (closed-front calls path (last ∷ place ∷ rest) all) earlier in
    let later : Follows calls (path ++ place ∷ []) last = record {
      known = first.known;
      new = λ has. ⊎_elim first.new
          (λ is. second.new (subst (Contains (path ++ last ∷ [])) (sym is) (Contains-push path last)))
          (Contains-push_cases path place last has);
      preceded = λ m before. Contains-append_left path (place ∷ []) m (first.preceded m before);
    } in
    let swapped = closed-push calls (path ++ place ∷ []) last begun later in
    let same : (m : ℕ) → Contains ((path ++ last ∷ []) ++ place ∷ []) m ↔ Contains ((path ++ place ∷ []) ++ last ∷ []) m =
    λ m. (same-swap path last place m, same-swap path place last m) in
    subst (IsClosed calls) (append_assoc (path ++ place ∷ []) (last ∷ []) rest ∙ append_assoc path (place ∷ []) (last ∷ rest))
    (closed-same calls ((path ++ last ∷ []) ++ place ∷ []) ((path ++ place ∷ []) ++ last ∷ []) rest same swapped
    (subst (IsClosed calls) (sym (append_assoc (path ++ last ∷ []) (place ∷ []) rest)) h))

-- ---- calls that were taken back

-- calls are pushed from the last one of a list on, and this many are left
module _ (start : Contents) (calls : List Operation) (path back now : List ℕ) (depth : ℕ) (left : 0 < depth) (within : depth ≤ length back)
    (now_is : now ≡ path ++ take (length back - depth) (reverse back)) where
  below : length back - depth < length (reverse back)
  below = omega (arith, left, within, length-reverse back)

  read : get_or (reverse back) (length back - depth) 0 ≡ get_or back (depth - 1) 0
  read =
      let at : length back - depth < length back = omega (arith, left, within) in
      let is : length back - 1 - (length back - depth) ≡ depth - 1 = omega (arith, left, within) in
      get_or-reverse back (length back - depth) 0 at ∙ ap (λ j. get_or back j 0) is

  -- the next one is known
  pub known-reversed : IsClosed calls (path ++ reverse back) → get_or back (depth - 1) 0 < length calls
  known-reversed h =
      subst (λ n. n < length calls) read (known_at start calls path (reverse back) now (length back - depth) below now_is h)

  -- the next call may come next if it is legal
  pub next-reversed : (a : Operation) → slice_get calls (get_or back (depth - 1) 0) ≡ Some a → (m : Contents) → m ≡ pairs_after start calls now
      → IsClosed calls (path ++ reverse back) → IsLegalCall m a.call a.response → IsNext start calls now (get_or back (depth - 1) 0)
  next-reversed a here m m_is h legal =
      subst (IsNext start calls now) read
      (next_at start calls path (reverse back) now (length back - depth) below now_is a (ap (slice_get calls) read ∙ here) m m_is h legal)

  -- one call further
  pub more-reversed : (later : List ℕ) → later ≡ now ++ get_or back (depth - 1) 0 ∷ []
      → later ≡ path ++ take (length back - (depth - 1)) (reverse back)
  more-reversed later is =
      let further : length back - depth + 1 ≡ length back - (depth - 1) = omega (arith, left, within) in
      more_at start calls path (reverse back) now (length back - depth) below now_is later (is ∙ ap (λ n. now ++ n ∷ []) (sym read))
      ∙ ap (λ j. path ++ take j (reverse back)) further

-- the last call of a front, by its place
pub last-place : (levels : List Level) (level : Level) (path : List ℕ) (last : ℕ) → slice_get levels (length levels - 1) ≡ Some level
    → places levels ≡ path ++ last ∷ []
    → (slice_get (places levels) (length levels - 1) ≡ Some level.place) × (level.place ≡ last)
last-place levels level path last here is =
    let size : length levels - 1 ≡ length path =
    omega (arith, ap length is, length-append path (last ∷ []), length-map levels (λ (l : Level). l.place)) in
    let there : slice_get (places levels) (length levels - 1) ≡ Some level.place =
    slice_get-map (λ (l : Level). l.place) levels (length levels - 1) ∙ ap (option_map (λ (l : Level). l.place)) here in (
      there,
      same_Some level.place last (sym there ∙ ap (slice_get (places levels)) size ∙ ap (λ xs. slice_get xs (length path)) is
          ∙ slice_get-middle path last []),
    )

-- what was pushed is taken back
pub cut-longer : (old longer cut : List ℕ) (len : ℕ) → len ≡ length old → GoesOn old longer → cut ≡ take len longer → cut ≡ old
cut-longer old longer cut len len_is (more, is) cut_is =
    cut_is ∙ ap (λ n. take n longer) len_is ∙ ap (take (length old)) is ∙ take-append_seam old more

-- a front from which calls were taken back, the last one first, so that a call comes after it, and they come after the call
pub record IsRoom (start : Contents) (calls : List Operation) (path : List ℕ) (place : ℕ) (front : Front) (back : List ℕ) : Type 0 where
  pub stands : Stands calls front
  pub same_start : front.start ≡ start
  pub path_is : path ≡ places front.levels.items ++ reverse back
  pub closed : IsClosed calls (places front.levels.items ++ place ∷ reverse back)

pub room-more : (start : Contents) (calls : List Operation) (path : List ℕ) (place : ℕ) (front later : Front) (back more : List ℕ) (last : ℕ)
    → IsRoom start calls path place front back → Stands calls later → later.start ≡ start
    → places front.levels.items ≡ places later.levels.items ++ last ∷ [] → (PrecedesAt calls last place → ⊥)
    → more ≡ back ++ last ∷ [] → IsRoom start calls path place later more
room-more start calls path place front later back more last h stands start_is taken apart more_is =
    let left = places later.levels.items in
    let turned : reverse more ≡ last ∷ reverse back = ap reverse more_is ∙ reverse-append back (last ∷ []) in
    record {
      stands = stands;
      same_start = start_is;
      path_is = h.path_is ∙ ap (λ xs. xs ++ reverse back) taken ∙ append_assoc left (last ∷ []) (reverse back)
          ∙ ap (λ xs. left ++ xs) (sym turned);
      closed = subst (λ xs. IsClosed calls (left ++ place ∷ xs)) (sym turned)
          (closed-swap calls left last place (reverse back) apart
          (subst (λ xs. IsClosed calls (xs ++ place ∷ reverse back)) taken h.closed));
    }

-- a front that has the call and all that was taken back is an order
pub whole-mended : (start : Contents) (calls : List Operation) (path left back mended : List ℕ) (place : ℕ) → IsFront start calls mended
    → mended ≡ left ++ place ∷ back → path ≡ left ++ back → HasCompleted calls (path ++ place ∷ []) → IsOrder start calls mended
whole-mended start calls path left back mended place front is path_is complete =
    IsOrder-from_front start calls mended front (λ k done. subst (λ xs. Contains xs k) (sym is) (moved k (complete k done)))
  where
    moved : (k : ℕ) → Contains (path ++ place ∷ []) k → Contains (left ++ place ∷ back) k
    moved k h = ⊎_elim
        (λ old. ⊎_elim
        (λ before. Contains-append_left left (place ∷ back) k before)
        (λ after. Contains-append_right left (place ∷ back) k (Contains-later place back k after))
        (Contains-append_cases left back k (subst (λ xs. Contains xs k) path_is old)))
        (λ own. Contains-append_right left (place ∷ back) k (subst (Contains (place ∷ back)) own (Contains-first place back)))
        (Contains-push_cases path place k h)
