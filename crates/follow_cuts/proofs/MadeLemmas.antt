-- The pasts that walks begin at and come to.
use Rattle.follow_cuts.proofs.Common.{◌≡◌, ℕ, zero, suc, ◌+◌, ◌<◌, ◌≤◌, Bool, true, false, cond, List, [], ◌∷◌, ◌++◌, length, map, take, get_or, Option}
use Rattle.follow_cuts.proofs.Common.{Some, None, refl, sym, ap, ◌∙◌, subst, ⊎_elim, arith, add-one, All, AllPairs, Any, Contains, IsSomeAnd, slice_get}
use Rattle.follow_cuts.proofs.Common.{false≢true, map-append, map_push, take_more, take_all, same_Some, none-some, slice_get_within}
use Rattle.follow_cuts.proofs.Common.{get_or_from_slice_get, All-nil, All-head, All-tail, All-push, All-contains, Contains-append_left}
use Rattle.follow_cuts.proofs.Common.{Contains-push_cases, Contains-map, Contains-from_map, All-at, All-from_contains, AllPairs-nil, AllPairs-head}
use Rattle.follow_cuts.proofs.Common.{AllPairs-tail, Contains-at, Operation, precedes, NonePrecedesItself, Contents, KeptPast, FoundAt, AreKeptAlike}
use Rattle.follow_cuts.proofs.Common.{HasInvocation, Leads, IsMadeOf, found_at, kept_of, AreShaped, Becomes, AreEnough, IsCutAt, IsMade, left_of}
use Rattle.follow_cuts.proofs.Common.{kept_at, kept_in, IsFrom, IsWalkFrom, IsAtStart, AreEnded, HaveGoneOn, IsPastAt, AreMadeOf, Found, Past, Position}
use Rattle.std.proofs.lemmas.List.Kept.{AllPairs-cons}
use Rattle.follow_cuts.specs.declared.cut.Cut.{Cut}
use Rattle.follow_cuts.specs.declared.cut.Cut.TheVariants.{Pasts, Spent}
use Rattle.follow_cuts.proofs.LeftLemmas.{left_in_calls, made_itself}
use Rattle.follow_cuts.proofs.LeadLemmas.{enough_all, enough_both, enough_become, becomes_then, becomes_leads}
use Rattle.follow_cuts.proofs.WalkLemmas.{kept_here, kept_from, from_here}

-- ---- at the start

left_of_all : (calls : List Operation) (taken : List Bool) → All (λ mark. mark ≡ false) taken → left_of calls taken ≡ calls
left_of_all [] taken none = refl
left_of_all (c ∷ calls) [] none = refl
left_of_all (c ∷ calls) (true ∷ taken) none = absurd (false≢true (sym (All-head (λ (mark : Bool). mark ≡ false) true taken none)))
left_of_all (c ∷ calls) (false ∷ taken) none =
    ap (λ (l : List Operation). c ∷ l) (left_of_all calls taken (All-tail (λ (mark : Bool). mark ≡ false) false taken none))

abbrev kept_with : Contents → List Operation → List Found → KeptPast
kept_with pairs left found = record { pairs = pairs; left = left; found = map found_at found }

start_same : (past : Past) (n : ℕ) (position : Position) → IsAtStart n past position → kept_at past.calls.items position ≡ kept_of past
start_same past n position is =
    ap (λ (m : Contents). kept_from past.calls.items m position.taken.items position.found.items) is.pairs
    ∙ (ap (λ (l : List Operation). kept_with past.map l position.found.items) (left_of_all past.calls.items position.taken.items is.none)
    ∙ ap (kept_with past.map past.calls.items) is.found)

pub start_kept : (pasts : List Past) (past : Past) (n : ℕ) (position : Position) → slice_get pasts n ≡ Some past → IsAtStart n past position
    → kept_in pasts position ≡ kept_of past
start_kept pasts past n position here is =
    kept_here pasts past position (ap (slice_get pasts) is.base ∙ here) ∙ start_same past n position is

start_walk : (past : Past) (n : ℕ) (position : Position) → IsAtStart n past position → IsWalkFrom past position
start_walk past n position is = record {
  marks = is.marks;
  made_of = subst (IsMadeOf (kept_of past)) (sym (start_same past n position is)) (made_itself (kept_of past));
}

pub record AreStarts (pasts : List Past) (size : ℕ) (positions : List Position) : Type 0 where
  pub from_past : All (IsFrom pasts) positions
  pub kept : map (kept_in pasts) positions ≡ map kept_of (take size pasts)

pub starts_none : (pasts : List Past) → AreStarts pasts 0 []
starts_none pasts = record { from_past = All-nil (IsFrom pasts); kept = refl }

pub starts_more : (pasts : List Past) (past : Past) (size : ℕ) (position : Position) (positions more : List Position)
    → more ≡ positions ++ position ∷ [] → slice_get pasts size ≡ Some past → IsAtStart size past position → AreStarts pasts size positions
    → AreStarts pasts (size + 1) more
starts_more pasts past size position positions more is here start so_far = record {
  from_past = subst (All (IsFrom pasts)) (sym is) (All-push (IsFrom pasts) positions position so_far.from_past
      (from_here pasts past position (ap (slice_get pasts) start.base ∙ here) (start_walk past size position start)));
  kept =
      ap (map (kept_in pasts)) is ∙ (map_push (kept_in pasts) positions position
      ∙ (ap (λ (l : List KeptPast). l ++ kept_in pasts position ∷ []) so_far.kept
      ∙ (ap (λ (k : KeptPast). map kept_of (take size pasts) ++ k ∷ []) (start_kept pasts past size position here start)
      ∙ (sym (map_push kept_of (take size pasts) past)
      ∙ ap (map kept_of) (sym (taken_more pasts past size here))))));
}
  where
    taken_more : (pasts : List Past) (past : Past) (size : ℕ) → slice_get pasts size ≡ Some past → take (size + 1) pasts ≡ take size pasts ++ past ∷ []
    taken_more pasts past size here =
        take_more pasts size past (slice_get_within pasts size past here)
        ∙ ap (λ (p : Past). take size pasts ++ p ∷ []) (get_or_from_slice_get pasts size past past here)

pub starts_all : (pasts : List Past) (size : ℕ) (positions : List Position) → length pasts ≤ size → AreStarts pasts size positions
    → map (kept_in pasts) positions ≡ map kept_of pasts
starts_all pasts size positions whole are = are.kept ∙ ap (map kept_of) (take_all size pasts whole)

-- ---- the past at the end

left_more_at : (calls : List Operation) (taken : List Bool) (n : ℕ) (o : Operation) → length taken ≡ length calls → slice_get calls n ≡ Some o
    → left_of (take (suc n) calls) (take (suc n) taken) ≡ left_of (take n calls) (take n taken) ++ cond (get_or taken n false) [] (o ∷ [])
left_more_at [] taken n o same here = absurd (none-some o here)
left_more_at (c ∷ calls) [] n o same here = absurd (omega (arith, same))
left_more_at (c ∷ calls) (true ∷ taken) zero o same here = refl
left_more_at (c ∷ calls) (false ∷ taken) zero o same here = ap (λ (p : Operation). p ∷ []) (same_Some c o here)
left_more_at (c ∷ calls) (true ∷ taken) (suc n) o same here = left_more_at calls taken n o (omega (arith, same)) here
left_more_at (c ∷ calls) (false ∷ taken) (suc n) o same here =
    ap (λ (l : List Operation). c ∷ l) (left_more_at calls taken n o (omega (arith, same)) here)

left_skip_at : (calls : List Operation) (taken : List Bool) (n : ℕ) → length taken ≡ length calls → get_or taken n false ≡ true
    → left_of (take (suc n) calls) (take (suc n) taken) ≡ left_of (take n calls) (take n taken)
left_skip_at [] taken zero same mark = refl
left_skip_at [] taken (suc n) same mark = refl
left_skip_at (c ∷ calls) [] n same mark = absurd (omega (arith, same))
left_skip_at (c ∷ calls) (true ∷ taken) zero same mark = refl
left_skip_at (c ∷ calls) (false ∷ taken) zero same mark = absurd (false≢true mark)
left_skip_at (c ∷ calls) (true ∷ taken) (suc n) same mark = left_skip_at calls taken n (omega (arith, same)) mark
left_skip_at (c ∷ calls) (false ∷ taken) (suc n) same mark =
    ap (λ (l : List Operation). c ∷ l) (left_skip_at calls taken n (omega (arith, same)) mark)

pub left_skip : (calls : List Operation) (taken : List Bool) (n : ℕ) (left : List Operation) → length taken ≡ length calls
    → get_or taken n false ≡ true → left ≡ left_of (take n calls) (take n taken) → left ≡ left_of (take (n + 1) calls) (take (n + 1) taken)
left_skip calls taken n left same mark is = rw add-one (is ∙ sym (left_skip_at calls taken n same mark))

pub left_push : (calls : List Operation) (taken : List Bool) (n : ℕ) (o : Operation) (left more : List Operation) → length taken ≡ length calls
    → slice_get calls n ≡ Some o → get_or taken n false ≡ false → more ≡ left ++ o ∷ [] → left ≡ left_of (take n calls) (take n taken)
    → more ≡ left_of (take (n + 1) calls) (take (n + 1) taken)
left_push calls taken n o left more same here mark pushed is =
    let next = left_more_at calls taken n o same here in
    let stays : left_of (take (suc n) calls) (take (suc n) taken) ≡ left_of (take n calls) (take n taken) ++ o ∷ [] =
    next ∙ ap (λ (b : Bool). left_of (take n calls) (take n taken) ++ cond b [] (o ∷ [])) mark in
    rw add-one (pushed ∙ (ap (λ (l : List Operation). l ++ o ∷ []) is ∙ sym stays))

-- what is left keeps its order
left_rises : (calls : List Operation) (taken : List Bool) → AllPairs (λ a b. a.inv < b.inv) calls → AllPairs (λ a b. a.inv < b.inv) (left_of calls taken)
left_rises [] taken rising = AllPairs-nil (λ (a b : Operation). a.inv < b.inv)
left_rises (c ∷ calls) [] rising = rising
left_rises (c ∷ calls) (true ∷ taken) rising = left_rises calls taken (AllPairs-tail (λ (a b : Operation). a.inv < b.inv) c calls rising)
left_rises (c ∷ calls) (false ∷ taken) rising =
    AllPairs-cons (λ (a b : Operation). a.inv < b.inv) c (left_of calls taken)
    (All-from_contains (λ (b : Operation). c.inv < b.inv) (left_of calls taken) (λ o o_in.
    All-contains (λ (b : Operation). c.inv < b.inv) calls o (AllPairs-head (λ (a b : Operation). a.inv < b.inv) c calls rising)
    (left_in_calls calls taken o o_in)))
    (left_rises calls taken (AllPairs-tail (λ (a b : Operation). a.inv < b.inv) c calls rising))

left_apart : (calls : List Operation) (taken : List Bool) → NonePrecedesItself calls → NonePrecedesItself (left_of calls taken)
left_apart calls taken apart =
    All-from_contains (λ (p : Operation). precedes p p ≡ false) (left_of calls taken) (λ o o_in.
    All-contains (λ (p : Operation). precedes p p ≡ false) calls o apart (left_in_calls calls taken o o_in))

abbrev pub IsShaped : Past → Type 0
IsShaped past = AllPairs (λ a b. a.inv < b.inv) past.calls.items × NonePrecedesItself past.calls.items

pub past_shaped : (past made : Past) (position : Position) → IsShaped past → IsPastAt past.calls.items position made → IsShaped made
past_shaped past made position shaped is = (
  subst (AllPairs (λ (a b : Operation). a.inv < b.inv)) (sym is.left) (left_rises past.calls.items position.taken.items shaped.0),
  subst NonePrecedesItself (sym is.left) (left_apart past.calls.items position.taken.items shaped.1),
)

pub past_kept : (pasts : List Past) (past made : Past) (position : Position) → slice_get pasts position.base ≡ Some past
    → IsPastAt past.calls.items position made → kept_of made ≡ kept_in pasts position
past_kept pasts past made position here is =
    ap (λ (m : Contents). kept_with m made.calls.items made.found.items) is.pairs
    ∙ (ap (λ (l : List Operation). kept_with position.map l made.found.items) is.left
    ∙ (ap (kept_with position.map (left_of past.calls.items position.taken.items)) is.found
    ∙ sym (kept_here pasts past position here)))

-- ---- pasts, each once

pub record AreMadeBelow (pasts : List Past) (positions : List Position) (size : ℕ) (made : List Past) : Type 0 where
  pub shaped : AreShaped made
  pub enough : AreEnough (map (kept_in pasts) (take size positions)) (map kept_of made)

kept_more : (pasts : List Past) (positions : List Position) (size : ℕ) (position : Position) → slice_get positions size ≡ Some position
    → map (kept_in pasts) (take (size + 1) positions) ≡ map (kept_in pasts) (take size positions) ++ kept_in pasts position ∷ []
kept_more pasts positions size position here =
    ap (map (kept_in pasts))
    (take_more positions size position (slice_get_within positions size position here)
    ∙ ap (λ (p : Position). take size positions ++ p ∷ []) (get_or_from_slice_get positions size position position here))
    ∙ map_push (kept_in pasts) (take size positions) position

pub made_push : (pasts : List Past) (positions : List Position) (size : ℕ) (position : Position) (past new : Past) (made more : List Past)
    → slice_get positions size ≡ Some position → slice_get pasts position.base ≡ Some past → AreShaped pasts
    → IsPastAt past.calls.items position new → more ≡ made ++ new ∷ [] → AreMadeBelow pasts positions size made
    → AreMadeBelow pasts positions (size + 1) more
made_push pasts positions size position past new made more at here shaped is pushed so_far = record {
  shaped = subst AreShaped (sym pushed)
      (All-push IsShaped made new so_far.shaped (past_shaped past new position (All-at IsShaped pasts position.base past shaped here) is));
  enough = subst (λ (l : List KeptPast). AreEnough l (map kept_of more)) (sym (kept_more pasts positions size position at))
      (subst (AreEnough (map (kept_in pasts) (take size positions) ++ kept_in pasts position ∷ []))
      (sym (ap (map kept_of) pushed ∙ (map_push kept_of made new
      ∙ ap (λ (k : KeptPast). map kept_of made ++ k ∷ []) (past_kept pasts past new position here is))))
      (enough_both (map (kept_in pasts) (take size positions)) (map kept_of made) (kept_in pasts position ∷ []) (kept_in pasts position ∷ [])
      so_far.enough (enough_all (kept_in pasts position ∷ []))));
}

pub made_skip : (pasts : List Past) (positions : List Position) (size : ℕ) (position : Position) (past new : Past) (made more : List Past)
    → slice_get positions size ≡ Some position → slice_get pasts position.base ≡ Some past → IsPastAt past.calls.items position new → more ≡ made
    → (other : Past) × Contains made other × AreKeptAlike (kept_of new) (kept_of other) → AreMadeBelow pasts positions size made
    → AreMadeBelow pasts positions (size + 1) more
made_skip pasts positions size position past new made more at here is same (other, other_in, alike) so_far =
    subst (AreMadeBelow pasts positions (size + 1)) (sym same) (record {
      shaped = so_far.shaped;
      enough = subst (λ (l : List KeptPast). AreEnough l (map kept_of made)) (sym (kept_more pasts positions size position at)) (record {
        there = λ a a_in. ⊎_elim
            (λ l. so_far.enough.there a l)
            (λ one. (
              kept_of other,
              Contains-map kept_of made other other_in,
              subst (λ (k : KeptPast). AreKeptAlike k (kept_of other)) (past_kept pasts past new position here is ∙ one) alike,
            ))
            (Contains-push_cases (map (kept_in pasts) (take size positions)) (kept_in pasts position) a a_in);
        back = λ b b_in.
            Contains-append_left (map (kept_in pasts) (take size positions)) (kept_in pasts position ∷ []) b (so_far.enough.back b b_in);
      });
    })

-- ---- kept alike

named_in : (one other : List Operation) (inv : ℕ) → map (λ o. o.inv) one ≡ map (λ o. o.inv) other → HasInvocation one inv → HasInvocation other inv
named_in one other inv same (o, o_in, is) =
    let (p, p_in, p_is) = Contains-from_map (λ (q : Operation). q.inv) other inv
    (subst (λ (l : List ℕ). Contains l inv) same (subst (Contains (map (λ (q : Operation). q.inv) one)) is
    (Contains-map (λ (q : Operation). q.inv) one o o_in))) in
    (p, p_in, p_is)

found_in : (found others : List Found) (f : FoundAt) → ((g : Found) → Contains found g → Contains others g) → Contains (map found_at found) f
    → Contains (map found_at others) f
found_in found others f within f_in =
    let (g, g_in, is) = Contains-from_map found_at found f f_in in
    subst (Contains (map found_at others)) is (Contains-map found_at others g (within g g_in))

pub kept_alike : (one other : Past) → one.map ≡ other.map → map (λ o. o.inv) one.calls.items ≡ map (λ o. o.inv) other.calls.items
    → ((g : Found) → Contains one.found.items g → Contains other.found.items g)
    → ((g : Found) → Contains other.found.items g → Contains one.found.items g) → AreKeptAlike (kept_of one) (kept_of other)
kept_alike one other pairs names forth back = record {
  pairs = sym pairs;
  left = λ inv. (
    λ h. named_in one.calls.items other.calls.items inv names h,
    λ h. named_in other.calls.items one.calls.items inv (sym names) h,
  );
  found = λ f. (λ h. found_in one.found.items other.found.items f forth h, λ h. found_in other.found.items one.found.items f back h);
}

-- ---- the pasts at the moment

pub gone_further : (pasts : List Past) (moment : ℕ) (before : List KeptPast) (next ended more newly : List Position)
    → HaveGoneOn pasts moment before next ended → HaveGoneOn pasts moment (map (kept_in pasts) (next ++ ended)) more newly
    → HaveGoneOn pasts moment before more newly
gone_further pasts moment before next ended more newly first second = record {
  from_past = second.from_past;
  are_ended = second.are_ended;
  becomes = becomes_then moment before (map (kept_in pasts) next ++ map (kept_in pasts) ended)
      (map (kept_in pasts) more ++ map (kept_in pasts) newly) first.becomes
      (subst (λ (l : List KeptPast). Becomes moment l (map (kept_in pasts) more ++ map (kept_in pasts) newly))
      (map-append (kept_in pasts) next ended) second.becomes);
}

pub gone_leads : (pasts : List Past) (moment : ℕ) (next ended : List Position) (made : List Past)
    → HaveGoneOn pasts moment (map kept_of pasts) next ended → next ≡ [] → AreEnough (map (kept_in pasts) ended) (map kept_of made)
    → Leads moment (map kept_of pasts) (map kept_of made)
gone_leads pasts moment next ended made gone none enough =
    becomes_leads moment (map kept_of pasts) (map kept_of made)
    (becomes_then moment (map kept_of pasts) (map (kept_in pasts) ended) (map kept_of made)
    (subst (λ (l : List Position). Becomes moment (map kept_of pasts) (map (kept_in pasts) l ++ map (kept_in pasts) ended)) none gone.becomes)
    (enough_become moment (map (kept_in pasts) ended) (map kept_of made) enough))

pub made_cut : (pasts : List Past) (moment : ℕ) (ended : List Position) (made : List Past) → AreEnded pasts moment ended
    → AreEnough (map (kept_in pasts) ended) (map kept_of made) → All (λ past. IsCutAt moment (kept_of past)) made
made_cut pasts moment ended made are enough =
    All-from_contains (λ (past : Past). IsCutAt moment (kept_of past)) made (λ past past_in.
    let (position, position_in, is) =
    Contains-from_map (kept_in pasts) ended (kept_of past) (enough.back (kept_of past) (Contains-map kept_of made past past_in)) in
    subst (IsCutAt moment) is (All-contains (λ (p : Position). IsCutAt moment (kept_in pasts p)) ended position are.cut position_in))

-- each is made of the past at which its walk began
walk_made : (pasts : List Past) (position : Position) → IsFrom pasts position
    → Any (λ past. IsMadeOf past (kept_in pasts position)) (map kept_of pasts)
walk_made pasts position is = by_past (slice_get pasts position.base) refl is
  where
    by_past : (p : Option Past) → slice_get pasts position.base ≡ p → IsSomeAnd p (λ past. IsWalkFrom past position)
        → Any (λ past. IsMadeOf past (kept_in pasts position)) (map kept_of pasts)
    by_past None e walk = absurd walk
    by_past (Some past) e walk =
        let (k, within, at) = Contains-map kept_of pasts past (Contains-at pasts position.base past e) in
        (k, kept_of past, within, at, subst (IsMadeOf (kept_of past)) (sym (kept_here pasts past position e)) walk.made_of)

made_of_pasts : (pasts : List Past) (ended : List Position) (made : List Past) → All (IsFrom pasts) ended
    → AreEnough (map (kept_in pasts) ended) (map kept_of made) → All (λ next. Any (λ past. IsMadeOf past next) (map kept_of pasts)) (map kept_of made)
made_of_pasts pasts ended made from_past enough =
    All-from_contains (λ (next : KeptPast). Any (λ past. IsMadeOf past next) (map kept_of pasts)) (map kept_of made) (λ next next_in.
    let (position, position_in, is) = Contains-from_map (kept_in pasts) ended next (enough.back next next_in) in
    subst (λ (k : KeptPast). Any (λ past. IsMadeOf past k) (map kept_of pasts)) is
    (walk_made pasts position (All-contains (IsFrom pasts) ended position from_past position_in)))

pub made_is : (pasts : List Past) (moment most : ℕ) (next ended : List Position) (cut : Cut)
    → HaveGoneOn pasts moment (map kept_of pasts) next ended → next ≡ [] → AreMadeOf pasts ended most cut → IsMade moment most pasts cut
made_is pasts moment most next ended (Pasts made) gone none are = record {
  leads = gone_leads pasts moment next ended made.items gone none are.1;
  made_of = made_of_pasts pasts ended made.items gone.are_ended.from_past are.1;
  cut = made_cut pasts moment ended made.items gone.are_ended are.1;
  shaped = are.0;
  few = are.2;
}
made_is pasts moment most next ended Spent gone none are = tt
