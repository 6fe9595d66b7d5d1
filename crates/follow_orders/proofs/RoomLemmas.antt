-- Calls of a front up to one that ended before a place began before that place.
use Rattle.follow_orders.proofs.Common.{◌≡◌, ℕ, ◌+◌, ◌-◌, ◌<◌, ◌≤◌, true, false, List, Option, Some, None, [], ◌∷◌, ◌++◌, length, take, drop, map}
use Rattle.follow_orders.proofs.Common.{get_or, refl, sym, ap, ◌∙◌, subst, ⊎_elim, arith, ◌≢◌, slice_get, option_map, All, both_ways, cases_lt, lt-ltb}
use Rattle.follow_orders.proofs.Common.{ltb-true, length-drop, length-take, get_or-drop, take-append-drop, All-head, All-tail, slice_get_within}
use Rattle.follow_orders.proofs.Common.{get_or_from_slice_get, slice_get-get_or, slice_get-map, Operation, Response, is_before, precedes, Contents}
use Rattle.follow_orders.proofs.Common.{IsFront, All-at, AllPairs-at, place_before-Contains, slice_get-take, slice_get-below, places, Level, moved}
use Rattle.follow_orders.proofs.MoveLemmas.{moved_low}

-- what ended before a place ended before a later one
before_later : (r : Option Response) (inv later : ℕ) → inv < later → is_before r inv ≡ true → is_before r later ≡ true
before_later None inv later lt is = absurd (both_ways false refl is)
before_later (Some r) inv later lt is = lt-ltb r.res later (let early = ltb-true r.res inv is in omega (arith, early, lt))

module _ (start : Contents) (calls : List Operation) (path : List ℕ) (f : IsFront start calls path) (p inv : ℕ)
    (greater : All (λ (a : Operation). inv < a.inv) (drop p calls)) where
  -- a call from a place of the list on began after
  began_after : (n : ℕ) (b : Operation) → p ≤ n → slice_get calls n ≡ Some b → inv < b.inv
  began_after n b le here =
      let lt = slice_get_within calls n b here in
      let at = greater (n - p) b (omega (arith, length-drop p calls, lt, le)) in
      subst (λ (a : Operation). inv < a.inv)
      (get_or-drop p calls (n - p) b ∙ ap (λ k. get_or calls k b) (omega (arith, le)) ∙ get_or_from_slice_get calls n b b here) at

  -- each call up to one that ended before is below place p
  pub below_ended : (k d : ℕ) (a : Operation) → slice_get path k ≡ Some d → slice_get calls d ≡ Some a → is_before a.response inv ≡ true
      → (i n : ℕ) → i ≤ k → slice_get path i ≡ Some n → n < p
  below_ended k d a d_here a_here ended i n le here = ⊎_elim (λ lt. lt) (λ high. absurd (not_high high)) (cases_lt n p)
    where
      not_high : p ≤ n → ⊥
      not_high high =
          let (b, b_here) = slice_get-below calls n (All-at (λ x. x < length calls) path i n f.known here) in
          let e : precedes a b ≡ true = before_later a.response inv b.inv (began_after n b high b_here) ended in
          let (j, lt, j_here) = place_before-Contains path i d (f.closed i d n here (a, b, a_here, b_here, e)) in
          AllPairs-at (λ x y. x ≢ y) path j k d d f.distinct (omega (arith, lt, le)) j_here d_here refl

-- each level up to one of a call that ended before is below place p
pub levels_below : (levels : List Level) (k p : ℕ) → ((i n : ℕ) → i ≤ k → slice_get (places levels) i ≡ Some n → n < p)
    → All (λ (level : Level). level.place < p) (take (k + 1) levels)
levels_below levels k p below i d within =
    let size = length-take (k + 1) levels in
    let level = get_or levels i d in
    let here : slice_get levels i ≡ Some level = slice_get-get_or levels i d (omega (arith, within, size)) in
    let is : get_or (take (k + 1) levels) i d ≡ level =
    get_or_from_slice_get (take (k + 1) levels) i level d (slice_get-take (k + 1) levels i (omega (arith, within, size)) ∙ here) in
    let there : slice_get (places levels) i ≡ Some level.place =
    slice_get-map (λ (l : Level). l.place) levels i ∙ ap (option_map (λ (l : Level). l.place)) here in
    subst (λ (l : Level). l.place < p) (sym is) (below i level.place (omega (arith, within, size)) there)

-- calls below a place stay
pub moved_none : (p : ℕ) (levels : List Level) → All (λ (level : Level). level.place < p) levels → map (moved p) levels ≡ levels
moved_none p [] h = refl
moved_none p (level ∷ levels) h =
    ap (λ n. record { place = n; undo = level.undo } ∷ map (moved p) levels) (moved_low p level.place (All-head (λ (l : Level). l.place < p) level levels h))
    ∙ ap (λ rest. level ∷ rest) (moved_none p levels (All-tail (λ (l : Level). l.place < p) level levels h))

-- only levels from there on have to be moved
pub moved_from : (p from : ℕ) (levels : List Level) → All (λ (level : Level). level.place < p) (take from levels)
    → levels ≡ map (moved p) (take from levels) ++ drop from levels
moved_from p from levels h =
    sym (take-append-drop from levels) ∙ ap (λ front. front ++ drop from levels) (sym (moved_none p (take from levels) h))

-- the place of the call of a level
pub place_at : (levels : List Level) (i : ℕ) (level : Level) → slice_get levels i ≡ Some level → slice_get (places levels) i ≡ Some level.place
place_at levels i level here = slice_get-map (λ (l : Level). l.place) levels i ∙ ap (option_map (λ (l : Level). l.place)) here
