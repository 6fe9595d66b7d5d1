-- What the answers on all segments say of them.
use Rattle.judge.proofs.Common.{◌≡◌, ℕ, zero, suc, List, [], ◌∷◌, ◌++◌, Some, ap, subst, inl, inr, refl, arith, ◌≢◌, All, slice_get, AllZip, All-nil}
use Rattle.judge.proofs.Common.{All-cons, All-head, All-tail, none-some, same_Some, SegmentView, Found, Order, NoOrder, Spent, IsExactAnswer}
use Rattle.judge.proofs.Common.{IsFirstAt, orders_in, IsOrderedBy, IsOrdered, IsOrderedOrSpent}

-- a weaker relation holds too
pub AllZip-weaker : {A B : Type 0} (R Q : A → B → Type 0) → ((x : A) (y : B) → R x y → Q x y) → (xs : List A) (ys : List B)
    → AllZip R xs ys → AllZip Q xs ys
AllZip-weaker R Q weaker [] [] h = tt
AllZip-weaker R Q weaker [] (y ∷ ys) h = absurd h
AllZip-weaker R Q weaker (x ∷ xs) [] h = absurd h
AllZip-weaker R Q weaker (x ∷ xs) (y ∷ ys) h = (weaker x y h.0, AllZip-weaker R Q weaker xs ys h.1)

-- in addition to the relation, what holds of each second one
AllZip-with : {A B : Type 0} (R : A → B → Type 0) (P : B → Type 0) (xs : List A) (ys : List B) → AllZip R xs ys → All P ys
    → AllZip (λ x y. R x y × P y) xs ys
AllZip-with R P [] [] h all = tt
AllZip-with R P [] (y ∷ ys) h all = absurd h
AllZip-with R P (x ∷ xs) [] h all = absurd h
AllZip-with R P (x ∷ xs) (y ∷ ys) h all = ((h.0, All-head P y ys all), AllZip-with R P xs ys h.1 (All-tail P y ys all))

-- what holds wherever the relation holds, holds of each first one
All-firsts : {A B : Type 0} (R : A → B → Type 0) (P : A → Type 0) → ((x : A) (y : B) → R x y → P x) → (xs : List A) (ys : List B)
    → AllZip R xs ys → All P xs
All-firsts R P weaker [] ys h = All-nil P
All-firsts R P weaker (x ∷ xs) [] h = absurd h
All-firsts R P weaker (x ∷ xs) (y ∷ ys) h = All-cons P x xs (weaker x y h.0) (All-firsts R P weaker xs ys h.1)

-- segments that have their orders
pub IsOrdered-all : (budget : ℕ) (segments : List SegmentView) (orders : List (List ℕ)) → AllZip (IsOrderedBy budget) segments orders
    → All (IsOrdered budget) segments
IsOrdered-all budget segments orders h = All-firsts (IsOrderedBy budget) (IsOrdered budget) (λ s o found. (o, found)) segments orders h

-- the segment at the place, between those below it and those above it
pub record IsNamedAt (R : SegmentView → Found → Type 0) (Q : SegmentView → Type 0) (sought : Found) (segments : List SegmentView)
    (place : ℕ) : Type 0 where
  pub below : List SegmentView
  pub segment : SegmentView
  pub above : List SegmentView
  pub parts : segments ≡ below ++ segment ∷ above
  pub here : slice_get segments place ≡ Some segment
  pub answered : R segment sought
  pub lowest : All Q below

-- the first answer names its segment, where what another answer says of a segment is Q
named_at : (R : SegmentView → Found → Type 0) (Q : SegmentView → Type 0) (sought : Found)
    → ((s : SegmentView) (a : Found) → R s a → (a ≢ sought) → Q s) → (segments : List SegmentView) (answers : List Found) (place : ℕ)
    → AllZip R segments answers → IsFirstAt sought answers place → IsNamedAt R Q sought segments place
named_at R Q sought other [] [] place h found = absurd (none-some sought found.here)
named_at R Q sought other [] (a ∷ answers) place h found = absurd h
named_at R Q sought other (s ∷ segments) [] place h found = absurd h
named_at R Q sought other (s ∷ segments) (a ∷ answers) zero h found = record {
  below = [];
  segment = s;
  above = segments;
  parts = refl;
  here = refl;
  answered = subst (R s) (same_Some a sought found.here) h.0;
  lowest = All-nil Q;
}
named_at R Q sought other (s ∷ segments) (a ∷ answers) (suc n) h found =
    let later = named_at R Q sought other segments answers n h.1
    (record { here = found.here; first = λ k below e. found.first (suc k) (omega (arith, below)) e }) in
    record {
      below = s ∷ later.below;
      segment = later.segment;
      above = later.above;
      parts = ap (λ l. s ∷ l) later.parts;
      here = later.here;
      answered = later.answered;
      lowest = All-cons Q s later.below (other s a h.0 (λ e. found.first 0 (omega arith) (ap Some e))) later.lowest;
    }

module _ (budget : ℕ) where
  -- the answer is exact, and another than that there is no order
  abbrev pub IsUnrefuting : SegmentView → Found → Type 0
  IsUnrefuting segment answer = IsExactAnswer budget segment answer × (answer ≢ NoOrder)

  ordered_or_spent : (segment : SegmentView) (answer : Found) → IsExactAnswer budget segment answer → (answer ≢ NoOrder)
      → IsOrderedOrSpent budget segment
  ordered_or_spent segment (Order order) exact other = inl (order.items, exact)
  ordered_or_spent segment NoOrder exact other = absurd (other refl)
  ordered_or_spent segment Spent exact other = inr exact

  ordered : (segment : SegmentView) (answer : Found) → IsUnrefuting segment answer → (answer ≢ Spent) → IsOrdered budget segment
  ordered segment (Order order) exact other = (order.items, exact.0)
  ordered segment NoOrder exact other = absurd (exact.1 refl)
  ordered segment Spent exact other = absurd (other refl)

  -- the lowest segment that is refuted
  pub refuted_at : (segments : List SegmentView) (answers : List Found) (place : ℕ) → AllZip (IsExactAnswer budget) segments answers
      → IsFirstAt NoOrder answers place
      → IsNamedAt (IsExactAnswer budget) (IsOrderedOrSpent budget) NoOrder segments place
  refuted_at segments answers place h found =
      named_at (IsExactAnswer budget) (IsOrderedOrSpent budget) NoOrder ordered_or_spent segments answers place h found

  -- the lowest that is spent, where none is refuted
  pub spent_at : (segments : List SegmentView) (answers : List Found) (place : ℕ) → AllZip (IsExactAnswer budget) segments answers
      → All (λ answer. answer ≢ NoOrder) answers → IsFirstAt Spent answers place
      → IsNamedAt IsUnrefuting (IsOrdered budget) Spent segments place
  spent_at segments answers place h none found =
      named_at IsUnrefuting (IsOrdered budget) Spent ordered segments answers place
      (AllZip-with (IsExactAnswer budget) (λ answer. answer ≢ NoOrder) segments answers h none) found

  -- no segment is refuted
  pub unrefuted : (segments : List SegmentView) (answers : List Found) → AllZip (IsExactAnswer budget) segments answers
      → All (λ answer. answer ≢ NoOrder) answers → All (IsOrderedOrSpent budget) segments
  unrefuted segments answers h none =
      All-firsts IsUnrefuting (IsOrderedOrSpent budget) (λ s a exact. ordered_or_spent s a exact.0 exact.1) segments answers
      (AllZip-with (IsExactAnswer budget) (λ answer. answer ≢ NoOrder) segments answers h none)

  -- each segment has its order, where none is refuted or spent
  pub all_ordered : (segments : List SegmentView) (answers : List Found) → AllZip (IsExactAnswer budget) segments answers
      → All (λ answer. answer ≢ NoOrder) answers → All (λ answer. answer ≢ Spent) answers
      → AllZip (IsOrderedBy budget) segments (orders_in answers)
  all_ordered [] [] h none some = tt
  all_ordered [] (a ∷ answers) h none some = absurd h
  all_ordered (s ∷ segments) [] h none some = absurd h
  all_ordered (s ∷ segments) (Order order ∷ answers) h none some = (
    h.0,
    all_ordered segments answers h.1 (All-tail (λ answer. answer ≢ NoOrder) (Order order) answers none)
        (All-tail (λ answer. answer ≢ Spent) (Order order) answers some),
  )
  all_ordered (s ∷ segments) (NoOrder ∷ answers) h none some =
      absurd (All-head (λ answer. answer ≢ NoOrder) NoOrder answers none refl)
  all_ordered (s ∷ segments) (Spent ∷ answers) h none some = absurd (All-head (λ answer. answer ≢ Spent) Spent answers some refl)
