-- A list without one of its elements, and places of calls.
use Rattle.explain_histories.proofs.Common.{◌≡◌, ◌≢◌, ℕ, ◌<◌, ◌≤◌, true, false, List, ◌∷◌, ◌++◌, take, Option, Some, None, refl, sym, ⊎_elim, subst}
use Rattle.explain_histories.proofs.Common.{arith, All, AllPairs, Contains, IfSome, slice_get, cases_order, le-ltb, lt-ltb, ltb-true, All-contains}
use Rattle.explain_histories.proofs.Common.{All-head, All-tail, All-weaker, Contains-append_left, Contains-append_right, Contains-append_cases}
use Rattle.explain_histories.proofs.Common.{Operation, Response, is_before, All-back, AllPairs-append, AllPairs-front, AllPairs-back, AllPairs-across}
use Rattle.explain_histories.proofs.Common.{AllPairs-at, AllPairs-head, AllPairs-tail, Contains-later, Contains-take, greatest_bound, place_in}
use Rattle.explain_histories.proofs.Common.{begun_of, IsAnsweredAs}

-- ---- a list without one of its elements

pub All-middle : {X : Type 0} (P : X → Type 0) (front : List X) (x : X) (back : List X) → All P (front ++ x ∷ back) → P x
All-middle P front x back h = All-head P x back (All-back P front (x ∷ back) h)

pub AllPairs-without : {X : Type 0} (R : X → X → Type 0) (front : List X) (x : X) (back : List X) → AllPairs R (front ++ x ∷ back)
    → AllPairs R (front ++ back)
AllPairs-without {X} R front x back h =
    AllPairs-append R front back (AllPairs-front R front (x ∷ back) h) (AllPairs-tail R x back (AllPairs-back R front (x ∷ back) h))
    (All-weaker (λ (z : X). All (R z) (x ∷ back)) (λ (z : X). All (R z) back) (λ z k. All-tail (R z) x back k) front
    (AllPairs-across R front (x ∷ back) h))

pub Contains-with : {X : Type 0} (front : List X) (x : X) (back : List X) (z : X) → Contains (front ++ back) z
    → Contains (front ++ x ∷ back) z
Contains-with front x back z h = ⊎_elim
    (λ in_front. Contains-append_left front (x ∷ back) z in_front)
    (λ in_back. Contains-append_right front (x ∷ back) z (Contains-later x back z in_back))
    (Contains-append_cases front back z h)

-- if the keys of all are distinct, each other one has another key
pub others_apart : {X : Type 0} (key : X → ℕ) (front : List X) (x : X) (back : List X) (z : X)
    → AllPairs (λ s t. key s ≢ key t) (front ++ x ∷ back) → Contains (front ++ back) z → key z ≢ key x
others_apart {X} key front x back z h is = ⊎_elim
    (λ in_front. All-head (λ (t : X). key z ≢ key t) x back
    (All-contains (λ (s : X). All (λ (t : X). key s ≢ key t) (x ∷ back)) front z
    (AllPairs-across (λ (s : X) (t : X). key s ≢ key t) front (x ∷ back) h) in_front))
    (λ in_back same. All-contains (λ (t : X). key x ≢ key t) back z
    (AllPairs-head (λ (s : X) (t : X). key s ≢ key t) x back
    (AllPairs-back (λ (s : X) (t : X). key s ≢ key t) front (x ∷ back) h)) in_back (sym same))
    (Contains-append_cases front back z is)

-- ---- places of calls

-- calls that rise are one where they begin at one place
pub one_number : (calls : List Operation) (j k : ℕ) (a b : Operation) → AllPairs (λ a b. a.inv < b.inv) calls → slice_get calls j ≡ Some a
    → slice_get calls k ≡ Some b → a.inv ≡ b.inv → j ≡ k
one_number calls j k a b rise a_at b_at same = ⊎_elim
    (λ is. is)
    (λ apart. ⊎_elim
    (λ before. absurd (omega (arith, AllPairs-at (λ (a : Operation) (b : Operation). a.inv < b.inv) calls j k a b rise before a_at b_at)))
    (λ behind. absurd (omega (arith, AllPairs-at (λ (a : Operation) (b : Operation). a.inv < b.inv) calls k j b a rise behind b_at a_at)))
    apart)
    (cases_order j k)

-- what ends after a place is not before one that is no later
pub not_before : (o : Option Response) (place inv : ℕ) → IfSome o (λ response. place ≤ response.res) → inv ≤ place → is_before o inv ≡ false
not_before None place inv h less = refl
not_before (Some response) place inv h less = le-ltb response.res inv (omega arith)

-- what is before a place is before a later one
pub before_later : (o : Option Response) (m n : ℕ) → is_before o m ≡ true → m ≤ n → is_before o n ≡ true
before_later None m n h less = h
before_later (Some response) m n h less = let before = ltb-true response.res m h in lt-ltb response.res n (omega arith)

-- a place of a response, as it is kept
pub behind_as_kept : (o : Option Response) (kept : Option ℕ) (place : ℕ) → place_in o ≡ kept → IfSome kept (λ res. place ≤ res)
    → IfSome o (λ response. place ≤ response.res)
behind_as_kept o kept place same h = of o (subst (λ (k : Option ℕ). IfSome k (λ res. place ≤ res)) (sym same) h)
  where
    of : (o : Option Response) → IfSome (place_in o) (λ res. place ≤ res) → IfSome o (λ response. place ≤ response.res)
    of None h = tt
    of (Some response) h = h

pub kept_behind : (o : Option Response) (place : ℕ) → IfSome o (λ response. place ≤ response.res) → IfSome (place_in o) (λ res. place ≤ res)
kept_behind None place h = tt
kept_behind (Some response) place h = h

-- each of the first calls begins no later than the last of them
pub begun_bound : (calls : List Operation) (n m : ℕ) (a : Operation) → m < n → slice_get calls m ≡ Some a → a.inv ≤ begun_of calls n
begun_bound calls n m a less here = greatest_bound (λ (a : Operation). a.inv) (take n calls) a (Contains-take calls n m a less here)

-- what is answered as another has an answer, and so has the other
pub answered_parts : (limit : ℕ) (o q : Option Response) → IsAnsweredAs limit o q → (r : Response) × (s : Response) × (o ≡ Some r) × (q ≡ Some s)
    × (r.reply ≡ s.reply) × (r.res < limit)
answered_parts limit (Some r) (Some s) h = (r, s, refl, refl, h.0, h.1)
answered_parts limit None None h = absurd h
answered_parts limit None (Some s) h = absurd h
answered_parts limit (Some r) None h = absurd h
