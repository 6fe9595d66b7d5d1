-- Lists around one of their elements.
use Rattle.call_effects.proofs.Common.{List, ◌∷◌, ◌++◌, get_or, ⊎_elim, All, AllPairs, Contains, All-cons, All-head, All-tail, All-append, All-weaker}
use Rattle.call_effects.proofs.Common.{Contains-append_left, Contains-append_right, Contains-append_cases, AllPairs-cons, All-front, All-back}
use Rattle.call_effects.proofs.Common.{AllPairs-head, AllPairs-tail, AllPairs-front, AllPairs-back, AllPairs-across, AllPairs-append, Contains-first}
use Rattle.call_effects.proofs.Common.{Contains-later}

-- what is before or after an element is in the whole, and the element is too
pub beside : {X : Type 0} (front : List X) (x : X) (back : List X) (y : X) → Contains (front ++ back) y → Contains (front ++ x ∷ back) y
beside front x back y h = ⊎_elim (λ in_front. Contains-append_left front (x ∷ back) y in_front)
    (λ in_back. Contains-append_right front (x ∷ back) y (Contains-later x back y in_back)) (Contains-append_cases front back y h)

pub middle : {X : Type 0} (front : List X) (x : X) (back : List X) → Contains (front ++ x ∷ back) x
middle front x back = Contains-append_right front (x ∷ back) x (Contains-first x back)

-- what holds of all elements of a list, by its parts
pub All-around : {X : Type 0} (P : X → Type 0) (front : List X) (x : X) (back : List X) → All P front → P x → All P back
    → All P (front ++ x ∷ back)
All-around P front x back h here k = All-append P front (x ∷ back) h (All-cons P x back here k)

pub All-before : {X : Type 0} (P : X → Type 0) (front : List X) (x : X) (back : List X) → All P (front ++ x ∷ back) → All P front
All-before P front x back h = All-front P front (x ∷ back) h

pub All-here : {X : Type 0} (P : X → Type 0) (front : List X) (x : X) (back : List X) → All P (front ++ x ∷ back) → P x
All-here P front x back h = All-head P x back (All-back P front (x ∷ back) h)

pub All-behind : {X : Type 0} (P : X → Type 0) (front : List X) (x : X) (back : List X) → All P (front ++ x ∷ back) → All P back
All-behind P front x back h = All-tail P x back (All-back P front (x ∷ back) h)

-- what holds of all pairs of a list, by its parts
pub AllPairs-before : {X : Type 0} (R : X → X → Type 0) (front : List X) (x : X) (back : List X) → AllPairs R (front ++ x ∷ back)
    → All (λ y. R y x) front
AllPairs-before R front x back h =
    All-weaker (λ y. All (R y) (x ∷ back)) (λ y. R y x) (λ y all. All-head (R y) x back all) front (AllPairs-across R front (x ∷ back) h)

pub AllPairs-behind : {X : Type 0} (R : X → X → Type 0) (front : List X) (x : X) (back : List X)
    → AllPairs R (front ++ x ∷ back) → All (R x) back
AllPairs-behind R front x back h = AllPairs-head R x back (AllPairs-back R front (x ∷ back) h)

pub AllPairs-around : {X : Type 0} (R : X → X → Type 0) (front : List X) (x : X) (back : List X) → AllPairs R (front ++ back)
    → All (λ y. R y x) front
    → All (R x) back → AllPairs R (front ++ x ∷ back)
AllPairs-around R front x back h before behind =
    AllPairs-append R front (x ∷ back) (AllPairs-front R front back h) (AllPairs-cons R x back behind (AllPairs-back R front back h))
    (All-both (AllPairs-across R front back h) before)
  where
    All-both : All (λ y. All (R y) back) front → All (λ y. R y x) front → All (λ y. All (R y) (x ∷ back)) front
    All-both h k i d within = All-cons (R (get_or front i d)) x back (k i d within) (h i d within)

pub AllPairs-beside : {X : Type 0} (R : X → X → Type 0) (front : List X) (x : X) (back : List X) → AllPairs R (front ++ x ∷ back)
    → AllPairs R (front ++ back)
AllPairs-beside R front x back h =
    AllPairs-append R front back (AllPairs-front R front (x ∷ back) h) (AllPairs-tail R x back (AllPairs-back R front (x ∷ back) h))
    (All-weaker (λ y. All (R y) (x ∷ back)) (λ y. All (R y) back) (λ y all. All-tail (R y) x back all) front
    (AllPairs-across R front (x ∷ back) h))
