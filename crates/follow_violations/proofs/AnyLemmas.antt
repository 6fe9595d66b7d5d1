-- Some item of a list, and what loops collect.
use Rattle.follow_violations.proofs.Common.{Contains-from_map, Contains-map, Contains-nil, AreAdded, AreAddedOf, ◌≡◌, ℕ, ◌+◌, ◌<◌, ◌≤◌, List, [], ◌∷◌}
use Rattle.follow_violations.proofs.Common.{◌++◌, length, get_or, take, map, sym, ap, ◌∙◌, subst, inl, inr, ⊎_elim, get_or_default, take_all}
use Rattle.follow_violations.proofs.Common.{take_more, Contains-append_left, Contains-push, Contains-push_cases, ◌⊎◌, ◌↔◌, Any, Contains}

-- some item, by an item that is in the list
pub any_in : {X : Type 0} (P : X → Type 0) (xs : List X) → Any P xs → (x : X) × Contains xs x × P x
any_in P xs any = (any.1, (any.0, any.2, any.3), any.4)

pub any_of : {X : Type 0} (P : X → Type 0) (xs : List X) (x : X) → Contains xs x → P x → Any P xs
any_of P xs x x_in holds = (x_in.0, x, x_in.1, x_in.2, holds)

pub any_weaker : {X : Type 0} (P Q : X → Type 0) (xs : List X) → ((x : X) → P x → Q x) → Any P xs → Any Q xs
any_weaker P Q xs weaker any = let (x, x_in, holds) = any_in P xs any in any_of Q xs x x_in (weaker x holds)

-- the only item
pub any_one : {X : Type 0} (P : X → Type 0) (x : X) → Any P (x ∷ []) → P x
any_one P x any =
    let (y, y_in, holds) = any_in P (x ∷ []) any in
    ⊎_elim (λ none. absurd (Contains-nil y none)) (λ same. subst P (sym same) holds) (Contains-push_cases [] x y y_in)

pub one_any : {X : Type 0} (P : X → Type 0) (x : X) → P x → Any P (x ∷ [])
one_any P x holds = any_of P (x ∷ []) x (Contains-push [] x) holds

-- an item of a mapped list
pub any_from_map : {X Y : Type 0} (f : X → Y) (P : Y → Type 0) (xs : List X) → Any P (map f xs) → Any (λ x. P (f x)) xs
any_from_map f P xs any =
    let (y, y_in, holds) = any_in P (map f xs) any in
    let (x, x_in, is) = Contains-from_map f xs y y_in in any_of (λ z. P (f z)) xs x x_in (subst P (sym is) holds)

pub any_map : {X Y : Type 0} (f : X → Y) (P : Y → Type 0) (xs : List X) → Any (λ x. P (f x)) xs → Any P (map f xs)
any_map f P xs any =
    let (x, x_in, holds) = any_in (λ z. P (f z)) xs any in any_of P (map f xs) (f x) (Contains-map f xs x x_in) holds

-- ---- what loops collect

added_push : {X Y : Type 0} (gives : X → Y → Type 0) (front : List X) (x : X) (old mid new : List Y) → AreAdded gives front old mid
    → AreAddedOf (gives x) mid new → AreAdded gives (front ++ x ∷ []) old new
added_push {X} {Y} gives front x old mid new so_far step y = (forth, back)
  where
    all : List X
    all = front ++ x ∷ []

    earlier : Any (λ z. gives z y) front → Any (λ z. gives z y) all
    earlier any =
        let (z, z_in, holds) = any_in (λ z. gives z y) front any in
        any_of (λ z. gives z y) all z (Contains-append_left front (x ∷ []) z z_in) holds

    forth : Contains new y → Contains old y ⊎ Any (λ z. gives z y) all
    forth new_in = ⊎_elim
        (λ mid_in. ⊎_elim (λ old_in. inl old_in) (λ any. inr (earlier any)) ((so_far y).0 mid_in))
        (λ here. inr (any_of (λ z. gives z y) all x (Contains-push front x) here)) ((step y).0 new_in)

    back : Contains old y ⊎ Any (λ z. gives z y) all → Contains new y
    back either = ⊎_elim (λ old_in. (step y).1 (inl ((so_far y).1 (inl old_in)))) (λ any.
        let (z, z_in, holds) = any_in (λ z. gives z y) all any in ⊎_elim
        (λ front_in. (step y).1 (inl ((so_far y).1 (inr (any_of (λ z. gives z y) front z front_in holds)))))
        (λ same. (step y).1 (inr (subst (λ z. gives z y) (sym same) holds)))
        (Contains-push_cases front x z z_in)) either

-- one item more
pub added_more : {X Y : Type 0} (gives : X → Y → Type 0) (xs : List X) (i : ℕ) (x : X) (old mid new : List Y) → i < length xs
    → x ≡ get_or xs i x
    → AreAdded gives (take i xs) old mid → AreAddedOf (gives x) mid new → AreAdded gives (take (i + 1) xs) old new
added_more {X} gives xs i x old mid new within here so_far step =
    let is : take i xs ++ x ∷ [] ≡ take (i + 1) xs = ap (λ (z : X). take i xs ++ z ∷ []) here ∙ sym (take_more xs i x within) in
    subst (λ (some : List X). AreAdded gives some old new) is (added_push gives (take i xs) x old mid new so_far step)

pub added_at : {X Y : Type 0} (gives : X → Y → Type 0) (xs : List X) (i : ℕ) (d : X) (old mid new : List Y) → i < length xs
    → AreAdded gives (take i xs) old mid → AreAddedOf (gives (get_or xs i d)) mid new → AreAdded gives (take (i + 1) xs) old new
added_at gives xs i d old mid new within so_far step =
    added_more gives xs i (get_or xs i d) old mid new within (get_or_default xs i d (get_or xs i d) within) so_far step

-- all items
pub added_all : {X Y : Type 0} (gives : X → Y → Type 0) (xs : List X) (i : ℕ) (old new : List Y) → length xs ≤ i
    → AreAdded gives (take i xs) old new → AreAdded gives xs old new
added_all {X} gives xs i old new past so_far = subst (λ (some : List X). AreAdded gives some old new) (take_all i xs past) so_far

-- in another order
pub added_same : {Y : Type 0} (P : Y → Type 0) (old mid new : List Y) → AreAddedOf P old mid → ((y : Y) → Contains new y ↔ Contains mid y)
    → AreAddedOf P old new
added_same P old mid new step same y = (λ new_in. (step y).0 ((same y).0 new_in), λ either. (same y).1 ((step y).1 either))

-- one more
pub added_one : {Y : Type 0} (P : Y → Type 0) (y : Y) (old : List Y) → P y → ((z : Y) → P z → y ≡ z) → AreAddedOf P old (old ++ y ∷ [])
added_one P y old holds only z = (
  λ new_in. ⊎_elim (λ old_in. inl old_in) (λ same. inr (subst P same holds)) (Contains-push_cases old y z new_in),
  λ either. ⊎_elim (λ old_in. Contains-append_left old (y ∷ []) z old_in)
      (λ here. subst (Contains (old ++ y ∷ [])) (only z here) (Contains-push old y)) either,
)
