-- The calls of orders with their points, one after another.
use Rattle.merge_orders.proofs.Common.{◌≡◌, ℕ, ◌+◌, ◌<◌, List, [], ◌∷◌, ◌++◌, map, length, get_or, take, Some, refl, ap, ◌∙◌, ◌≢◌, slice_get}
use Rattle.merge_orders.proofs.Common.{All, AllPairs, concat, append-nil, All-head, All-tail, slice_get-get_or, Operation, greatest, calls_at}
use Rattle.merge_orders.proofs.Common.{Contains-at, All-from_contains, CallAtPoint, at_point_in, at_point}
use Rattle.std.proofs.Common.{max}
use Rattle.std.proofs.lemmas.List.{take_more, map_more, map-append, append_assoc}
use Rattle.std.proofs.lemmas.List.Folds.{concat-append}
use Rattle.std.proofs.lemmas.Option.{slice_get_within, get_or_from_slice_get}
use Rattle.events.proofs.NumberLemmas.{greatest-push}
use Rattle.orders.proofs.OrderLemmas.{calls_at-more}
use Rattle.merge_orders.proofs.PointLemmas.{point_in-at}
use Rattle.merge_orders.proofs.DisjointLemmas.{AreDisjoint, point_of-in}

-- the greatest place of an invocation among the first calls of an order
abbrev pub latest : List Operation → List ℕ → ℕ → ℕ
latest calls order i = greatest (map (λ a. a.inv) (calls_at calls (take i order)))

-- the greatest place of an invocation among one call more
pub latest-more : (calls : List Operation) (order : List ℕ) (i d : ℕ) (a : Operation) → i < length order
    → slice_get calls (get_or order i d) ≡ Some a
    → latest calls order (i + 1) ≡ max (latest calls order i) a.inv
latest-more calls order i d a below here =
    let inv = λ (b : Operation). b.inv in
    ap (λ taken. greatest (map inv taken)) (calls_at-more calls order i d a below here)
    ∙ (ap greatest (map-append inv (calls_at calls (take i order)) (a ∷ []))
    ∙ greatest-push (map inv (calls_at calls (take i order))) a.inv)

-- one call more of an order, with its point
pub at_point_in-more : (calls : List Operation) (order : List ℕ) (i d : ℕ) (a : Operation) → AllPairs (λ m n. m ≢ n) order
    → i < length order
    → slice_get calls (get_or order i d) ≡ Some a
    → map (at_point_in calls order) (take (i + 1) order) ≡ map (at_point_in calls order)
    (take i order) ++ record { point = max (latest calls order i) a.inv; number = get_or order i d } ∷ []
at_point_in-more calls order i d a distinct below here =
    let n = get_or order i d in
    let point = point_in-at calls order i n distinct (slice_get-get_or order i d below) ∙ latest-more calls order i d a below here in
    map_more (at_point_in calls order) order i d below
    ∙ ap (λ (p : ℕ). let call : CallAtPoint = record { point = p; number = n } in map (at_point_in calls order)
    (take i order) ++ call ∷ []) point

-- one element more after a list and what was put after it
pub behind-more : {X : Type 0} (old done more now next : List X) (x y : X) → now ≡ old ++ done → more ≡ done ++ x ∷ []
    → next ≡ now ++ y ∷ [] → y ≡ x
    → next ≡ old ++ more
behind-more old done more now next x y so_far step push same = let joined = append_assoc old done (x ∷ []) in cc

-- two functions that agree on a list map it alike
map_agree : {X Y : Type 0} (f g : X → Y) (xs : List X) → All (λ x. f x ≡ g x) xs → map f xs ≡ map g xs
map_agree f g [] same = refl
map_agree f g (x ∷ xs) same = rw (All-head (λ x. f x ≡ g x) x xs same, map_agree f g xs (All-tail (λ x. f x ≡ g x) x xs same)) refl

-- one order more, where no number is in two orders
pub at_point-more : (calls : List Operation) (orders : List (List ℕ)) (i : ℕ) (order : List ℕ) → AreDisjoint orders
    → slice_get orders i ≡ Some order
    → map (at_point calls orders) (concat (take (i + 1) orders)) ≡ map (at_point calls orders) (concat (take i orders)) ++ map
    (at_point_in calls order) order
at_point-more calls orders i order disjoint here =
    let f = at_point calls orders in
    let before = concat (take i orders) in
    let is = Contains-at orders i order here in
    let step : take (i + 1) orders ≡ take i orders ++ order ∷ [] =
    rw (← get_or_from_slice_get orders i order order here) (take_more orders i order (slice_get_within orders i order here)) in
    let all : concat (take (i + 1) orders) ≡ before ++ order =
    ap concat step ∙ (concat-append (take i orders) (order ∷ []) ∙ ap (λ rest. before ++ rest) (append-nil order)) in
    let same : map f order ≡ map (at_point_in calls order) order =
    map_agree f (at_point_in calls order) order (All-from_contains (λ n. f n ≡ at_point_in calls order n) order
    (λ n number. ap (λ (p : ℕ). let call : CallAtPoint = record { point = p; number = n } in call)
    (point_of-in calls orders order n disjoint is number))) in
    ap (map f) all ∙ (map-append f before order ∙ ap (λ rest. map f before ++ rest) same)
