-- The points of the calls of an order, and the columns of a picture.
use Rattle.draw_picture.proofs.Common.{◌≡◌, ℕ, zero, suc, ◌+◌, ◌<◌, ◌≤◌, Bool, true, false, cond, List, [], ◌∷◌, ◌++◌, map, length, get_or, take, sym, ap}
use Rattle.draw_picture.proofs.Common.{◌∙◌, arith, ◌≢◌, filter, AllPairs, slice_index, count_by, le-ltb, lt-ltb, map_more, length-filter}
use Rattle.draw_picture.proofs.Common.{slice_get-get_or, AllPairs-head, AllPairs-tail, filter_none, Operation, point_in, point_in-at, latest}
use Rattle.std.proofs.Common.{nat_lt}

-- one point more
pub points-more : (calls : List Operation) (order : List ℕ) (i d point : ℕ) → AllPairs (λ m n. m ≢ n) order → i < length order
    → point ≡ latest calls order (i + 1)
    → map (point_in calls order) (take i order) ++ point ∷ [] ≡ map (point_in calls order) (take (i + 1) order)
points-more calls order i d point distinct below is =
    let n = get_or order i d in
    let at = point_in-at calls order i n distinct (slice_get-get_or order i d below) in
    ap (λ p. map (point_in calls order) (take i order) ++ p ∷ []) (is ∙ sym at) ∙ sym (map_more (point_in calls order) order i d below)

-- whether a point is before an event
abbrev pub is_below : ℕ → ℕ → Bool
is_below event point = nat_lt point event

-- how many points are before an event
abbrev below : List ℕ → ℕ → ℕ
below points event = length (filter (is_below event) points)

-- one point more
below-cons : (x n event : ℕ) (xs : List ℕ) → below xs event ≤ n → below (x ∷ xs) event ≤ suc n
below-cons x n event xs h = by_test (is_below event x)
  where
    by_test : (b : Bool) → length (cond b (x ∷ filter (is_below event) xs) (filter (is_below event) xs)) ≤ suc n
    by_test true = omega arith
    by_test false = omega arith

below-le : (points : List ℕ) (place event : ℕ) → AllPairs (λ p q. p ≤ q) points → place < length points → event ≤ slice_index points place
    → below points event ≤ place
below-le [] place event up within h = absurd (omega arith)
below-le (x ∷ xs) zero event up within h =
    let later = AllPairs-head (λ p q. p ≤ q) x xs up in
    rw (le-ltb x event h) (rw (filter_none (is_below event) xs (λ k d inside. le-ltb (get_or xs k d) event
    (omega (arith, later k d inside)))) (omega arith))
below-le (x ∷ xs) (suc place) event up within h =
    below-cons x place event xs (below-le xs place event (AllPairs-tail (λ p q. p ≤ q) x xs up) (omega arith) h)

below-ge : (points : List ℕ) (place event : ℕ) → AllPairs (λ p q. p ≤ q) points → place < length points → slice_index points place < event
    → place + 1 ≤ below points event
below-ge [] place event up within h = absurd (omega arith)
below-ge (x ∷ xs) zero event up within h = rw (lt-ltb x event h) (omega arith)
below-ge (x ∷ xs) (suc place) event up within h =
    let first : x ≤ slice_index xs place = AllPairs-head (λ p q. p ≤ q) x xs up place 0 (omega arith) in
    let rest = below-ge xs place event (AllPairs-tail (λ p q. p ≤ q) x xs up) (omega arith) h in
    rw (lt-ltb x event (omega arith)) (omega arith)

-- points that rise: if the one at a place is not before an event, at most the points before that
-- place are before the event
pub count-below : (points : List ℕ) (place event : ℕ) → AllPairs (λ p q. p ≤ q) points → place < length points
    → event ≤ slice_index points place
    → count_by (is_below event) points ≤ place
count-below points place event up within h = rw (← length-filter (is_below event) points) (below-le points place event up within h)

-- points that rise: if the one at a place is before an event, so are all points before that place
pub count-above : (points : List ℕ) (place event : ℕ) → AllPairs (λ p q. p ≤ q) points → place < length points
    → slice_index points place < event
    → place + 1 ≤ count_by (is_below event) points
count-above points place event up within h = rw (← length-filter (is_below event) points) (below-ge points place event up within h)
