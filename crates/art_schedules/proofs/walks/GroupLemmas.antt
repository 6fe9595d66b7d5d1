-- Rising bytes, eight by eight.
use Rattle.art_schedules.proofs.Common.{◌≡◌, ℕ, ◌/◌, ◌<◌, List, [], ◌∷◌, ◌++◌, refl, sym, ap, ◌∙◌, arith, eqb-true, eq-eqb, Contains}
use Rattle.art_schedules.proofs.Common.{flat_map, filter, AllPairs-filter, flat_map-cons, Contains-filter, Contains-from_filter, numbers}
use Rattle.std.proofs.Common.{AllPairs, ◌==◌}
use Rattle.std.proofs.lemmas.Grind.{flat_map-append}
use Rattle.art_schedules.proofs.walks.FlatLemmas.{Contains-flat_map, Contains-from_flat_map, AllPairs-flat_map}
use Rattle.art_schedules.proofs.walks.OrderLemmas.{same_members-same}
use Rattle.art_schedules.proofs.walks.NumberLemmas.{Contains-numbers, numbers-rise}

-- the bytes among the eight from 8 * j on
abbrev pub group : List ℕ → ℕ → List ℕ
group xs j = filter (λ x. x / 8 == j) xs

flat-flat : {X Y A : Type 0} (f : Y → List A) (g : X → List Y) (xs : List X)
    → flat_map f (flat_map g xs) ≡ flat_map (λ x. flat_map f (g x)) xs
flat-flat f g [] = refl
flat-flat f g (x ∷ xs) =
    ap (flat_map f) (flat_map-cons g x xs)
    ∙ (flat_map-append f (g x) (flat_map g xs)
    ∙ (ap (λ l. flat_map f (g x) ++ l) (flat-flat f g xs) ∙ sym (flat_map-cons (λ x. flat_map f (g x)) x xs)))

groups-all : (xs : List ℕ) → AllPairs (λ a b. a < b) xs → ((x : ℕ) → Contains xs x → x < 256) → flat_map (group xs) (numbers 0 32) ≡ xs
groups-all xs rising small =
    same_members-same (λ a b. a < b) (λ a b h k. omega (arith, h, k)) (flat_map (group xs) (numbers 0 32)) xs
    (AllPairs-flat_map (λ a b. a < b) (λ a b. a < b) (group xs) (numbers 0 32) (numbers-rise 0 32)
    (λ j h. AllPairs-filter (λ a b. a < b) (λ x. x / 8 == j) xs rising)
    (λ i j a b h k less at_a at_b. omega (
      arith,
      less,
      eqb-true (a / 8) i (Contains-from_filter (λ x. x / 8 == i) xs a at_a).1,
      eqb-true (b / 8) j (Contains-from_filter (λ x. x / 8 == j) xs b at_b).1,
    ))) rising
    (λ x h. (let from = Contains-from_flat_map (group xs) (numbers 0 32) x h in (Contains-from_filter
    (λ z. z / 8 == from.0) xs x from.2).0))
    (λ x h. Contains-flat_map (group xs) (numbers 0 32) (x / 8) x (Contains-numbers 0 32 (x / 8) (omega arith) (omega (arith, small x h)))
    (Contains-filter (λ z. z / 8 == x / 8) xs x h (eq-eqb (x / 8) (x / 8) refl)))

-- what is listed eight by eight is listed byte by byte
pub grouped : {A : Type 0} (f : ℕ → List A) (xs : List ℕ) → AllPairs (λ a b. a < b) xs → ((x : ℕ) → Contains xs x → x < 256)
    → flat_map (λ j. flat_map f (group xs j)) (numbers 0 32) ≡ flat_map f xs
grouped f xs rising small = sym (flat-flat f (group xs) (numbers 0 32)) ∙ ap (flat_map f) (groups-all xs rising small)
