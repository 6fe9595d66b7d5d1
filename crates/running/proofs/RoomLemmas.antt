-- The length of the longest script.
use Rattle.running.proofs.Common.{◌≡◌, ℕ, ◌*◌, ◌<◌, ◌≤◌, List, [], ◌∷◌, length, map, take, sym, ap, ◌∙◌, arith, mul-le-mul, get_or_default}
use Rattle.std.specs.Prelude.{sum}
use Rattle.running.proofs.Common.{sum_by-cons, greatest, greatest_bound, Call, most_calls}
use Rattle.std.proofs.Common.{slice_index_or}
use Rattle.std.proofs.lemmas.Simd.{map-map}
use Rattle.plans.specs.Plans.{AreFew}

pub longest-within : (scripts : List (List Call)) → most_calls scripts ≤ sum (map (λ script. length script) scripts)
longest-within [] = omega arith
longest-within (script ∷ scripts) =
    omega (arith, longest-within scripts, sum_by-cons (λ (n : ℕ). n) (length script) (map (λ script. length script) scripts))

-- a plan has at most 64 scripts, each of at most 4,096 calls
pub room-within : (scripts : List (List Call)) → AreFew scripts → length scripts * most_calls scripts ≤ 262144
room-within scripts few =
    let l = longest-within scripts in
    let m : most_calls scripts ≤ 4096 = let k = few.few_calls in omega arith in
    let product = mul-le-mul few.few_scripts m in
    omega (arith, product)

-- no script is longer than the longest
pub longest-bound : {X : Type 0} (script_of : X → List Call) (xs : List X) (k : ℕ) (d : X) → k < length xs
    → length (script_of (slice_index_or xs k d)) ≤ most_calls (map script_of xs)
longest-bound script_of xs k d within =
    let bound = greatest_bound (λ x. length (script_of x)) xs (slice_index_or xs k d)
    (k, within, get_or_default xs k (slice_index_or xs k d) d within) in
    rw (map-map (λ script. length script) script_of xs) bound

-- the greatest length among all scripts is that of the longest
pub longest-found : {X : Type 0} (script_of : X → List Call) (xs : List X) (i most : ℕ) → take i xs ≡ xs
    → most ≡ greatest (map (λ x. length (script_of x)) (take i xs)) → most ≡ most_calls (map script_of xs)
longest-found script_of xs i most all is =
    is
    ∙ (ap (λ ys. greatest (map (λ x. length (script_of x)) ys)) all ∙ ap greatest (sym (map-map (λ script. length script) script_of xs)))
