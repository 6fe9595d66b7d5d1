-- Processes that keep within a limit for each of their calls make few steps together.
use Rattle.running.proofs.Common.{◌≡◌, ℕ, ◌+◌, ◌*◌, ◌^◌, ◌<◌, ◌≤◌, List, [], ◌∷◌, length, map, arith, subst, sym, All, All-head, All-tail}
use Rattle.std.specs.Prelude.{sum}
use Rattle.running.proofs.Common.{sum_by-cons, mul-add, begun, Setup, View, Numbered, plan_of, state_of, IsLimited}
use Rattle.std.proofs.lemmas.Nat.{mul-le}
use Rattle.events.specs.Limits.{call_limit}
use Rattle.art_core.specs.Plans.{IsPlan}
use Rattle.art_core.specs.Runs.{HasFewSteps}

abbrev steps_of : List Numbered → ℕ
steps_of xs = sum (map (λ q. q.steps) (map (λ x. x.1) xs))

abbrev calls_of : List Numbered → ℕ
calls_of xs = sum (map (λ script. length script) (map begun (map (λ x. x.1) xs)))

both-within : (a b c d e : ℕ) → a ≤ c → b ≤ d → e ≡ c + d → a + b ≤ e
both-within a b c d e first second is = omega (arith, first, second, is)

-- at most this many for each call
steps-within : (setup : Setup) (limit : ℕ) (xs : List Numbered) → All (IsLimited setup limit) xs → steps_of xs ≤ (limit + 1) * calls_of xs
steps-within setup limit [] all = omega arith
steps-within setup limit (x ∷ xs) all =
    subst (λ n. n ≤ (limit + 1) * calls_of (x ∷ xs)) (sym (sum_by-cons (λ n. n) x.1.steps (map (λ q. q.steps) (map (λ x. x.1) xs))))
    (subst (λ n. x.1.steps + steps_of xs ≤ (limit + 1) * n)
    (sym (sum_by-cons (λ n. n) (length (begun x.1)) (map (λ script. length script) (map begun (map (λ x. x.1) xs)))))
    (both-within x.1.steps (steps_of xs) ((limit + 1) * length (begun x.1)) ((limit + 1) * calls_of xs)
    ((limit + 1) * (length (begun x.1) + calls_of xs))
    (All-head (IsLimited setup limit) x xs all).steps
    (steps-within setup limit xs (All-tail (IsLimited setup limit) x xs all)) (mul-add (limit + 1) (length (begun x.1)) (calls_of xs))))

-- these are fewer steps than the laws of runs allow
pub few-steps : (setup : Setup) (limit : ℕ) (v : View) (words : List ℕ) → limit < 2 ^ 32 → IsPlan (plan_of setup v)
    → All (IsLimited setup limit) v.processes → HasFewSteps (state_of words v)
few-steps setup limit v words small within limited =
    let all = steps-within setup limit v.processes limited in
    let product = mul-le (limit + 1) (calls_of v.processes) (2 ^ 32) call_limit (omega (arith, small)) within.few_calls in
    omega (arith, all, product)
