-- Draws that are dealt out in equal parts.
use Rattle.std.proofs.Common.{◌≡◌, ℕ, ◌+◌, ◌-◌, ◌*◌, ◌≤◌, arith, ap}
use Rattle.std.proofs.Math.Nat.{mul-le-mul_right}

-- what is left after one part more, where there is a part for one hand after it
pub left_after : (workers draws dealt left : ℕ)
    → left + dealt * draws ≡ workers * draws → dealt + 2 ≤ workers → (left - draws) + (dealt + 1) * draws ≡ workers * draws
left_after workers draws dealt left h more =
    let few = mul-le-mul_right draws more in omega (arith, few)

-- what is left after all parts but one is a part
pub left_last : (workers draws dealt left : ℕ) → left + dealt * draws ≡ workers * draws → dealt + 1 ≡ workers → left ≡ draws
left_last workers draws dealt left h last = let all = ap (λ n. n * draws) last in omega (arith, all)
