-- The numbers of processes, one after another.
use Rattle.recorder.proofs.Common.{◌≡◌, ℕ, zero, suc, ◌+◌, [], ◌∷◌, ◌++◌, ap, ◌∙◌, arith, range_with_len}

from-push : (a n : ℕ) → range_with_len a n ++ (a + n) ∷ [] ≡ range_with_len a (suc n)
from-push a zero = let same : a + 0 ≡ a = omega arith in ap (λ k. k ∷ []) same
from-push a (suc n) =
    let same : a + suc n ≡ a + 1 + n = omega arith in
    ap (λ l. a ∷ l) (ap (λ k. range_with_len (a + 1) n ++ k ∷ []) same ∙ from-push (a + 1) n)

-- the numbers below n, and n
pub range-push : (n : ℕ) → range_with_len 0 n ++ n ∷ [] ≡ range_with_len 0 (n + 1)
range-push n =
    let first : n ≡ 0 + n = omega arith in
    let last : suc n ≡ n + 1 = omega arith in
    ap (λ k. range_with_len 0 n ++ k ∷ []) first ∙ (from-push 0 n ∙ ap (range_with_len 0) last)
