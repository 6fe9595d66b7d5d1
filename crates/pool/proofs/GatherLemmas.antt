-- What workers answer, one after another.
use Rattle.pool.proofs.Common.{◌≡◌, List, ◌++◌, Result, Ok, Err, All, IfOk, All-append}
use Rattle.std.specs.Result.{MatchResult}

-- what holds of all that was gathered, and of what comes next, holds of both together
pub All-gathered : {A V E : Type 0} (P : A → Type 0) (items : V → List A) (old new : List A) (next : Result V E)
    → All P old → IfOk next (λ v. All P (items v)) → MatchResult next (λ v. new ≡ old ++ items v) (λ _. ⊥) → All P new
All-gathered P items old new (Ok v) so_far here is = rw is (All-append P old (items v) so_far here)
All-gathered P items old new (Err e) so_far here is = absurd is
