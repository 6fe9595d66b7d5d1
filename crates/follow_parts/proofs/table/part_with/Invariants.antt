use Rattle.std.proofs.Common.{◌≡◌, false, take, All}
use Rattle.follow_pasts.specs.Ranges.{covered}
use Rattle.follow_parts.proofs.table.part_with.Given as goal

-- no part so far has the key
abbrev pub invariant-loop-place : goal.invariant-loop-place
invariant-loop-place l = All (λ part. covered part.ranges.items l.key ≡ false) (take l.place l.parts)
