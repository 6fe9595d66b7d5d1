use Rattle.follow_parts.proofs.Common.{◌≡◌, ℕ, ◌<◌, ◌≤◌, length, get_or, with_begun, kept_of, Past}
use Rattle.follow_parts.proofs.beginning.begin_in_each.Given as goal

-- the call has begun in the pasts so far, and the others are as they were
abbrev pub invariant-loop-place : goal.invariant-loop-place
invariant-loop-place l = record {
  so_far : (k : ℕ) (d : Past) → k < l.place → kept_of (get_or l.pasts k d) ≡ with_begun l.operation (kept_of (get_or l.fn.pasts k d));
  others : (k : ℕ) (d : Past) → l.place ≤ k → get_or l.pasts k d ≡ get_or l.fn.pasts k d;
  long : length l.pasts ≡ length l.fn.pasts;
}
