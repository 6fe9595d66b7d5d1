use Rattle.art_rows.proofs.Common.{◌≡◌, ℕ, ◌<◌, slice_index, key_bytes}
use Rattle.art_rows.proofs.readers.key_difference.Given as goal

-- the bytes that were compared are the same
abbrev pub invariant-loop-level : goal.invariant-loop-level
invariant-loop-level l = (k : ℕ) → k < l.level → slice_index (key_bytes l.a) k ≡ slice_index (key_bytes l.b) k
