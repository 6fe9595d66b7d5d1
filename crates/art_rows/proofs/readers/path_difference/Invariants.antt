use Rattle.art_rows.proofs.Common.{◌≡◌, ℕ, ◌<◌, slice_index, info_of, key_bytes}
use Rattle.art_rows.proofs.readers.path_difference.Given as goal

-- the bytes that were compared are the same
abbrev pub invariant-loop-place : goal.invariant-loop-place
invariant-loop-place l = (k : ℕ) → k < l.place → slice_index (info_of l.kind l.info).path k ≡ slice_index (key_bytes l.key) k
