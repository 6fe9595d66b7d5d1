-- How much a run reads of its source.
use Rattle.std.specs.Prelude.{◌≢◌, ℕ, ◌+◌, take, IfSome}
use Rattle.std.specs.Io.KnownBytes.{Consumes}
use Rattle.cli_io.specs.Progress.{ConsumesAtMost}
use Rattle.cli_outcome.specs.Ends.{Change}
use Rattle.cli_outcome.specs.Statuses.{memory_status, failed_status}

-- if the bytes to come are known, the first of them were read: this many, or all if there are fewer
abbrev pub ReadsFirst : ℕ → Change → Type 0
ReadsFirst count source = IfSome source.old.bytes (λ text. Consumes source.old.bytes source.new.bytes (take count text))

-- at most this many were read
abbrev pub ReadsAtMost : ℕ → Change → Type 0
ReadsAtMost count source = ConsumesAtMost count source.old.bytes source.new.bytes

-- a run that ends with this status read its text to the end, or one byte past the limit. It did not
-- read more if memory ran out, or if a read or a write failed
pub record IsTextRead (limit : ℕ) (source : Change) (status : ℕ) : Type 0 where
  pub whole : status ≢ memory_status → status ≢ failed_status → ReadsFirst (limit + 1) source
  pub most : ReadsAtMost (limit + 1) source
