-- What a run does to an end: the source that it reads, or a sink that it writes to.
use Rattle.std.specs.Prelude.{◌≡◌, ◌⊎◌, ℕ, ◌+◌, List, Option}
use Rattle.std.specs.Io.KnownBytes.{Appends, Keeps}
use Rattle.cli_io.specs.Progress.{AppendsBeginning}

-- an end: the bytes that are still to come from a source, or that were written to a sink, if they
-- are known; and how many calls have failed
pub record End : Type 0 where
  pub bytes : Option (List ℕ)
  pub failures : ℕ

-- an end before a run and after it
pub record Change : Type 0 where
  pub old : End
  pub new : End

abbrev pub change : {T : Type 0} → (T → Option (List ℕ)) → (T → ℕ) → T → T → Change
change bytes failures old new = record {
  old = record { bytes = bytes old; failures = failures old };
  new = record { bytes = bytes new; failures = failures new };
}

-- an end is as it was
abbrev pub IsUnused : Change → Type 0
IsUnused end = end.new ≡ end.old

-- no call failed
abbrev pub IsSound : Change → Type 0
IsSound end = end.new.failures ≡ end.old.failures

-- one call failed
abbrev pub FailsOnce : Change → Type 0
FailsOnce end = end.new.failures ≡ end.old.failures + 1

-- nothing was written, and no call failed
abbrev pub IsSilent : Change → Type 0
IsSilent sink = Keeps sink.old.bytes sink.new.bytes × IsSound sink

-- these bytes were written, and no call failed
abbrev pub Says : Change → List ℕ → Type 0
Says sink bytes = Appends sink.old.bytes sink.new.bytes bytes × IsSound sink

-- a proper beginning of these bytes was written, and then a call failed
abbrev pub BreaksOff : Change → List ℕ → Type 0
BreaksOff sink bytes = AppendsBeginning sink.old.bytes sink.new.bytes bytes × FailsOnce sink

-- these bytes were tried once: all were written, or a beginning of them until a call failed
abbrev pub Tries : Change → List ℕ → Type 0
Tries sink bytes = Says sink bytes ⊎ BreaksOff sink bytes
