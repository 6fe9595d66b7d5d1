-- What a recorder that was not closed returns, and why.
use Rattle.std.specs.Prelude.{◌≡◌, ⊤, List, length}
use Rattle.recorder.specs.declared.fault.CloseFault.{CloseFault}
use Rattle.recorder.specs.declared.fault.CloseFault.TheVariants.{StillOut, Memory}
use Rattle.recorder.specs.declared.pass.Pass.{Pass}
use Rattle.recorder.specs.declared.recorders.Recorder.{Recorder}
use Rattle.recorder.specs.Recorders.{processes_of, HasProcesses, AreAll}

-- the recorder and the passes are returned: a process or a part of the draws is missing, or memory
-- ran out
abbrev pub IsHandedBack : Recorder → List Pass → CloseFault → Type 0
IsHandedBack r passes (StillOut back given) = (back ≡ r) × (given.items ≡ passes) × (AreAll r passes → ⊥)
IsHandedBack r passes (Memory back given) = (back ≡ r) × (given.items ≡ passes) × AreAll r passes

-- one pass of each process
pub record IsOneOfEach (r : Recorder) (passes : List Pass) : Type 0 where
  pub many : length passes ≡ processes_of r
  pub processes : HasProcesses (processes_of r) passes

-- nothing is missing but memory
abbrev pub WantsMemory : CloseFault → Type 0
WantsMemory (StillOut back given) = ⊥
WantsMemory (Memory back given) = ⊤
