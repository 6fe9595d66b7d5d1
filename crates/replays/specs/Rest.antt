-- What it means that no process goes on.
use Rattle.std.specs.Prelude.{ℕ, IsTrue, List, slice_get, slice_index}
use Rattle.art_rows.specs.Words.{is_locked}
use Rattle.art_rows.specs.declared.access.Access.TheVariants.{Load}
use Rattle.art_core.specs.Core.{Plan, State}
use Rattle.machine.specs.declared.next_steps.NextStep.{NextStep}
use Rattle.machine.specs.declared.next_steps.NextStep.TheVariants.{Nothing, Stamp, Access}
use Rattle.machine.specs.NextSteps.{next_step_of}

-- A process with this next step does not go on: it has nothing left to do, or waits for a lock, since it loads a word that is locked.
abbrev pub DoesNotGoOn : List ℕ → NextStep → Type 0
DoesNotGoOn words Nothing = Unit {0}
DoesNotGoOn words Stamp = ⊥
DoesNotGoOn words (Access (Load word)) = IsTrue (is_locked (slice_index words word))
DoesNotGoOn words (Access access) = ⊥

-- no process of the state goes on
abbrev pub NoneGoesOn : Plan → State → Type 0
NoneGoesOn plan state = (p : ℕ) → DoesNotGoOn state.words (next_step_of plan p (slice_get state.processes p))
