-- What a process does in its next step.
use Rattle.std.specs.Prelude.{ℕ, Option, Some, None}
use Rattle.art_core.specs.declared.process.Process.{Process}
use Rattle.art_core.specs.Core.{Plan, Move, Invokes, Makes, Responds, next_move}
use Rattle.machine.specs.declared.next_steps.NextStep.{NextStep}
use Rattle.machine.specs.declared.next_steps.NextStep.TheVariants.{Nothing, Stamp, Access}

-- a move as a step: the draw of a stamp, or an access
abbrev pub step_by : Option Move → NextStep
step_by None = Nothing
step_by (Some (Invokes call)) = Stamp
step_by (Some (Makes access)) = Access access
step_by (Some (Responds reply)) = Stamp

-- the next step of process p: nothing where there is no such process
abbrev pub next_step_of : Plan → ℕ → Option Process → NextStep
next_step_of plan p None = Nothing
next_step_of plan p (Some q) = step_by (next_move plan p q)
