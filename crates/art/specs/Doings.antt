-- What a process does with a call, before and after an access.
use Rattle.std.specs.Prelude.{◌≡◌, ℕ, Bool, false, List, [], Option, Some, None, is_some}
use Rattle.events.specs.declared.event.Call.{Call}
use Rattle.events.specs.declared.event.Reply.{Reply}
use Rattle.art_rows.specs.declared.table.Shape.{Shape}
use Rattle.art_rows.specs.declared.variant.Variant.{Variant}
use Rattle.art_rows.specs.Steps.{Answers, reply_of}
use Rattle.art_rows.specs.Act.{act}
use Rattle.art_rows.specs.Fits.{Fits}
use Rattle.art.specs.declared.task.Task.{Task}
use Rattle.art.specs.declared.doing.Doing.{Doing}
use Rattle.art.specs.declared.doing.Doing.TheVariants.{Idle, Going, Answered}
use Rattle.art.specs.Tasks.{rest_of, shape_of}

-- what a process does fits its open call and the words that the call got
abbrev pub FitsDoing : Shape → Variant → Doing → Option Call → List ℕ → Type 0
FitsDoing shape variant Idle call got = call ≡ None
FitsDoing shape variant (Going task) call got = (c : Call) × (call ≡ Some c) × Fits shape variant c got (rest_of task)
FitsDoing shape variant (Answered reply) call got = (c : Call) × (call ≡ Some c) × (act shape variant c got ≡ Answers reply)

-- whether it still makes accesses for a call whose reply is known
abbrev pub is_late : Doing → Bool
is_late (Going task) = is_some (reply_of (rest_of task []))
is_late doing = false

-- after an access: the task goes on, or its call has this reply
abbrev pub after_access : Task → Option Reply → Doing
after_access task None = Going task
after_access task (Some reply) = Answered reply

-- its call has a reply
abbrev pub IsAnswered : Doing → Type 0
IsAnswered (Answered reply) = Unit {0}
IsAnswered doing = ⊥

-- a task is for the table
abbrev pub IsFor : Shape → Doing → Type 0
IsFor shape (Going task) = shape_of task ≡ shape
IsFor shape doing = Unit {0}
