-- What a pass shows of the script of its process.
use Rattle.std.specs.Prelude.{◌≡◌, ⊤, ℕ, ◌<◌, List, [], ◌∷◌, length, Option, Some, None, IfSome, Result, IfOk, slice_get, slice_index_or}
use Rattle.std.specs.Prelude.{All}
use Rattle.events.specs.declared.event.Call.{Call}
use Rattle.events.specs.declared.event.Reply.{Reply}
use Rattle.events.specs.declared.event.Event.{Event}
use Rattle.events.specs.declared.event.Event.TheVariants.{Invoke, Answer}
use Rattle.events.specs.declared.memory.Memory.{Memory}
use Rattle.events.specs.Events.{process_of}
use Rattle.recorder.specs.declared.pass.Pass.{Pass}
use Rattle.recorder.specs.declared.recorders.Recorder.{Recorder}
use Rattle.recorder.specs.Passes.{process_number, log_of, events_by}
use Rattle.recorder.specs.Recorders.{IsPassOf}
use Rattle.running.specs.Drives.{HasFinished}

-- all events of the pass are of its process
abbrev pub AreOwn : Pass → Type 0
AreOwn p = All (λ e. process_of e ≡ process_number p) (events_by p)

-- the first reply among events
abbrev pub first_reply : List Event → Option Reply
first_reply [] = None
first_reply (Invoke p call ∷ events) = first_reply events
first_reply (Answer p reply ∷ events) = Some reply

-- in the events of one process, the first reply after each call is one that the call may get
abbrev pub AnswersFit : (Call → Reply → Type 0) → List Event → Type 0
AnswersFit may_answer [] = ⊤
AnswersFit may_answer (Invoke p call ∷ events) = IfSome (first_reply events) (may_answer call) × AnswersFit may_answer events
AnswersFit may_answer (Answer p reply ∷ events) = AnswersFit may_answer events

-- by the events of the pass, its process did this script, and its answers are allowed
pub record HasRecordedScript (may_answer : Call → Reply → Type 0) (script : List Call) (p : Pass) : Type 0 where
  pub own : AreOwn p
  pub finished : HasFinished (events_by p) (process_number p) script
  pub answered : AnswersFit may_answer (events_by p)

-- a pass of one of this many processes, which has recorded nothing yet
pub record IsReady (r : Recorder) (processes : ℕ) (p : Pass) : Type 0 where
  pub own : IsPassOf r p
  pub known : process_number p < processes
  pub fresh : log_of p ≡ []

-- the pass of a process, which did its own of the scripts
pub record IsPassAfter (may_answer : Call → Reply → Type 0) (r : Recorder) (scripts : List (List Call)) (process : ℕ)
    (p : Pass) : Type 0 where
  pub own : IsPassOf r p
  pub process_is : process_number p ≡ process
  pub recorded : (script : List Call) → slice_get scripts process ≡ Some script → HasRecordedScript may_answer script p

-- the results of all processes, by process: a pass with which each did its script, unless it ran
-- out of memory
abbrev pub EachIsAfter : (Call → Reply → Type 0) → Recorder → List (List Call) → List (Result Pass Memory) → Type 0
EachIsAfter may_answer r scripts done =
    (process : ℕ) (d : Result Pass Memory) → process < length done
    → IfOk (slice_index_or done process d) (IsPassAfter may_answer r scripts process)

-- the passes of all processes, by process; each did its script
abbrev pub AreAfter : (Call → Reply → Type 0) → Recorder → List (List Call) → List Pass → Type 0
AreAfter may_answer r scripts passes =
    (process : ℕ) (d : Pass) → process < length passes → IsPassAfter may_answer r scripts process (slice_index_or passes process d)
