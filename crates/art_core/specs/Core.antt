-- The core: its states, and one step of a process.
use Rattle.std.specs.Prelude.{ℕ, ◌+◌, ◌%◌, ◌^◌, List, [], ◌∷◌, ◌++◌, length, map, replicate, filter_map, slice_get, slice_index, slice_set}
use Rattle.std.specs.Prelude.{Option, Some, None}
use Rattle.events.specs.declared.event.Call.{Call}
use Rattle.events.specs.declared.event.Reply.{Reply}
use Rattle.events.specs.declared.event.Event.{Event}
use Rattle.events.specs.declared.event.Event.TheVariants.{Invoke, Answer}
use Rattle.events.specs.Logs.{Stamped, history_of_logs}
use Rattle.art_rows.specs.declared.table.Shape.{Shape}
use Rattle.art_rows.specs.Table.{opening, clock}
use Rattle.art_rows.specs.declared.variant.Variant.{Variant}
use Rattle.art_rows.specs.declared.access.Access.{Access}
use Rattle.art_rows.specs.Steps.{Turn, Asks, Answers, reply_of}
use Rattle.art_rows.specs.Act.{act}
use Rattle.art_rows.specs.Fits.{word_of}
use Rattle.art_core.specs.declared.process.Process.{Process}
use Rattle.art_core.specs.Accesses.{changed, told}

-- a process by its fields
abbrev pub process : Option Call → List ℕ → List Stamped → ℕ → Process
process call got log steps = record { call = call; got = got; log = log; steps = steps }

pub record State : Type 0 where
  pub words : List ℕ
  pub processes : List Process

-- What a process does in a step: it draws the stamp of a call's invocation, makes an access, or draws the stamp of its response.
pub data Move : Type 0 where
  Invokes : Call → Move
  Makes : Access → Move
  Responds : Reply → Move

-- the word that a move is on, and what it makes of it
abbrev pub word_of_move : Move → ℕ
word_of_move (Invokes call) = clock
word_of_move (Makes a) = word_of a
word_of_move (Responds reply) = clock

abbrev pub new_word : Move → ℕ → ℕ
new_word (Invokes call) n = (n + 1) % 2 ^ 64
new_word (Makes a) n = changed a n
new_word (Responds reply) n = (n + 1) % 2 ^ 64

-- process p after a move that found n in its word
abbrev pub after_move : ℕ → Move → ℕ → Process → Process
after_move p (Invokes call) n q = process (Some call) [] (q.log ++ (n, Invoke p call) ∷ []) (q.steps + 1)
after_move p (Makes a) n q = process q.call (q.got ++ told a n ∷ []) q.log (q.steps + 1)
after_move p (Responds reply) n q = process None [] (q.log ++ (n, Answer p reply) ∷ []) (q.steps + 1)

-- the state after a move of process p, which was q
abbrev pub moved : State → ℕ → Process → Move → State
moved s p q m = record {
  words = slice_set s.words (word_of_move m) (new_word m (slice_index s.words (word_of_move m)));
  processes = slice_set s.processes p (after_move p m (slice_index s.words (word_of_move m)) q);
}

-- an open call makes the access that it asks for, or is answered
abbrev pub move_of : Turn → Move
move_of (Asks a point) = Makes a
move_of (Answers reply) = Responds reply

-- what an event invokes, and what it answers
abbrev pub invoked : Event → Option Call
invoked (Invoke p call) = Some call
invoked (Answer p reply) = None

abbrev pub answered : Event → Option Reply
answered (Invoke p call) = None
answered (Answer p reply) = Some reply

-- the calls that a process has begun, and the replies of those that it has finished
abbrev pub begun : Process → List Call
begun q = filter_map (λ e. invoked e.1) q.log

abbrev pub finished : Process → List Reply
finished q = filter_map (λ e. answered e.1) q.log

-- What runs: a shape, a variant, and a script of calls for each process.
pub record Plan : Type 0 where
  pub shape : Shape
  pub variant : Variant
  pub scripts : List (List Call)

abbrev pub next_in : Option (List Call) → ℕ → Option Call
next_in None n = None
next_in (Some script) n = slice_get script n

-- the next call of a process
abbrev pub next_call : Plan → ℕ → Process → Option Call
next_call plan p q = next_in (slice_get plan.scripts p) (length (begun q))

abbrev pub invocation : Option Call → Option Move
invocation None = None
invocation (Some call) = Some (Invokes call)

-- the next move of process p: none where it has no open call and its script has come to its end
abbrev pub move_from : Plan → ℕ → Process → Option Call → Option Move
move_from plan p q None = invocation (next_call plan p q)
move_from plan p q (Some call) = Some (move_of (act plan.shape plan.variant call q.got))

abbrev pub next_move : Plan → ℕ → Process → Option Move
next_move plan p q = move_from plan p q q.call

-- the state after a step of process p, unless there is no such process or it has nothing to do
abbrev pub moved_by : State → ℕ → Process → Option Move → Option State
moved_by s p q None = None
moved_by s p q (Some m) = Some (moved s p q m)

abbrev pub step_of : Plan → State → ℕ → Option Process → Option State
step_of plan s p None = None
step_of plan s p (Some q) = moved_by s p q (next_move plan p q)

unfoldable pub step : Plan → State → ℕ → Option State
step plan s p = step_of plan s p (slice_get s.processes p)

-- the history of a state is that of its logs
unfoldable pub history_of : State → List Event
history_of s = history_of_logs (map (λ q. q.log) s.processes)

-- the reply of an open call, once it is known
abbrev pub known_reply : Plan → List ℕ → Option Call → Option Reply
known_reply plan got None = None
known_reply plan got (Some call) = reply_of (act plan.shape plan.variant call got)

-- before its first step
abbrev pub idle : Process
idle = process None [] [] 0

-- on these words, before the first step
abbrev pub opened_on : Plan → List ℕ → State
opened_on plan words = record { words = words; processes = replicate (length plan.scripts) idle }

abbrev pub opened : Plan → State
opened plan = opened_on plan (opening plan.shape)
