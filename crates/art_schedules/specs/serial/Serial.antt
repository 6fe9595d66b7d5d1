-- Serial schedules as lists of calls that run alone, one after another. A history is serial where
-- each call is answered before the next is invoked: Herlihy and Wing 1990, section 2, where such a
-- history is called sequential.
use Rattle.std.specs.Prelude.{◌≡◌, ℕ, ◌+◌, ◌%◌, ◌^◌, ◌≤◌, IsTrue, IsSomeAnd, List, [], ◌∷◌, ◌++◌, length, map, sum, slice_index, slice_set}
use Rattle.std.specs.Prelude.{All, None}
use Rattle.std.specs.List.{AllZip}
use Rattle.events.specs.declared.event.Call.{Call}
use Rattle.events.specs.declared.event.Reply.{Reply}
use Rattle.events.specs.declared.operation.Operation.{Operation}
use Rattle.events.specs.Operations.{operations}
use Rattle.art_rows.specs.declared.table.Shape.{Shape}
use Rattle.art_rows.specs.Table.{clock, table_words}
use Rattle.art_rows.specs.declared.variant.Variant.{Variant}
use Rattle.art_rows.specs.Act.{act}
use Rattle.art_rows.specs.TreeCalls.{is_tree_call}
use Rattle.art_core.specs.declared.process.Process.{Process}
use Rattle.art_core.specs.Core.{Plan, State, history_of, finished, opened_on}
use Rattle.art_core.specs.Runs.{Gives, HasFewSteps}
use Rattle.art_core.specs.Plans.{IsPlan, IsSerial}
use Rattle.art_schedules.specs.alone.Alone.{RunsAlone}

-- the words after a stamp was drawn: the clock is one higher
abbrev pub ticked : List ℕ → List ℕ
ticked words = slice_set words clock ((slice_index words clock + 1) % 2 ^ 64)

-- From the first words these calls with their replies lead to these words. For each in turn a stamp
-- is drawn, the call runs alone from its beginning to its reply, and a stamp is drawn.
pub data SerialRun (shape : Shape) (variant : Variant) (first : List ℕ) : List (Call × Reply) → List ℕ → Type 0 where
  none : SerialRun shape variant first [] first
  more : {done : List (Call × Reply)} {words last : List ℕ} → (call : Call) → (reply : Reply) → SerialRun shape variant first done words
      → RunsAlone (act shape variant call) (ticked words) last reply
      → SerialRun shape variant first (done ++ (call, reply) ∷ []) (ticked last)

-- A state that a schedule gives from the first words on, of a plan within the limits, after few steps. They are as many as the table has,
-- and their clock is 0.
pub record IsRunOn (plan : Plan) (first schedule : List ℕ) (s : State) : Type 0 where
  pub within : IsPlan plan
  pub table : length first ≡ table_words plan.shape
  pub clock_zero : slice_index first clock ≡ 0
  pub gives : Gives plan (opened_on plan first) schedule s
  pub few_steps : HasFewSteps s

-- a call of a history is this one, completed with this reply
abbrev pub IsDone : Operation → Call × Reply → Type 0
IsDone a done = (a.call ≡ done.0) × IsSomeAnd a.response (λ response. response.reply ≡ done.1)

-- how many calls the scripts hold
abbrev pub calls_in : Plan → ℕ
calls_in plan = sum (map (λ script. length script) plan.scripts)

-- These calls with their replies, run alone one after another, come from the first words to the
-- state's. They are the calls of its history, in their order, and none is open. They are calls of a
-- tree, and no more than the scripts hold.
pub record HasRunAlone (plan : Plan) (first : List ℕ) (s : State) (done : List (Call × Reply)) : Type 0 where
  pub run : SerialRun plan.shape plan.variant first done s.words
  pub operations : AllZip IsDone (operations (history_of s)) done
  pub idle : All (λ q. q.call ≡ None) s.processes
  pub calls : All (λ call. IsTrue (is_tree_call call.0)) done
  pub few : length done ≤ calls_in plan

-- one process with this script
abbrev pub sole_plan : Shape → Variant → List Call → Plan
sole_plan shape variant script = record { shape = shape; variant = variant; scripts = script ∷ [] }

-- What holds of one process that has made its whole script. Its history is serial. These calls with
-- their replies, which have run alone, are those of its script, in their order, with the replies
-- that it logged.
pub record HasRunScript (plan : Plan) (script : List Call) (first : List ℕ) (s : State) (q : Process)
    (done : List (Call × Reply)) : Type 0 where
  pub serial : IsSerial (history_of s)
  pub alone : HasRunAlone plan first s done
  pub calls : map (λ c. c.0) done ≡ script
  pub replies : map (λ c. c.1) done ≡ finished q
