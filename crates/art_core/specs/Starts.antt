-- Words on which a table holds pairs before the first step: one process has inserted them alone, in
-- their order.
use Rattle.std.specs.Prelude.{◌≡◌, ◌≢◌, ℕ, ◌+◌, ◌≤◌, IsTrue, List, [], ◌∷◌, length, map, sum, slice_get, slice_set, All, Contains, Some}
use Rattle.std.specs.Prelude.{None}
use Rattle.events.specs.declared.event.Call.{Call}
use Rattle.events.specs.declared.event.Call.TheVariants.{Insert}
use Rattle.events.specs.declared.event.Reply.TheVariants as replies
use Rattle.events.specs.Limits.{call_limit}
use Rattle.map_object.specs.MapObject.{Contents, IsRising}
use Rattle.art_rows.specs.declared.table.Shape.{Shape}
use Rattle.art_rows.specs.Table.{clock}
use Rattle.art_rows.specs.declared.variant.Variant.{Variant}
use Rattle.art_rows.specs.TreeCalls.{is_tree_call}
use Rattle.art_core.specs.declared.process.Process.{Process}
use Rattle.art_core.specs.Core.{Plan, State, finished, next_move, opened}
use Rattle.art_core.specs.Runs.{Gives, HasFewSteps}

-- the calls that insert the pairs
abbrev pub inserts : Contents → List Call
inserts pairs = map (λ pair. Insert pair.0 pair.1) pairs

-- one process inserts the pairs
abbrev pub start_plan : Shape → Variant → Contents → Plan
start_plan shape variant start = record { shape = shape; variant = variant; scripts = inserts start ∷ [] }

-- Some schedule gives this state while the pairs are inserted, after few steps, and this process inserts them.
pub record AreInsertedIn (shape : Shape) (variant : Variant) (start : Contents) (s : State) (process : Process) : Type 0 where
  pub schedule : List ℕ
  pub gives : Gives (start_plan shape variant start) (opened (start_plan shape variant start)) schedule s
  pub few_steps : HasFewSteps s
  pub is_process : slice_get s.processes 0 ≡ Some process

-- The words on which a machine with these pairs is opened. Nothing is left to do, no insert was
-- refused, and the clock is set back to 0.
pub record StartsOn (shape : Shape) (variant : Variant) (start : Contents) (words : List ℕ) : Type 0 where
  pub state : State
  pub process : Process
  pub inserted : AreInsertedIn shape variant start state process
  pub all : next_move (start_plan shape variant start) 0 process ≡ None
  pub accepted : All (λ reply. reply ≢ replies.Refused) (finished process)
  pub leaves : words ≡ slice_set state.words clock 0

-- One of the inserts was answered that it is refused.
pub record IsStartRefused (shape : Shape) (variant : Variant) (start : Contents) : Type 0 where
  pub state : State
  pub process : Process
  pub inserted : AreInsertedIn shape variant start state process
  pub refused : Contains (finished process) replies.Refused

-- pairs with which the scripts of a plan may start
pub record IsStartOf (plan : Plan) (start : Contents) : Type 0 where
  pub rising : IsRising start
  pub calls : All (λ call. IsTrue (is_tree_call call)) (inserts start)
  pub few : length start + sum (map (λ script. length script) plan.scripts) ≤ call_limit
