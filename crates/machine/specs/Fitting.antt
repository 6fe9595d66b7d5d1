-- What it means that a runner fits a process of the core.
use Rattle.std.specs.Prelude.{◌≡◌, ℕ, List, [], ◌∷◌, ◌++◌, length, slice_get, slice_index, slice_set, Option, Some}
use Rattle.events.specs.declared.event.Call.{Call}
use Rattle.art_rows.specs.declared.table.Shape.{Shape}
use Rattle.art_rows.specs.declared.variant.Variant.{Variant}
use Rattle.art_rows.specs.Steps.{Asks}
use Rattle.art_rows.specs.Act.{act}
use Rattle.art_rows.specs.declared.access.Access.{Access}
use Rattle.art_rows.specs.declared.access.Point.{Point}
use Rattle.art_core.specs.Accesses.{got_by, words_after}
use Rattle.art_core.specs.declared.process.Process.{Process}
use Rattle.art_core.specs.Core.{Plan, State, Move, begun, finished, next_move, word_of_move, new_word, after_move}
use Rattle.machine.specs.declared.runner.Runner.{Runner}
use Rattle.art.specs.declared.doing.Doing.{Doing}
use Rattle.art.specs.Doings.{FitsDoing, IsFor}

-- each runner's task is for the table
abbrev pub AreFor : Shape → List Runner → Type 0
AreFor shape runners = (i : ℕ) (r : Runner) → slice_get runners i ≡ Some r → IsFor shape r.doing

-- a runner fits a process of the core
pub record FitsProcess (plan : Plan) (p : ℕ) (r : Runner) (q : Process) : Type 0 where
  pub doing : FitsDoing plan.shape plan.variant r.doing q.call q.got
  pub begun : length (begun q) ≡ r.begun
  pub finished : length (finished q) ≡ r.finished
  pub log : q.log ≡ r.log.items
  pub script : slice_get plan.scripts p ≡ Some r.script.items

-- It has made the process's next move, on these words.
pub record Moves (plan : Plan) (p : ℕ) (q : Process) (old new : List ℕ) (r : Runner) : Type 0 where
  pub move : Move
  pub is_next : next_move plan p q ≡ Some move
  pub words : new ≡ slice_set old (word_of_move move) (new_word move (slice_index old (word_of_move move)))
  pub fits : FitsProcess plan p r (after_move p move (slice_index old (word_of_move move)) q)

-- An open call that got these words has made its next access, and is doing this now.
pub record Advances (shape : Shape) (variant : Variant) (call : Call) (got old new : List ℕ) (doing : Doing) : Type 0 where
  pub access : Access
  pub point : Option Point
  pub asks : act shape variant call got ≡ Asks access point
  pub words : new ≡ words_after access old
  pub fits : FitsDoing shape variant doing (Some call) (got ++ got_by access old ∷ [])

-- Words and runners show this state of the plan: the same words, and each runner fits its process.
pub record ShowsState (plan : Plan) (its_shape : Shape) (its_variant : Variant) (its_words : List ℕ) (runners : List Runner)
    (s : State) : Type 0 where
  pub shape : plan.shape ≡ its_shape
  pub variant : plan.variant ≡ its_variant
  pub words : s.words ≡ its_words
  pub many : length s.processes ≡ length runners
  pub fits : (i : ℕ) (r : Runner) (q : Process) → slice_get runners i ≡ Some r → slice_get s.processes i ≡ Some q → FitsProcess plan i r q
