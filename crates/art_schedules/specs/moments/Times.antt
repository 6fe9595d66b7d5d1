-- When a call got its words.
use Rattle.std.specs.Prelude.{◌≡◌, ℕ, suc, ◌<◌, List, length, take, slice_get, slice_index, Option, Some}
use Rattle.events.specs.declared.event.Call.{Call}
use Rattle.art_rows.specs.declared.access.Access.{Access}
use Rattle.art_rows.specs.declared.access.Point.{Point}
use Rattle.art_rows.specs.Steps.{Asks}
use Rattle.art_rows.specs.Act.{act}
use Rattle.art_rows.specs.Fits.{word_of}
use Rattle.art_core.specs.declared.process.Process.{Process}
use Rattle.art_core.specs.Accesses.{told}
use Rattle.art_core.specs.Core.{Plan, State, begun}
use Rattle.art_core.specs.Runs.{At}
use Rattle.art_core.specs.Moments.{HasGot}

-- Before moment t process p had got the first i of these words in the same call, and made the access that got the next one.
pub record GotAt (plan : Plan) (first : State) (schedule : List ℕ) (t p : ℕ) (q : Process) (call : Call) (i : ℕ) : Type 0 where
  pub u : ℕ
  pub before : u < t
  pub state : State
  pub at : At plan first schedule u state
  pub process : Process
  pub own : slice_get state.processes p ≡ Some process
  pub is_open : process.call ≡ Some call
  pub same_call : length (begun process) ≡ length (begun q)
  pub got : process.got ≡ take i q.got
  pub access : Access
  pub mark : Option Point
  pub asks : act plan.shape plan.variant call (take i q.got) ≡ Asks access mark
  pub is : slice_index q.got i ≡ told access (slice_index state.words (word_of access))
  pub after : State
  pub at_after : At plan first schedule (suc u) after
  pub got_it : HasGot (length (begun q)) (suc i) after p
