-- When a process as a thread runs it fits the process that a place shows.
use Rattle.std.specs.Prelude.{◌≡◌, ℕ, ◌+◌, List, [], ◌∷◌, length}
use Rattle.art.specs.Doings.{FitsDoing}
use Rattle.art_core.specs.declared.process.Process.{Process}
use Rattle.art_core.specs.Core.{begun}
use Rattle.running.specs.declared.view.Setup.{Setup}
use Rattle.running.specs.declared.view.View.{View}
use Rattle.running.specs.Views.{Numbered}
use Rattle.running.specs.declared.runner.Runner.{Runner}

-- a process as a thread runs it, with its number
abbrev pub Run : Type 0
Run = ℕ × Runner

-- the run fits the process: it has the same number, the same call, as many calls left, and the same
-- log
pub record FitsProcess (setup : Setup) (x : Numbered) (r : Run) : Type 0 where
  pub number : x.0 ≡ r.0
  pub doing : FitsDoing setup.shape setup.variant r.1.doing x.1.call x.1.got
  pub left : length (begun x.1) + r.1.left ≡ setup.calls_each
  pub log : x.1.log ≡ r.1.log.items

-- each run fits the process at its place
abbrev pub Fit : Setup → List Numbered → List Run → Type 0
Fit setup [] [] = Unit {0}
Fit setup [] (r ∷ rs) = ⊥
Fit setup (x ∷ xs) [] = ⊥
Fit setup (x ∷ xs) (r ∷ rs) = FitsProcess setup x r × Fit setup xs rs

-- all processes but the first
abbrev pub others_in : List Numbered → List Numbered
others_in [] = []
others_in (x ∷ xs) = xs

abbrev pub others_of : View → List Numbered
others_of v = others_in v.processes

-- this is the first process of the view
pub record IsFirst (v : View) (number : ℕ) (r : Runner) : Type 0 where
  pub process : Process
  pub is : v.processes ≡ (number, process) ∷ others_of v
  pub fits : FitsProcess v.setup (number, process) (number, r)

-- only the first process differs
pub record IsBeside (old new : View) : Type 0 where
  pub setup : new.setup ≡ old.setup
  pub others : others_of new ≡ others_of old
