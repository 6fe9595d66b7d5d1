-- What some turns of an open call did.
use Rattle.std.specs.Prelude.{ℕ, ◌<◌, ◌≤◌, IsTrue}
use Rattle.running.specs.declared.view.View.{View}
use Rattle.running.specs.declared.progress.Progress.{Progress}
use Rattle.running.specs.declared.progress.Progress.TheVariants.{Done, Going}
use Rattle.running.specs.Steps.{is_open, Ran, HasReplied}

-- all turns were made and the call is still open, or it was answered within them
abbrev pub HasProgressed : Progress → ℕ → View → View → Type 0
HasProgressed (Done reply) turns old new = (n : ℕ) × (n ≤ turns) × Ran n old new × HasReplied reply new
HasProgressed Going turns old new = Ran turns old new × IsTrue (is_open new)

-- fewer turns were made, and the call is still open
pub record HasStopped (turns : ℕ) (old new : View) : Type 0 where
  pub made : ℕ
  pub fewer : made < turns
  pub ran : Ran made old new
  pub still : IsTrue (is_open new)
