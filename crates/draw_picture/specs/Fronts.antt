-- How far an order gets if there is none, or if none was found.
use Rattle.std.specs.Prelude.{◌≡◌, ℕ, List, []}
use Rattle.search.specs.LongestFront.{IsLongestFront}
use Rattle.judge.specs.declared.verdict.Verdict.{Verdict}
use Rattle.judge.specs.declared.verdict.Verdict.TheVariants as verdicts

-- the front that is marked for a verdict: the longest one of the named segment that a search at the
-- budget meets; none for a yes
abbrev pub IsFrontShown : ℕ → Verdict → List ℕ → Type 0
IsFrontShown budget (verdicts.Yes order) front = front ≡ []
IsFrontShown budget (verdicts.No segment) front = IsLongestFront budget segment front
IsFrontShown budget (verdicts.Undecided segment) front = IsLongestFront budget segment front
