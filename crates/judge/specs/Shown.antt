-- What each verdict says of a history.
use Rattle.std.specs.Prelude.{ℕ, List}
use Rattle.events.specs.declared.operation.Operation.{Operation}
use Rattle.map_object.specs.MapObject.{Contents}
use Rattle.judge.specs.declared.verdict.Verdict.{Verdict}
use Rattle.judge.specs.declared.verdict.Verdict.TheVariants.{Yes, No, Undecided}
use Rattle.judge.specs.Shows.{ShowsYes, ShowsNo, ShowsUndecided}

-- what the verdict says of the calls is true
abbrev pub IsShown : Contents → ℕ → List Operation → Verdict → Type 0
IsShown start budget calls (Yes order) = ShowsYes start calls order.items
IsShown start budget calls (No segment) = ShowsNo start budget calls segment
IsShown start budget calls (Undecided segment) = ShowsUndecided start budget calls segment
