-- What a terminal shows after an answer.
use Rattle.std.specs.Prelude.{ℕ, nat_lt, if◌then◌else◌, List, [], ◌++◌, length, codes}
use Rattle.events.specs.declared.event.Event.{Event}
use Rattle.events.specs.Operations.{operations}
use Rattle.cli_outcome.specs.declared.outcome.Answer.{Answer}
use Rattle.cli_outcome.specs.declared.outcome.Answer.TheVariants.{Yes, No, Undecided}
use Rattle.cli_outcome.specs.Lines.{line}
use Rattle.cli_outcome.specs.Averages.{hundredths, average_text}
use Rattle.cli_outcome.specs.Overlaps.{overlap_of}

-- the hint that few other calls were open at an invocation, on average
abbrev pub rare_hint : ℕ → ℕ → List ℕ
rare_hint calls overlap =
    line (codes "note: " ++ average_text calls overlap
    ++ codes " other calls were open at an invocation on average, and of calls that hardly overlap a yes says little")

-- the hint on a yes, for this many calls with this much overlap in all. There is one if there are
-- at least two calls, and their overlap is less than a tenth on average
abbrev pub yes_hint : ℕ → ℕ → List ℕ
yes_hint calls overlap =
    if nat_lt calls 2 then [] else if nat_lt (hundredths calls overlap) 10 then rare_hint calls overlap else []

-- the hints on a no, and on an undecided
abbrev pub no_hint : List ℕ
no_hint = line (codes "note: bench explain names a few of the calls that have no order on their own")

abbrev pub undecided_hint : List ℕ
undecided_hint = line (codes "note: bench locate may decide it")

-- the hint on a verdict on events
abbrev pub verdict_hint : Answer → List Event → List ℕ
verdict_hint Yes events = yes_hint (length (operations events)) (overlap_of events)
verdict_hint No events = no_hint
verdict_hint Undecided events = undecided_hint
