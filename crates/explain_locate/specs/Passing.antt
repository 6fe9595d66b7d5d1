-- What an event makes of the pass of a history's events.
use Rattle.std.specs.Prelude.{ℕ, ◌+◌, take}
use Rattle.events.specs.HistoryView.{HistoryView}
use Rattle.follow_monitor.specs.Following.{IsFollowing}
use Rattle.explain_locate.specs.declared.passing.Passed.{Passed}
use Rattle.explain_locate.specs.declared.passing.Passed.TheVariants.{Going, Ended}
use Rattle.explain_locate.specs.Locations.{IsLocated}

-- a monitor has taken the events up to the one at this place; or a location of the history is known
abbrev pub IsPassed : ℕ → HistoryView → ℕ → Passed → Type 0
IsPassed budget history place (Going m) = IsFollowing history.start (take (place + 1) history.events) m
IsPassed budget history place (Ended location) = IsLocated budget history location
