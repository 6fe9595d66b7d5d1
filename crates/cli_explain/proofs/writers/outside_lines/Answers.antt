use Rattle.cli_explain.proofs.Common.{◌≡◌, ℕ, List, string_bytes, ◌∙◌, IfOk-weaker, Event, Operation, HistoryView, operations, Contents, origin_lines}
use Rattle.cli_explain.proofs.Common.{AreOriginLines}
use Rattle.explain_reads_from.specs.External.{AreExternal}
use Rattle.cli_explain.proofs.writers.outside_lines.Goals as goal

-- the lines of these pairs, given a map, events and calls that are those of the history
lines_from : (history : HistoryView) (here start whole : Contents) (few calls : List Operation) (events : List Event)
    (pairs those : List (ℕ × ℕ)) (bytes : List ℕ) → here ≡ start → whole ≡ history.start → events ≡ history.events
    → calls ≡ operations history.events → those ≡ pairs → AreExternal here few pairs → bytes ≡ origin_lines whole events calls those
    → AreOriginLines history start few bytes
lines_from history here start whole few calls events pairs those bytes here_is whole_is events_are calls_are those_are external is = record {
  pairs = pairs;
  external = rw here_is at external;
  bytes_are =
      is ∙ (λ j. origin_lines (whole_is j) (events_are j) (calls_are j) (those_are j));
}

pub returns : goal.returns
returns c =
    IfOk-weaker c.origin_lines.result _ _
    (λ text. lines_from c.args.history.now c.in_ok-here.here c.args.start.now c.in_ok-whole.whole c.args.few.now c.calls.result.now
    c.events.result.now c.in_ok-pairs.pairs.items c.deref.result.now (string_bytes text) c.in_ok-here.ensures
    (c.in_ok-whole.ensures ∙ c.start.ensures.start) c.events.ensures.events c.calls.ensures.calls c.deref.ensures.value c.in_ok-pairs.ensures)
    c.origin_lines.ensures
