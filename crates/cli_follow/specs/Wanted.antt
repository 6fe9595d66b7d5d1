-- What was expected instead of a line that is refused, as the program says it.
use Rattle.std.specs.Prelude.{ℕ, List, [], codes}
use Rattle.stream_text.specs.declared.line_fault.LineFault.{LineFault}
use Rattle.stream_text.specs.declared.line_fault.LineFault.TheVariants as lines
use Rattle.follow_monitor.specs.declared.fault.FollowFault.{FollowFault}
use Rattle.follow_monitor.specs.declared.fault.FollowFault.TheVariants as turns
use Rattle.cli_outcome.specs.Wanted.{json_expected, event_expected, order_expected, pair_expected}

abbrev pub too_many_expected : List ℕ
too_many_expected = codes "processes from 0 to 65535, and at most 17592186044414 events"

-- for a first line that is a history
abbrev pub history_elsewhere : List ℕ
history_elsewhere = codes "an event in a line of its own; bench judge and bench locate read histories"

-- for the fault of a line
abbrev pub line_expected : LineFault → List ℕ
line_expected lines.TooLong = codes "at most 1048576 bytes"
line_expected lines.NotJson = json_expected
line_expected lines.Version = codes "{\"version\":V,\"start\":[..]}; V is 2 or 3"
line_expected lines.Shape = event_expected
line_expected lines.TooMany = too_many_expected
line_expected lines.Memory = []
line_expected (lines.Start pair) = pair_expected

-- for the fault of an event after others
abbrev pub order_expected_for : FollowFault → List ℕ
order_expected_for turns.Shape = event_expected
order_expected_for turns.NotWellFormed = order_expected
order_expected_for turns.TooMany = too_many_expected
order_expected_for turns.Memory = []
