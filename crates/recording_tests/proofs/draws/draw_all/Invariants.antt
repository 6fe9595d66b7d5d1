use Rattle.std.proofs.Common.{◌≡◌, ◌++◌}
use Rattle.tickets.specs.Hands.{counter, counter_of, drawn_by, left_of}
use Rattle.recording_tests.proofs.draws.draw_all.Given as goal

abbrev pub invariant-loop-numbers : goal.invariant-loop-numbers
invariant-loop-numbers l = (counter_of l.hand ≡ counter l.tickets) × (drawn_by l.hand ≡ drawn_by l.fn.hand ++ l.numbers.items)

abbrev pub decreases-loop-numbers : goal.decreases-loop-numbers
decreases-loop-numbers l = left_of l.hand
