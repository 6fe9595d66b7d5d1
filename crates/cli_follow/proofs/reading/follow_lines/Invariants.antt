-- So many lines were read, and are followed; the others are to come.
use Rattle.cli_follow.proofs.Common.{◌≡◌, ℕ, List, length, prepend_known, IsFollowed, HasRead}
use Rattle.cli_follow.proofs.reading.follow_lines.Given as goal

abbrev pub invariant-loop-before : goal.invariant-loop-before
invariant-loop-before g l =
    (g.S.Source.failures l.source ≡ g.S.Source.failures l.fn.source)
    × ((read : List (List ℕ)) × (length read ≡ l.before) × IsFollowed read l.followed
    × HasRead (g.S.Source.remaining l.fn.source) read (prepend_known l.buffer.bytes (g.S.Source.remaining l.source)))
