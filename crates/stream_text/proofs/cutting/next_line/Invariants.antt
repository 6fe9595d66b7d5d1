-- What was looked at has no line feed, and the bytes at hand come before those that the source
-- still has.
use Rattle.stream_text.proofs.Common.{◌≡◌, ◌-◌, ◌≤◌, [], length, take, Keeps, prepend_known, HasNoLineFeed}
use Rattle.stream_text.proofs.cutting.next_line.Given as goal

abbrev pub invariant-loop-more : goal.invariant-loop-more
invariant-loop-more g l = record {
  seen : l.seen ≤ length l.buffer.bytes;
  whole : HasNoLineFeed (take l.seen l.buffer.bytes);
  no_line : l.buffer.line ≡ [];
  kept : Keeps (prepend_known l.fn.buffer.bytes (g.S.Source.remaining l.fn.source))
      (prepend_known l.buffer.bytes (g.S.Source.remaining l.source));
  counted : g.S.Source.failures l.source ≡ g.S.Source.failures l.fn.source;
}

abbrev pub decreases-loop-more : goal.decreases-loop-more
decreases-loop-more g l = 1048577 - length l.buffer.bytes
