-- No line feed so far.
use Rattle.stream_text.proofs.Common.{take, HasNoLineFeed}
use Rattle.stream_text.proofs.feeds.first_line_feed.Given as goal

abbrev pub invariant-loop-place : goal.invariant-loop-place
invariant-loop-place l = HasNoLineFeed (take l.place l.bytes)
