use Rattle.std.proofs.Common.{◌≡◌, take}
use Rattle.explain_locate.proofs.beginning.copies_of.Given as goal

-- copies of those so far
abbrev pub invariant-loop-event : goal.invariant-loop-event
invariant-loop-event l = l.copies.items ≡ take l.event-index l.events
