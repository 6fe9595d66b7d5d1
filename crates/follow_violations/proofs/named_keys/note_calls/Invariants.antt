use Rattle.follow_violations.proofs.Common.{AreAdded, Names, take}
use Rattle.follow_violations.proofs.named_keys.note_calls.Given as goal

-- the keys that the calls so far name
abbrev pub invariant-loop-call : goal.invariant-loop-call
invariant-loop-call l = AreAdded (Names l.map) (take l.call-index l.calls) l.initial.keys.items l.keys.items
