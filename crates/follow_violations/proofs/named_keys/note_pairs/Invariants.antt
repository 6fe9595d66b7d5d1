use Rattle.follow_violations.proofs.Common.{AreAdded, GivesDiffering, take}
use Rattle.follow_violations.proofs.named_keys.note_pairs.Given as goal

-- the keys of the pairs so far at which the maps differ
abbrev pub invariant-loop-pair : goal.invariant-loop-pair
invariant-loop-pair l = AreAdded (GivesDiffering l.map l.other l.low l.high) (take l.pair-index l.pairs) l.initial.keys.items l.keys.items
