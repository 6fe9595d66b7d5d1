use Rattle.follow_violations.proofs.Common.{kept_of, origin_in, take}
use Rattle.follow_violations.proofs.WriterLemmas.{AreEachOnce}
use Rattle.follow_violations.proofs.writers.origins_in.Given as goal

-- the values in the pasts so far, each once
abbrev pub invariant-loop-past : goal.invariant-loop-past
invariant-loop-past l = AreEachOnce (λ past. origin_in l.own l.key (kept_of past)) (take l.past-index l.pasts) l.from.items
