use Rattle.follow_violations.proofs.Common.{kept_of, AreAdded, NamesIn, ◌<◌, take, AllPairs}
use Rattle.follow_violations.proofs.named_keys.with_named.Given as goal

-- the keys that are named in the pasts so far
abbrev pub invariant-loop-past : goal.invariant-loop-past
invariant-loop-past l = record {
  rising : AllPairs (λ a b. a < b) l.all.items;
  so_far : AreAdded (λ past. NamesIn (kept_of past)) (take l.past-index l.pasts) l.initial.all.items l.all.items;
}
