use Rattle.std.proofs.Common.{◌≡◌}
use Rattle.follow_cuts.proofs.WalkLemmas.{IsOnTheWay}
use Rattle.follow_cuts.proofs.levels.go_on.Given as goal

-- the walk has gone on by reads alone
abbrev pub invariant-loop : goal.invariant-loop
invariant-loop l = record {
  way : IsOnTheWay l.pasts l.moment l.fn.position l.position;
  next : l.next.items ≡ l.fn.next.items;
  ended : l.ended.items ≡ l.fn.ended.items;
}
