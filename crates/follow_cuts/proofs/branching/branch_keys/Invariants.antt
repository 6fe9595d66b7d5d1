use Rattle.std.specs.Prelude.{Contains}
use Rattle.follow_cuts.proofs.branching.branch_keys.Given as goal

-- the first key is among them
abbrev pub invariant-loop : goal.invariant-loop
invariant-loop l = Contains l.keys.items l.first
