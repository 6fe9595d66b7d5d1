use Rattle.std.specs.Prelude.{⊤}
use Rattle.search_choices.proofs.dead.is_dead_end.Given as goal

abbrev pub ghost-is_stuck : goal.ghost-is_stuck
ghost-is_stuck g a = g.start

abbrev pub invariant-loop-place : goal.invariant-loop-place
invariant-loop-place g l = ⊤
