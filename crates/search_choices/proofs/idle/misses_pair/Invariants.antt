use Rattle.std.specs.Prelude.{⊤}
use Rattle.search_choices.proofs.idle.misses_pair.Given as goal

abbrev pub ghost-is_missing : goal.ghost-is_missing
ghost-is_missing g a = g.start

abbrev pub invariant-loop-pair : goal.invariant-loop-pair
invariant-loop-pair g l = ⊤
