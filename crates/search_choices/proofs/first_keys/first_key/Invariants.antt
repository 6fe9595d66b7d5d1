use Rattle.std.specs.Prelude.{⊤}
use Rattle.search_choices.proofs.first_keys.first_key.Given as goal

abbrev pub invariant-loop-place : goal.invariant-loop-place
invariant-loop-place g l = ⊤
