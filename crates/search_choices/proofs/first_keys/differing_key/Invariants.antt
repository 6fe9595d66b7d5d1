use Rattle.std.specs.Prelude.{⊤}
use Rattle.search_choices.proofs.first_keys.differing_key.Given as goal

abbrev pub invariant-loop-key : goal.invariant-loop-key
invariant-loop-key l = ⊤
