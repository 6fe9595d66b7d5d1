use Rattle.std.specs.Prelude.{⊤}
use Rattle.search_choices.proofs.first_keys.unlisted_key.Given as goal

abbrev pub invariant-loop-pair : goal.invariant-loop-pair
invariant-loop-pair l = ⊤
