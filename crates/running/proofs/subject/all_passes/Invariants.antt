use Rattle.running.proofs.Common.{◌≡◌, ◌++◌, map, Ok, into_iter_items}
use Rattle.running.proofs.subject.all_passes.Given as goal

abbrev pub invariant-loop-pass : goal.invariant-loop-pass
invariant-loop-pass l = map (λ pass. Ok pass) l.passes.items ++ into_iter_items l.pass-iterator ≡ l.fn.done.items
