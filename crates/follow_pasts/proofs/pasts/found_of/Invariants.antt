use Rattle.std.proofs.Common.{take}
use Rattle.std.specs.Prelude.{◌≡◌, ◌≢◌, All}
use Rattle.follow_pasts.proofs.pasts.found_of.Given as goal

-- none so far is of that call and key
abbrev pub invariant-loop-one : goal.invariant-loop-one
invariant-loop-one l = All (λ f. f.inv ≡ l.inv → f.key ≢ l.key) (take l.one-index l.found)
