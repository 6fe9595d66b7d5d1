use Rattle.std.proofs.Common.{◌≡◌, map, take}
use Rattle.follow_cuts.proofs.cut.have_same_names.Given as goal

-- the result is right for the calls so far
abbrev pub invariant-loop-place : goal.invariant-loop-place
invariant-loop-place l = map (λ o. o.inv) (take l.place l.one) ≡ map (λ o. o.inv) (take l.place l.other)
