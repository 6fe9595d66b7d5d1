use Rattle.follow_repairs.proofs.Common.{◌≡◌, places, Stands, HasBelow}
use Rattle.follow_repairs.proofs.chains.follow_chains.Given as goal

abbrev pub invariant-loop : goal.invariant-loop
invariant-loop l =
    Stands l.calls l.front × (l.front.start ≡ l.initial.front.start) × HasBelow l.calls (places l.front.levels.items) l.from
