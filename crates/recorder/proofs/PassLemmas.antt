-- The draws of a pass, and a process that none of the passes is of.
use Rattle.recorder.proofs.Common.{◌≡◌, ◌≢◌, ℕ, ◌*◌, List, map, length, ap, arith, All, Contains, length-map, All-contains, Contains-from_map, Pass}
use Rattle.recorder.proofs.Common.{process_number, calls_of, draws_of}

module _ (p : Pass) where
  -- a pass has two draws for each of its calls
  pub draws-are : draws_of p ≡ 2 * calls_of p
  draws-are = omega (arith, ap (λ stamps. length stamps) p.stamps, length-map p.log.items (λ e. e.0), p.draws)

-- none of the passes is of the process
pub none-here : (q : ℕ) (passes : List Pass) → All (λ p. process_number p ≢ q) passes → Contains (map process_number passes) q → ⊥
none-here q passes h there = let one = Contains-from_map process_number passes q there in All-contains (λ p. process_number p ≢ q) passes
    one.0 h one.1 one.2
