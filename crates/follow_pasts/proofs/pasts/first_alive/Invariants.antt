use Rattle.follow_pasts.proofs.Common.{List, ◌∷◌, ◌++◌, map, length, All, Contains, Operation, Contents, IsAnswer, AreShaped, found_at, kept_of, lefts}
use Rattle.follow_pasts.proofs.Common.{lefts_of_kept}
use Rattle.follow_pasts.proofs.AnsweringLemmas.{SearchesOn}
use Rattle.follow_pasts.proofs.pasts.first_alive.Given as goal

-- the pasts before this one were tried, and are dead
abbrev pub invariant-loop-kept : goal.invariant-loop-kept
invariant-loop-kept l = record {
  shaped : AreShaped l.others.items;
  goes : (pairs : Contents) (calls : List Operation) → IsAnswer pairs calls l.budget l.fn.kept
      → SearchesOn l.budget (record { pairs = pairs; left = calls; found = map found_at l.fn.found.items } ∷ map kept_of l.fn.others.items)
      l.tried.items l.kept l.found.items l.others.items;
  within : All (Contains (lefts_of_kept l.fn.kept ++ lefts l.fn.others.items)) (lefts_of_kept l.kept ++ lefts l.others.items);
}

-- the pasts that are left
abbrev pub decreases-loop-kept : goal.decreases-loop-kept
decreases-loop-kept l = length l.others.items
