use Rattle.follow_pasts.proofs.Common.{◌≡◌, ◌∷◌, map, take, kept_of, past_of}
use Rattle.follow_pasts.proofs.part.Part.pasts.Given as goal

-- the first one, and the others so far
abbrev pub invariant-loop-other : goal.invariant-loop-other
invariant-loop-other l =
    map kept_of l.pasts.items ≡ past_of l.self.first l.self.found.items ∷ map kept_of (take l.other-index l.other-items)
