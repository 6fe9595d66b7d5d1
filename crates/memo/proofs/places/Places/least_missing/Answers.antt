use Rattle.memo.proofs.Common.{ℕ, List, subst, sym, inl, Contains}
use Rattle.memo.proofs.WordLemmas.{Contains-places_of, least-not_among}
use Rattle.memo.proofs.places.Places.least_missing.Goals as goal

pub returns-clause-below : goal.returns-clause-below
returns-clause-below c n low =
    subst (λ (places : List ℕ). Contains places n) c.self.view_is
    ((Contains-places_of c.self.inside.least c.self.inside.words.items n).1 (inl low))

pub returns-clause-missing : goal.returns-clause-missing
returns-clause-missing c h =
    least-not_among c.self.inside.least c.self.inside.words.items
    ((Contains-places_of c.self.inside.least c.self.inside.words.items c.self.inside.least).0
    (subst (λ (places : List ℕ). Contains places c.self.inside.least) (sym c.self.view_is) h))
