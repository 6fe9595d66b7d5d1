use Rattle.follow_fronts.proofs.Common.{◌∷◌, [], sym, subst, Contains, Contains-append_left, places}
use Rattle.follow_fronts.proofs.guessing.try_after.Goals as goal

pub returns-clause-below : goal.returns-clause-below
returns-clause-below c = λ n lt done.
    let path = places c.args.front.now.levels.items in
    subst (λ xs. Contains xs n) (sym c.in_ok-push.ensures.places) (Contains-append_left path (c.args.place ∷ []) n (c.requires.below n lt done))
