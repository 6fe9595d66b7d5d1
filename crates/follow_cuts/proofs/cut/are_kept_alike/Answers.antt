use Rattle.follow_cuts.proofs.Common.{List, map, ap, sym, ◌∙◌, subst, Contains, Operation, Found}
use Rattle.follow_cuts.proofs.MadeLemmas.{kept_alike}
use Rattle.follow_cuts.proofs.cut.are_kept_alike.Goals as goal

pub returns : goal.returns
returns c =
    λ is.
    let found = c.have_same_found.ensures.0 is in
    kept_alike c.args.one.now c.args.other.now
    (c.have_same_pairs.ensures.0 c.if-not-have_same_pairs.false)
    (ap (map (λ (o : Operation). o.inv)) (sym c.deref.ensures.value)
    ∙ (c.have_same_names.ensures c.if-not-have_same_names.false ∙ ap (map (λ (o : Operation). o.inv)) c.deref-2.ensures.value))
    (λ g h. subst (λ (l : List Found). Contains l g) c.deref-4.ensures.value
    ((found g).0 (subst (λ (l : List Found). Contains l g) (sym c.deref-3.ensures.value) h)))
    (λ g h. subst (λ (l : List Found). Contains l g) c.deref-3.ensures.value
    ((found g).1 (subst (λ (l : List Found). Contains l g) (sym c.deref-4.ensures.value) h)))
