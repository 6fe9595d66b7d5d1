use Rattle.follow_cuts.proofs.Common.{List, sym, ◌∙◌, subst, arith, Contains, Found}
use Rattle.follow_cuts.proofs.position.are_alike.Goals as goal

pub returns : goal.returns
returns c = λ is. record {
  base = omega arith;
  taken = sym c.deref.ensures.value ∙ (c.have_same_marks.ensures c.if-not-have_same_marks.false ∙ c.deref-2.ensures.value);
  pairs = c.have_same_pairs.ensures.0 c.if-not-have_same_pairs.false;
  found = λ f.
      let both = c.have_same_found.ensures.0 is f in (
        λ h. subst (λ (l : List Found). Contains l f) c.deref-4.ensures.value
            (both.0 (subst (λ (l : List Found). Contains l f) (sym c.deref-3.ensures.value) h)),
        λ h. subst (λ (l : List Found). Contains l f) c.deref-3.ensures.value
            (both.1 (subst (λ (l : List Found). Contains l f) (sym c.deref-4.ensures.value) h)),
      );
}
