use Rattle.memo.proofs.Common.{◌∙◌, sym, ap, subst, places_of, ArePlaces}
use Rattle.memo.proofs.WordLemmas.{ArePlaces-none, places_of-none}
use Rattle.memo.proofs.places.Places.new.Goals as goal

pub invariant_of-result : goal.invariant_of-result
invariant_of-result c = subst (ArePlaces 0) (sym c.new.ensures.items) ArePlaces-none

pub returns : goal.returns
returns c = ap (places_of 0) c.new.ensures.items ∙ places_of-none
