use Rattle.memo.proofs.Common.{◌∙◌, ap, sym, subst, places_of, IsTrimmed}
use Rattle.memo.proofs.places.Places.words.Goals as goal

pub returns-clause-form : goal.returns-clause-form
returns-clause-form c =
    (c.self.inside.least, ap (places_of c.self.inside.least) c.deref.ensures.value ∙ c.self.view_is)

pub returns-clause-trimmed : goal.returns-clause-trimmed
returns-clause-trimmed c = subst IsTrimmed (sym c.deref.ensures.value) c.self.invariant.trimmed
