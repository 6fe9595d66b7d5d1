use Rattle.follow_fronts.proofs.Common.{false, sym, ◌∙◌, get_or_default, places}
use Rattle.events.proofs.NumberLemmas.{has_number-Contains, has_number-from_Contains}
use Rattle.follow_fronts.proofs.front.Front.has.Goals as goal

pub returns : goal.returns
returns c =
    let path = places c.args.self.now.levels.items in
    let marked = c.index.ensures
    ∙ get_or_default c.args.self.now.taken.items c.args.place c.index.result.now false c.requires.known ∙ c.requires.marks in
    (λ yes. has_number-Contains path c.args.place (sym marked ∙ yes), λ h. marked ∙ has_number-from_Contains path c.args.place h)
