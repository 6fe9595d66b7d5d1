use Rattle.search_choices.proofs.Common.{false, sym, ◌∙◌, get_or_default, has_number-Contains, has_number-from_Contains, places}
use Rattle.search_choices.proofs.idle.is_taken.Goals as goal

pub returns : goal.returns
returns c =
    let path = places c.args.standing.now.levels.items in
    let marked = c.index.ensures
    ∙ get_or_default c.args.standing.now.taken.items c.args.place c.index.result.now false c.requires.known ∙ c.requires.marks in
    (λ yes. has_number-Contains path c.args.place (sym marked ∙ yes), λ h. marked ∙ has_number-from_Contains path c.args.place h)
