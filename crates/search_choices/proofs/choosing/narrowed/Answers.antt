use Rattle.search_choices.proofs.Common.{subst, AreNextOfOne, places}
use Rattle.search_choices.proofs.FirstKeyLemmas.{few_choices}
use Rattle.search_choices.proofs.choosing.narrowed.Goals as goal

pub returns-clause-choices : goal.returns-clause-choices
returns-clause-choices g c =
    let calls = c.args.calls.now in
    let path = places c.args.standing.now.levels.items in
    let few = c.in_ok-few.few.items in
    let stands = c.requires.1.1.1.1.0 in
    let first = rw c.in-Some.is at c.in_ok-keys.ensures in
    few_choices g.start calls path c.args.answered c.in-Some.keys.items few c.args.standing.now.map c.requires.1.1.1.0 c.requires.1.0
    c.requires.1.1.1.1.1.0 stands.holds first
    (subst (λ keys. AreNextOfOne g.start calls path keys few) c.deref.ensures.value c.in_ok-few.ensures.choices)
