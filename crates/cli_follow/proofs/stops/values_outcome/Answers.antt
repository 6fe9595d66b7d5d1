use Rattle.cli_follow.proofs.Common.{List, ℕ, [], ◌∷◌, ◌++◌, sym, ◌∙◌, subst, as_event, SpellsEvent, BeginsWith}
use Rattle.cli_follow.proofs.stops.values_outcome.Goals as goal

pub returns-in-Ok : goal.returns-in-Ok
returns-in-Ok c = λ budget known read f followed count spelled stops begins.
    let e = as_event c.args.event.now in
    let is = sym (c.as_bytes.ensures.value ∙ c.in-Ok.ensures) in
    c.stop_outcome.ensures budget known read f e followed count
    (subst (λ (line : List ℕ). SpellsEvent f.version line e) is spelled) stops
    (subst (λ (line : List ℕ). BeginsWith known (read ++ line ∷ [])) is begins)
