use Rattle.explain_locate.proofs.Common.{List, length, sym, subst, Event, IsLostBetween}
use Rattle.explain_locate.proofs.BisectionLemmas.{lost_in_whole}
use Rattle.explain_locate.proofs.judging.locate_refuted.Goals as goal

pub bisect-requires-clause-lost : goal.bisect-requires-clause-lost
bisect-requires-clause-lost c =
    let history = c.args.history.now in
    subst (λ (events : List Event). IsLostBetween history 0 (length events)) (sym c.events.ensures.events) (lost_in_whole history c.requires.none)
