use Rattle.explain_locate.proofs.Common.{sym, subst, inl, operations, IsYes, IsNo, IsUndecided}
use Rattle.explain_locate.proofs.BisectionLemmas.{judged_whole, shown_no, shown_yes}
use Rattle.explain_locate.proofs.judging.locate_from.Goals as goal

pub returns-in-Yes : goal.returns-in-Yes
returns-in-Yes c =
    let history = c.args.history.now in
    shown_yes c.args.budget history.start (operations history.events) c.args.verdict.now (subst IsYes (sym c.in-Yes.is) tt) c.requires.shown

pub locate_refuted-requires-clause-refuted : goal.locate_refuted-requires-clause-refuted
locate_refuted-requires-clause-refuted c =
    judged_whole IsNo c.args.budget c.args.history.now c.args.verdict.now (subst IsNo (sym c.in-No.is) tt) c.requires.exact

pub locate_refuted-requires-clause-none : goal.locate_refuted-requires-clause-none
locate_refuted-requires-clause-none c =
    let history = c.args.history.now in
    shown_no c.args.budget history.start (operations history.events) c.args.verdict.now (subst IsNo (sym c.in-No.is) tt) c.requires.shown

pub follow-requires : goal.follow-requires
follow-requires c =
    inl (judged_whole IsUndecided c.args.budget c.args.history.now c.args.verdict.now (subst IsUndecided (sym c.in-Undecided.is) tt)
    c.requires.exact)
