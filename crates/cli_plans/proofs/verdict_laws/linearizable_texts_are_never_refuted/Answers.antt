use Rattle.cli_plans.proofs.Common.{subst, sym, operations, IsLinearizableHistory, Verdict, Yes, No, Undecided, IsShown, IsNoRefutation}
use Rattle.cli_plans.proofs.verdict_laws.linearizable_texts_are_never_refuted.Goals as goal

pub returns : goal.returns
returns c budget text report history verdict spells order judged = go verdict judged.shown
  where
    go : (v : Verdict) → IsShown judged.history.start budget (operations judged.history.events) v → IsNoRefutation v
    go (Yes list) shows = tt
    go (No segment) shows =
        shows.no_order (subst IsLinearizableHistory (sym (c.one_history.ensures text judged.history history judged.spelled spells)) order)
    go (Undecided segment) shows = tt
