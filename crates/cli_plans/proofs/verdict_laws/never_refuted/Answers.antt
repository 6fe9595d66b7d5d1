use Rattle.cli_plans.proofs.Common.{⊎_elim, operations, IsLinearizable, Verdict, Yes, No, Undecided, IsShown, IsNoRefutation}
use Rattle.art_core.specs.Core.{history_of}
use Rattle.cli_plans.proofs.verdict_laws.never_refuted.Goals as goal

pub returns : goal.returns
returns c plan start words schedule s run full budget verdict shown = go verdict shown
  where
    order : IsLinearizable start (operations (history_of s))
    order =
        ⊎_elim (λ is. c.coupled_is_linearizable.ensures plan start words schedule s run is)
        (λ is. c.optimistic_is_linearizable.ensures plan start words schedule s run is) full

    go : (v : Verdict) → IsShown start budget (operations (history_of s)) v → IsNoRefutation v
    go (Yes list) shows = tt
    go (No segment) shows = shows.no_order order
    go (Undecided segment) shows = tt
