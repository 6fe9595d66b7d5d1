-- The laws of the moments of reads, for processes that have come to their end.
use Rattle.running.proofs.Common.{ℕ, List, [], opening, opened, Gives, HasFewSteps, IsRun, Setup, View, plan_of, state_of, Ended, ◌≡◌, ⊎_elim, subst}
use Rattle.running.proofs.Common.{sym, HistoryView, with_no_start, history_of}
use Rattle.art_schedules.specs.moments.Reads.{RunsHaveMomentsOfScans, RunsHaveMomentsOfGets}
use Rattle.running.specs.ReadMoments.{ScansHaveMoments, GetsHaveMoments}
use Rattle.running.specs.Linearizable.{IsLinearizableIn}
use Rattle.orders.specs.Orders.{IsLinearizableHistory}
use Rattle.art_core.specs.Claims.{CoupledIsLinearizable, OptimisticIsLinearizable}

-- any schedule that gives them is a run
given-run : (setup : Setup) (v : View) → Ended setup v → (words schedule : List ℕ)
    → Gives (plan_of setup v) (opened (plan_of setup v)) schedule (state_of words v) → HasFewSteps (state_of words v)
    → IsRun (plan_of setup v) [] (opening setup.shape) schedule (state_of words v)
given-run setup v e words schedule gives few =
    let r = e.run few in
    record { within = r.within; start_within = r.start_within; starts = r.starts; gives = gives; few_steps = few }

pub scans-have-moments : RunsHaveMomentsOfScans → (setup : Setup) (v : View) → Ended setup v → ScansHaveMoments setup v
scans-have-moments law setup v e is words schedule gives few =
    law (plan_of setup v) [] (opening setup.shape) schedule (state_of words v) (given-run setup v e words schedule gives few) is

pub gets-have-moments : RunsHaveMomentsOfGets → (setup : Setup) (v : View) → Ended setup v → GetsHaveMoments setup v
gets-have-moments law setup v e is words schedule gives few =
    law (plan_of setup v) [] (opening setup.shape) schedule (state_of words v) (given-run setup v e words schedule gives few) is

-- the history of a full tree is linearizable
pub is-linearizable : CoupledIsLinearizable → OptimisticIsLinearizable → (setup : Setup) (v : View) → (e : Ended setup v)
    → (h : HistoryView)
    → h ≡ with_no_start (history_of (state_of e.words v)) → IsLinearizableIn setup v h
is-linearizable coupled optimistic setup v e h same full few =
    let run = given-run setup v e e.words e.schedule e.gives (few e.words) in
    subst IsLinearizableHistory (sym same)
    (⊎_elim (λ is. coupled (plan_of setup v) [] (opening setup.shape) e.schedule (state_of e.words v) run is)
    (λ is. optimistic (plan_of setup v) [] (opening setup.shape) e.schedule (state_of e.words v) run is) full)
