-- What the run of a machine says, as a statement about the replay.
use Rattle.replays.proofs.Common.{◌≡◌, ℕ, List, Bool, true, false, if◌then◌else◌, Result, Ok, Err, IfOk, IfErr, arith, subst, HistoryView, Contents}
use Rattle.replays.proofs.Common.{Item, CoupledIsLinearizable, OptimisticIsLinearizable, Plan, State, opened_on, StartsOn, Machine, MachineFault}
use Rattle.replays.proofs.Common.{HasStoppedAt, ReplayView, IsReplay, plan_in, is_memory, Records, StopsAt, Plays, IsUnrecorded, IsUnplayedFor}
use Rattle.plans.specs.declared.fault.RunFault.{RunFault}
use Rattle.replays.specs.declared.fault.ReplayFault.{ReplayFault}
use Rattle.replays.proofs.LinearizableLemmas.{linearizable}
use Rattle.replays.specs.declared.fault.ReplayFault.TheVariants as faults

-- what holds of an answer may be said otherwise
pub if_ok : {A E : Type 0} {P Q : A → Type 0} (result : Result A E) → ((a : A) → P a → Q a) → IfOk result P → IfOk result Q
if_ok (Ok a) more h = more a h
if_ok (Err e) more h = tt

pub if_err : {A E : Type 0} {P Q : E → Type 0} (result : Result A E) → ((e : E) → P e → Q e) → IfErr result P → IfErr result Q
if_err (Ok a) more h = tt
if_err (Err e) more h = more e h

-- where a machine stopped
pub stops-at : (plan : Plan) (items : List Item) (first : State) (left place : ℕ) (fault : MachineFault) (m : Machine)
    → HasStoppedAt plan items first left place fault m → StopsAt plan items first left place fault
stops-at plan items first left place fault m h = record {
  item = h.item;
  is_item = h.is_item;
  between = h.between;
  earlier = h.made;
  before = h.before;
  state = h.stops.state;
  here = h.stops.made;
  turns = h.stops.turns;
  wants = h.stops.wants;
  rest = m.left;
  costs = omega (arith, h.costs, h.stops.costs);
  refused = h.stops.refused;
}

pub unrecorded : (plan : Plan) (items : List Item) (first : State) (left : ℕ) (stop : RunFault) (b : Bool) → is_memory stop.fault ≡ b
    → StopsAt plan items first left stop.item stop.fault
    → IsUnrecorded plan items first left (if b then faults.Memory else faults.Schedule stop)
unrecorded plan items first left stop true e h = tt
unrecorded plan items first left stop false e h = (e, h)

-- what the run of a schedule says is what that of the replay says
pub unplayed-run : (r : ReplayView) (words : List ℕ) (fault : ReplayFault) → StartsOn r.shape r.variant r.start words
    → IsUnrecorded (plan_in r) r.schedule (opened_on (plan_in r) words) r.limit fault → IsUnplayedFor r fault
unplayed-run r words (faults.Replay fault) starts h = absurd h
unplayed-run r words (faults.Schedule stop) starts h = (h.0, record { words = words; starts = starts; stops = h.1 })
unplayed-run r words faults.Memory starts h = tt

-- what the run of a schedule says, with the schedule, the turns and the pairs of the machine
pub plays-as : CoupledIsLinearizable → OptimisticIsLinearizable → (r : ReplayView) → IsReplay r → (words : List ℕ) (items : List Item) (left : ℕ)
    (start : Contents) (history : HistoryView) → items ≡ r.schedule → left ≡ r.limit
    → start ≡ r.start → StartsOn r.shape r.variant r.start words
    → Records (plan_in r) items (opened_on (plan_in r) words) left start history → Plays r history
plays-as coupled optimistic r within words items left start history same_items same_left same_start starts h = record {
  words = words;
  starts = starts;
  records = recorded;
  linearizable = linearizable r words history within starts recorded coupled optimistic;
}
  where
    recorded : Records (plan_in r) r.schedule (opened_on (plan_in r) words) r.limit r.start history
    recorded = subst (λ (p : Contents). Records (plan_in r) r.schedule (opened_on (plan_in r) words) r.limit p history) same_start
        (subst (λ (n : ℕ). Records (plan_in r) r.schedule (opened_on (plan_in r) words) n start history) same_left
        (subst (λ (is : List Item). Records (plan_in r) is (opened_on (plan_in r) words) left start history) same_items h))

pub unplayed-as : (r : ReplayView) (words : List ℕ) (items : List Item) (left : ℕ) (fault : ReplayFault)
    → items ≡ r.schedule → left ≡ r.limit
    → StartsOn r.shape r.variant r.start words → IsUnrecorded (plan_in r) items (opened_on (plan_in r) words) left fault
    → IsUnplayedFor r fault
unplayed-as r words items left fault same_items same_left starts h =
    unplayed-run r words fault starts
    (subst (λ (n : ℕ). IsUnrecorded (plan_in r) r.schedule (opened_on (plan_in r) words) n fault) same_left
    (subst (λ (is : List Item). IsUnrecorded (plan_in r) is (opened_on (plan_in r) words) left fault) same_items h))
