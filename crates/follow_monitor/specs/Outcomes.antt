-- What becomes of a monitor when a call is answered.
use Rattle.std.specs.Prelude.{◌≡◌, ◌≢◌, ℕ, suc, false, List, [], ◌∷◌, ◌++◌, length, All, None, Some}
use Rattle.events.specs.declared.event.Event.{Event}
use Rattle.events.specs.declared.event.Event.TheVariants.{Answer}
use Rattle.events.specs.declared.event.Reply.{Reply}
use Rattle.events.specs.Keys.{may_change}
use Rattle.events.specs.Operations.{operations}
use Rattle.map_object.specs.MapObject.{Contents}
use Rattle.orders.specs.Orders.{IsLinearizable}
use Rattle.follow_violations.specs.declared.loss.Violation.{Violation}
use Rattle.follow_monitor.specs.Prefixes.{GoesWrongAt, IsAnswerOf}
use Rattle.follow_laws.specs.KeptReached.{IsReached}
use Rattle.follow_pasts.specs.Pasts.{IsDead, AreDoubtful}
use Rattle.follow_pasts.specs.Ranges.{covered}
use Rattle.follow_parts.specs.Keeping.{begun, IsEndedBy, IsKeptBeside, pasts_of, response_at}
use Rattle.follow_monitor.specs.Calls.{MayReply}
use Rattle.follow_monitor.specs.Faults.{answer_fault}
use Rattle.follow_monitor.specs.Puts.{ArePutsOf}
use Rattle.follow_monitor.specs.MonitorView.{MonitorView}
use Rattle.follow_monitor.specs.Following.{IsFollowing, IsCallOf}
use Rattle.follow_monitor.specs.declared.answered.Answered.{Answered}
use Rattle.follow_monitor.specs.declared.answered.Answered.TheVariants.{Going, Lost, Spent, Refused}
use Rattle.follow_monitor.specs.declared.open_calls.OpenCall.{OpenCall}

-- the answer of the open call of a process: after these events, by the call's number, whatever it replies and whatever follows
pub record IsOfAnswer (events : List Event) (process : ℕ) (loss : Violation) : Type 0 where
  pub event_is : loss.event ≡ length events
  pub known : OpenCall
  pub is_call : IsCallOf events process known
  pub number_is : loss.number ≡ known.number
  pub call_is : loss.call ≡ known.call
  pub answers : (reply : Reply) (more : List Event) → IsAnswerOf (events ++ Answer process reply ∷ more) loss.number loss.event

-- a part with the answer and other parts represent the calls
abbrev pub IsKeptWith : Contents → List Event → ℕ → Reply → Violation → Type 0
IsKeptWith start events process reply loss =
    IsKeptBeside start (suc (length events)) (operations (events ++ Answer process reply ∷ [])) loss.part

-- The events go wrong at this answer, whatever follows. There is no past if no map answers the call so. Else the part with the answer has no
-- past with an order, and its pasts are those from before with the answer in each (`IsEndedBy`). If the call is a read, there is at least one.
-- Each past is reached: some of the calls have a legal order that leaves the values that it has at the part's keys.
pub record IsLost (start : Contents) (events : List Event) (process : ℕ) (reply : Reply) (loss : Violation) : Type 0 where
  pub accepted : answer_fault events process ≡ None
  pub of_answer : IsOfAnswer events process loss
  pub part : MayReply loss.call reply → IsKeptWith start events process reply loss × All IsDead (pasts_of loss.part)
  pub none : (MayReply loss.call reply → ⊥) → loss.part.pasts.items ≡ []
  pub before : MayReply loss.call reply
      → IsEndedBy start (length events) (operations events) (begun of_answer.known.call of_answer.known.event) (response_at reply (length events))
      loss.part
  pub some : may_change loss.call ≡ false → MayReply loss.call reply → loss.part.pasts.items ≢ []
  pub reached : MayReply loss.call reply
      → All (IsReached start (operations (events ++ Answer process reply ∷ [])) (covered loss.part.ranges.items)) (pasts_of loss.part)
  pub puts : ArePutsOf (operations (events ++ Answer process reply ∷ [])) loss.puts.items
  pub wrong : (more : List Event) → let all = events ++ Answer process reply ∷ more in
      (IsLinearizable start (operations all) → ⊥) × GoesWrongAt (record { start = start; events = all }) loss.number loss.event

-- It is not known whether they do. Some map answers the call so. Of the pasts of a part that is kept with the answer, the search of one is beyond the
-- budget, and those before it have no order. These pasts are those kept before with the answer in each, and each is reached, as for a no.
pub record IsSpent (start : Contents) (events : List Event) (process : ℕ) (reply : Reply) (budget : ℕ) (loss : Violation) : Type 0 where
  pub accepted : answer_fault events process ≡ None
  pub of_answer : IsOfAnswer events process loss
  pub replies : MayReply loss.call reply
  pub part : IsKeptWith start events process reply loss × AreDoubtful budget (pasts_of loss.part)
  pub before :
      IsEndedBy start (length events) (operations events) (begun of_answer.known.call of_answer.known.event) (response_at reply (length events)) loss.part
  pub reached : All (IsReached start (operations (events ++ Answer process reply ∷ [])) (covered loss.part.ranges.items)) (pasts_of loss.part)
  pub puts : ArePutsOf (operations (events ++ Answer process reply ∷ [])) loss.puts.items

-- what an answer makes of the monitor
abbrev pub IsAnswered : Contents → List Event → MonitorView → ℕ → Reply → ℕ → Answered → Type 0
IsAnswered start events m process reply budget (Going next) =
    (answer_fault events process ≡ None) × IsFollowing start (events ++ Answer process reply ∷ []) next
IsAnswered start events m process reply budget (Lost loss) = IsLost start events process reply loss
IsAnswered start events m process reply budget (Spent loss) = IsSpent start events process reply budget loss
IsAnswered start events m process reply budget (Refused next fault) = (answer_fault events process ≡ Some fault) × (next ≡ m)
