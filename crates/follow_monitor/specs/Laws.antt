-- Laws of what is said where a stream goes wrong.
use Rattle.std.specs.Prelude.{◌≡◌, ℕ, suc, true, false, List, [], ◌∷◌, ◌++◌, length, All, Any, Some}
use Rattle.events.specs.declared.event.Call.TheVariants.{Get}
use Rattle.events.specs.declared.event.Event.{Event}
use Rattle.events.specs.declared.event.Event.TheVariants.{Answer, Invoke}
use Rattle.events.specs.declared.event.Reply.{Reply}
use Rattle.events.specs.declared.operation.Operation.{Operation}
use Rattle.events.specs.Events.{IsWellFormed}
use Rattle.events.specs.HistoryFaults.{has_open_call}
use Rattle.events.specs.Operations.{operations}
use Rattle.map_object.specs.MapObject.{Contents, IsRising}
use Rattle.orders.specs.Orders.{IsLinearizable}
use Rattle.follow_laws.specs.KeyedCalls.{is_refusal}
use Rattle.follow_laws.specs.KeptParts.{KeptPart, AreKept}
use Rattle.follow_pasts.specs.Ranges.{covered}
use Rattle.follow_orders.specs.Answers.{HaveNoOverlap}
use Rattle.follow_parts.specs.Keeping.{pasts_of}
use Rattle.follow_violations.specs.KeyLosses.{AreKeyLosses}
use Rattle.follow_violations.specs.Laws.{MayHave}
use Rattle.follow_violations.specs.declared.loss.Violation.{Violation}
use Rattle.follow_violations.specs.declared.lost_keys.KeyViolation.{KeyViolation}
use Rattle.follow_monitor.specs.Calls.{MayReply}
use Rattle.follow_monitor.specs.Outcomes.{IsLost, IsSpent}

-- All keys that are named are keys of a loss's part, and what is said of them may be so, with those calls left that have the key.
abbrev pub MayBeSo : Contents → List Operation → Violation → List KeyViolation → Type 0
MayBeSo start calls loss losses =
    All (λ said. (covered loss.part.ranges.items said.key ≡ true) × All (MayHave start calls said.key said.invoked.items) said.from.items) losses

-- After a no it may be so, if some map gives the call this answer.
abbrev pub LossesAreReached : Type 0
LossesAreReached =
    (start : Contents) (events : List Event) (process : ℕ) (reply : Reply) (loss : Violation) (losses : List KeyViolation) → IsRising start
    → IsLost start events process reply loss → MayReply loss.call reply
    → AreKeyLosses (Some loss.call) (pasts_of loss.part) loss.puts.items losses
    → MayBeSo start (operations (events ++ Answer process reply ∷ [])) loss losses

-- and after an undecided
abbrev pub DoubtsAreReached : Type 0
DoubtsAreReached =
    (start : Contents) (events : List Event) (process : ℕ) (reply : Reply) (budget : ℕ) (loss : Violation) (losses : List KeyViolation) → IsRising start
    → IsSpent start events process reply budget loss → AreKeyLosses (Some loss.call) (pasts_of loss.part) loss.puts.items losses
    → MayBeSo start (operations (events ++ Answer process reply ∷ [])) loss losses

-- if no two calls overlap, no answer is judged undecided, whatever the budget
abbrev pub NoDoubtWithoutOverlap : Type 0
NoDoubtWithoutOverlap =
    (start : Contents) (events : List Event) (process : ℕ) (reply : Reply) (budget : ℕ) (loss : Violation)
    → HaveNoOverlap (operations (events ++ Answer process reply ∷ [])) → IsSpent start events process reply budget loss → ⊥

-- a get of a key that begins after some events, and is answered at once
abbrev pub read_after : List Event → ℕ → Reply → Operation
read_after events key reply = record {
  call = Get key;
  inv = length events;
  response = Some
      (record { res = suc (length events); reply = reply });
}

-- The pasts of a part of the monitor after some events miss nothing. If a get of one of its keys may be given a reply then, it may be given it
-- after the calls that are left in one of these pasts.
abbrev pub NothingIsMissed : Type 0
NothingIsMissed =
    (start : Contents) (events : List Event) (part : KeptPart) (rest : List KeptPart) (process key : ℕ) (reply : Reply) → IsRising start
    → IsWellFormed events → AreKept start (length events) (operations events) (part ∷ rest) → has_open_call process events ≡ false
    → part.keys key ≡ true → is_refusal reply ≡ false
    → IsLinearizable start (operations (events ++ Invoke process (Get key) ∷ Answer process reply ∷ []))
    → Any (λ past. IsLinearizable past.pairs (past.left ++ read_after events key reply ∷ [])) part.pasts
