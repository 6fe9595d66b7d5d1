-- The first bytes of the text of a plan, one more than a text may have, decide all that is to be
-- known of the whole.
use Rattle.cli_plans.proofs.Common.{ℕ, ◌+◌, ◌<◌, List, length, take, subst, inl, inr, arith, length-take, Call, HistoryView, text_limit, PlanFault}
use Rattle.cli_plans.proofs.Common.{SpellsPlan, Answer, same_text, SpellsDrivable, WasPassedForPlan, IsDrivenAnswer, IsDriven, IsDriveRefusal}
use Rattle.cli_plans.proofs.Common.{IsUndriven}
use Rattle.plan_text.specs.PlanTextFaults.{IsPlanTextFault}
use Rattle.plans.specs.declared.fault.PlanFault.TheVariants as plans

-- a plan that the text read spells is the one of the whole
pub SpellsPlan-whole : (text : List ℕ) (scripts : List (List Call)) → SpellsPlan (take (text_limit + 1) text) scripts → SpellsPlan text scripts
SpellsPlan-whole text scripts h = subst (λ (t : List ℕ). SpellsPlan t scripts) (same_text text_limit text h.json.fits) h

-- a fault of the text read, as one of a plan, is one of the whole
pub IsPlanTextFault-whole : (text : List ℕ) (fault : PlanFault) → IsPlanTextFault (take (text_limit + 1) text) fault
    → IsPlanTextFault text fault
IsPlanTextFault-whole text plans.TooLong h = let size =
    length-take (text_limit + 1) text in let long : text_limit < length (take (text_limit + 1) text) =
    h in omega (arith, size)
IsPlanTextFault-whole text plans.NotJson h = subst (λ (t : List ℕ). IsPlanTextFault t plans.NotJson) (same_text text_limit text h.0) h
IsPlanTextFault-whole text plans.Shape h = subst (λ (t : List ℕ). IsPlanTextFault t plans.Shape) (same_text text_limit text h.1.fits) h
IsPlanTextFault-whole text plans.TooMany h = (h.0, SpellsPlan-whole text h.0 h.1, h.2)
IsPlanTextFault-whole text plans.Memory h = tt
IsPlanTextFault-whole text plans.BadMix h = h
IsPlanTextFault-whole text plans.BadRange h = h

IsUndriven-whole : (text : List ℕ) (fault : PlanFault) → IsUndriven (take (text_limit + 1) text) fault → IsUndriven text fault
IsUndriven-whole text fault (inl h) = inl (IsPlanTextFault-whole text fault h)
IsUndriven-whole text fault (inr h) = inr (h.0, (h.1.0, SpellsPlan-whole text h.1.0 h.1.1, h.1.2, h.1.3))

SpellsDrivable-whole : (text : List ℕ) (scripts : List (List Call)) → SpellsDrivable (take (text_limit + 1) text) scripts
    → SpellsDrivable text scripts
SpellsDrivable-whole text scripts h =
    record { spelled = SpellsPlan-whole text scripts h.spelled; are_scripts = h.are_scripts; drivable = h.drivable }

module _ (IsHistoryOf : List (List Call) → HistoryView → Type 0) where
  IsDriven-whole : (text : List ℕ) (history : HistoryView) → IsDriven IsHistoryOf (take (text_limit + 1) text) history
      → IsDriven IsHistoryOf text history
  IsDriven-whole text history h = record {
    scripts = h.scripts;
    plan = SpellsDrivable-whole text h.scripts h.plan;
    driven = h.driven;
  }

  -- an answer of `drive` to the text read is one to the whole
  pub IsDrivenAnswer-whole : (text : List ℕ) (answer : Answer) (bytes : List ℕ)
      → IsDrivenAnswer IsHistoryOf (take (text_limit + 1) text) answer bytes
      → IsDrivenAnswer IsHistoryOf text answer bytes
  IsDrivenAnswer-whole text answer bytes h =
      record {
        history = h.history;
        driven = IsDriven-whole text h.history h.driven;
        answer_is = h.answer_is;
        bytes_are = h.bytes_are;
        spelled = h.spelled;
      }

pub IsDriveRefusal-whole : (text bytes hint : List ℕ) → IsDriveRefusal (take (text_limit + 1) text) bytes hint
    → IsDriveRefusal text bytes hint
IsDriveRefusal-whole text bytes hint h = record {
  fault = h.fault;
  refused = IsUndriven-whole text h.fault h.refused;
  not_memory = h.not_memory;
  bytes_are = h.bytes_are;
  hint_is = h.hint_is;
}

-- the gate that was passed for the text read was passed for the whole
pub planned-whole : (WasPassed : ℕ → Type 0) (text : List ℕ) → WasPassedForPlan WasPassed (take (text_limit + 1) text)
    → WasPassedForPlan WasPassed text
planned-whole WasPassed text h = record { scripts = h.scripts; plan = SpellsDrivable-whole text h.scripts h.plan; each = h.each }
