-- Laws of the texts of replays.
use Rattle.plans.specs.declared.fault.MachineFault.TheVariants as faults
use Rattle.std.specs.Prelude.{◌≡◌, ◌≢◌, ℕ, List}
use Rattle.plans.specs.declared.fault.MachineFault.{MachineFault}
use Rattle.plan_text.specs.Replays.{ReplayView}
use Rattle.plan_text.specs.ReplayTexts.{SpellsReplay}
use Rattle.plan_text.specs.ReplayTextFaults.{IsReplayTextFault}

-- a text spells one replay only
abbrev pub SpellsOneReplay : Type 0
SpellsOneReplay = (text : List ℕ) (a b : ReplayView) → SpellsReplay text a → SpellsReplay text b → a ≡ b

-- a text has only one fault, apart from `Memory`, which any text may have
abbrev pub HasOneReplayFault : Type 0
HasOneReplayFault =
    (text : List ℕ) (f g : MachineFault) → IsReplayTextFault text f → IsReplayTextFault text g → f ≢ faults.Memory
    → g ≢ faults.Memory → f ≡ g

-- a text with a fault spells no replay
abbrev pub FaultySpellsNoReplay : Type 0
FaultySpellsNoReplay = (text : List ℕ) (f : MachineFault) (r : ReplayView) → IsReplayTextFault text f → f ≢ faults.Memory
    → SpellsReplay text r → ⊥
