-- The first fault of a text that spells no replay.
use Rattle.plans.specs.declared.fault.MachineFault.TheVariants as faults
use Rattle.std.specs.Prelude.{ℕ, List, ⊤}
use Rattle.serde_json.specs.Data.{Data}
use Rattle.history_text.specs.Texts.{IsJson}
use Rattle.history_text.specs.JsonFaults.{IsTooLong, IsNoJson}
use Rattle.plans.specs.declared.fault.MachineFault.{MachineFault}
use Rattle.plan_text.specs.Replays.{ReplayView}
use Rattle.plan_text.specs.ReplayTexts.{SpellsReplayAs}

-- the value spells no replay
abbrev pub SpellsNoReplay : Data → Type 0
SpellsNoReplay d = (r : ReplayView) → SpellsReplayAs d r → ⊥

-- why a text was refused: its length, then that it is no JSON, then its form and the limits; or memory ran out
abbrev pub IsReplayTextFault : List ℕ → MachineFault → Type 0
IsReplayTextFault text faults.TooLong = IsTooLong text
IsReplayTextFault text faults.NotJson = IsNoJson text
IsReplayTextFault text faults.Shape = (d : Data) × IsJson text d × SpellsNoReplay d
IsReplayTextFault text faults.Memory = ⊤
IsReplayTextFault text fault = ⊥
