-- How the fault of a plan or of a replay is reported: its line, and the outcome with a hint next to
-- it.
use Rattle.std.specs.Prelude.{◌≡◌, ◌≢◌, ⊤, ℕ, List, ◌++◌, codes, decimal, string_bytes}
use Rattle.plans.specs.declared.fault.PlanFault.{PlanFault}
use Rattle.plans.specs.declared.fault.PlanFault.TheVariants as plans
use Rattle.plans.specs.declared.fault.MachineFault.{MachineFault}
use Rattle.plans.specs.declared.fault.MachineFault.TheVariants as machines
use Rattle.plans.specs.declared.fault.RunFault.{RunFault}
use Rattle.replays.specs.declared.fault.ReplayFault.{ReplayFault}
use Rattle.replays.specs.declared.fault.ReplayFault.TheVariants as replays
use Rattle.cli_outcome.specs.declared.outcome.CommandOutcome.{CommandOutcome}
use Rattle.cli_outcome.specs.declared.outcome.CommandOutcome.TheVariants.{Refused, Memory}
use Rattle.cli_outcome.specs.Lines.{line, memory_line}
use Rattle.cli_outcome.specs.Wanted.{expected_hint}
use Rattle.replays.specs.declared.draw_fault.DrawFault.{DrawFault}
use Rattle.replays.specs.declared.draw_fault.DrawFault.TheVariants as draws
use Rattle.cli_plans.specs.Wanted.{plan_expected, replay_expected, too_long_expected}

-- why there is no plan
abbrev pub plan_fault_line : PlanFault → List ℕ
plan_fault_line plans.BadMix = line (codes "plan: 1 BadMix")
plan_fault_line plans.BadRange = line (codes "plan: 2 BadRange")
plan_fault_line plans.TooMany = line (codes "plan: 3 TooMany")
plan_fault_line plans.Memory = memory_line
plan_fault_line plans.TooLong = line (codes "plan: 5 TooLong")
plan_fault_line plans.NotJson = line (codes "plan: 6 NotJson")
plan_fault_line plans.Shape = line (codes "plan: 7 Shape")

-- the number and the name of a machine's fault
abbrev pub machine_fault_name : MachineFault → List ℕ
machine_fault_name machines.NoProcess = codes "1 NoProcess"
machine_fault_name machines.NothingToDo = codes "2 NothingToDo"
machine_fault_name machines.TurnLimit = codes "3 TurnLimit"
machine_fault_name machines.Memory = codes "4 Memory"
machine_fault_name machines.TooLong = codes "5 TooLong"
machine_fault_name machines.NotJson = codes "6 NotJson"
machine_fault_name machines.Shape = codes "7 Shape"
machine_fault_name machines.StartRefused = codes "8 StartRefused"

-- where a schedule stops, and why
abbrev pub stop_line : RunFault → List ℕ
stop_line stop = line (codes "schedule: item " ++ decimal stop.item ++ codes ": " ++ machine_fault_name stop.fault)

-- why a text of a replay gives no history
abbrev pub replay_fault_line : ReplayFault → List ℕ
replay_fault_line (replays.Replay fault) = line (codes "replay: " ++ machine_fault_name fault)
replay_fault_line (replays.Schedule stop) = stop_line stop
replay_fault_line replays.Memory = memory_line

-- the outcome where there is no plan, for this fault
abbrev pub IsPlanFaultOutcome : PlanFault → CommandOutcome → Type 0
IsPlanFaultOutcome fault (Refused bytes hint) = (fault ≢ plans.Memory) × (string_bytes bytes ≡ plan_fault_line fault)
    × (string_bytes hint ≡ expected_hint (plan_expected fault))
IsPlanFaultOutcome fault Memory = ⊤
IsPlanFaultOutcome fault outcome = ⊥

-- the outcome where a replay gives no history, for this fault
abbrev pub IsReplayFaultOutcome : ReplayFault → CommandOutcome → Type 0
IsReplayFaultOutcome fault (Refused bytes hint) = (fault ≢ replays.Memory) × (string_bytes bytes ≡ replay_fault_line fault)
    × (string_bytes hint ≡ expected_hint (replay_expected fault))
IsReplayFaultOutcome fault Memory = ⊤
IsReplayFaultOutcome fault outcome = ⊥

-- the line of a schedule with more items than a replay may have
abbrev pub too_long_line : List ℕ
too_long_line = line (codes "schedule: 1 TooManyItems")

-- the outcome if no schedule is drawn, for this fault
abbrev pub IsDrawFaultOutcome : DrawFault → CommandOutcome → Type 0
IsDrawFaultOutcome draws.TooManyItems (Refused bytes hint) = (string_bytes bytes ≡ too_long_line)
    × (string_bytes hint ≡ expected_hint too_long_expected)
IsDrawFaultOutcome fault Memory = ⊤
IsDrawFaultOutcome fault outcome = ⊥
