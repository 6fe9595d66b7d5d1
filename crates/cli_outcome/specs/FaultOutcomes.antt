-- The outcome of a run that meets the fault of an order.
use Rattle.std.specs.Prelude.{◌≡◌, ◌≢◌, ⊤, string_bytes}
use Rattle.certificate.specs.declared.fault.OrderFault.{OrderFault}
use Rattle.certificate.specs.declared.fault.OrderFault.TheVariants as orders
use Rattle.cli_outcome.specs.declared.outcome.Answer.TheVariants.{No}
use Rattle.cli_outcome.specs.declared.outcome.CommandOutcome.{CommandOutcome}
use Rattle.cli_outcome.specs.declared.outcome.CommandOutcome.TheVariants.{Answered, Memory}
use Rattle.cli_outcome.specs.Lines.{order_fault_line}

-- the outcome of a check with this fault
abbrev pub IsOrderFaultOutcome : OrderFault → CommandOutcome → Type 0
IsOrderFaultOutcome fault (Answered answer bytes) = (fault ≢ orders.Memory) × (answer ≡ No) × (string_bytes bytes ≡ order_fault_line fault)
IsOrderFaultOutcome fault Memory = ⊤
IsOrderFaultOutcome fault outcome = ⊥
