-- The lines that the program writes.
use Rattle.std.specs.Prelude.{ℕ, List, [], ◌∷◌, ◌++◌, codes, decimal}
use Rattle.events.specs.declared.fault.HistoryFault.{HistoryFault}
use Rattle.events.specs.declared.fault.HistoryFault.TheVariants as histories
use Rattle.certificate.specs.declared.fault.OrderFault.{OrderFault}
use Rattle.certificate.specs.declared.fault.OrderFault.TheVariants as orders

-- a text, and a line feed
abbrev pub line : List ℕ → List ℕ
line text = text ++ 10 ∷ []

abbrev pub ok_line : List ℕ
ok_line = line (codes "ok")

-- out of memory
abbrev pub memory_line : List ℕ
memory_line = line (codes "memory")

-- standard input or output failed
abbrev pub io_line : List ℕ
io_line = line (codes "io")

-- why a list of numbers is not an order
abbrev pub order_fault_line : OrderFault → List ℕ
order_fault_line (orders.Unknown place) = line (codes "fault: 1 Unknown at place " ++ decimal place)
order_fault_line (orders.Repeated place) = line (codes "fault: 2 Repeated at place " ++ decimal place)
order_fault_line (orders.Precedence place) = line (codes "fault: 3 Precedence at place " ++ decimal place)
order_fault_line (orders.Reply place) = line (codes "fault: 4 Reply at place " ++ decimal place)
order_fault_line (orders.Missing call) = line (codes "fault: 5 Missing call " ++ decimal call)
order_fault_line orders.Memory = memory_line

-- why a history text was refused
abbrev pub history_fault_line : HistoryFault → List ℕ
history_fault_line histories.TooLong = line (codes "history: 1 TooLong")
history_fault_line histories.NotJson = line (codes "history: 2 NotJson")
history_fault_line histories.Version = line (codes "history: 3 Version")
history_fault_line (histories.Shape event) = line (codes "history: 4 Shape at event " ++ decimal event)
history_fault_line histories.TooMany = line (codes "history: 5 TooMany")
history_fault_line (histories.NotWellFormed event) = line (codes "history: 6 NotWellFormed at event " ++ decimal event)
history_fault_line (histories.Start pair) = line (codes "history: 8 Start at pair " ++ decimal pair)
history_fault_line histories.Memory = memory_line
