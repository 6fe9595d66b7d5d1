-- Laws of histories.
use Rattle.std.specs.Prelude.{◌≡◌}
use Rattle.events.specs.declared.fault.HistoryFault.{HistoryFault}
use Rattle.events.specs.HistoryView.{HistoryView}
use Rattle.events.specs.Histories.{IsHistory}
use Rattle.events.specs.HistoryFaults.{IsFirstFault}

-- pairs and events have one first fault at most
abbrev pub HasOneFirstFault : Type 0
HasOneFirstFault = (history : HistoryView) (fault other : HistoryFault) → IsFirstFault history fault
    → IsFirstFault history other → fault ≡ other

-- pairs and events with a first fault are no history
abbrev pub FaultyIsNoHistory : Type 0
FaultyIsNoHistory = (history : HistoryView) (fault : HistoryFault) → IsFirstFault history fault → IsHistory history → ⊥
