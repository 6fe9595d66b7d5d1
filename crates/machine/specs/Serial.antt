-- What it means that a machine does what the map does.
use Rattle.std.specs.Prelude.{◌≡◌, ◌⊎◌}
use Rattle.events.specs.HistoryView.{HistoryView}
use Rattle.events.specs.Operations.{operations}
use Rattle.orders.specs.Orders.{IsLegal, after_calls}
use Rattle.art_rows.specs.declared.variant.Variant.TheVariants.{Coupled, Optimistic}
use Rattle.art_core.specs.Plans.{IsSerial}
use Rattle.art_core.specs.Meaning.{Means, AllUnlocked}
use Rattle.machine.specs.declared.machines.Machine.{Machine}

-- If the tree is full and no call overlaps another, the calls by number are legal from the starting
-- pairs on. Then no row is locked, and the words mean the pairs after them.
abbrev pub DoesTheMap : Machine → HistoryView → Type 0
DoesTheMap m h = (m.variant ≡ Coupled) ⊎ (m.variant ≡ Optimistic) → IsSerial h.events
    → IsLegal h.start (operations h.events) × AllUnlocked m.shape m.words.items
    × Means m.shape m.words.items (after_calls h.start (operations h.events))
