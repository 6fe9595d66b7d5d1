-- What it means that the histories of a machine are linearizable.
use Rattle.std.specs.Prelude.{◌≡◌, ◌⊎◌}
use Rattle.events.specs.HistoryView.{HistoryView}
use Rattle.orders.specs.Orders.{IsLinearizableHistory}
use Rattle.art_rows.specs.declared.variant.Variant.TheVariants.{Coupled, Optimistic}
use Rattle.machine.specs.declared.machines.Machine.{Machine}

-- If the tree is a full one, the history has an order, whatever turns were made and whichever
-- processes stopped.
abbrev pub IsLinearizableIn : Machine → HistoryView → Type 0
IsLinearizableIn m h = (m.variant ≡ Coupled) ⊎ (m.variant ≡ Optimistic) → IsLinearizableHistory h
