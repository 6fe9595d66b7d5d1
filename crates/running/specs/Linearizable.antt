-- When the history of an arena is linearizable.
use Rattle.std.specs.Prelude.{◌≡◌, ◌⊎◌, ℕ, List}
use Rattle.events.specs.HistoryView.{HistoryView}
use Rattle.orders.specs.Orders.{IsLinearizableHistory}
use Rattle.art_rows.specs.declared.variant.Variant.TheVariants.{Coupled, Optimistic}
use Rattle.art_core.specs.Runs.{HasFewSteps}
use Rattle.running.specs.declared.view.Setup.{Setup}
use Rattle.running.specs.declared.view.View.{View}
use Rattle.running.specs.Ends.{state_of}

-- If the tree is a full one and the processes made few enough steps, the history has an order,
-- however the threads interleaved and whichever of them stopped.
abbrev pub IsLinearizableIn : Setup → View → HistoryView → Type 0
IsLinearizableIn setup v h =
    (setup.variant ≡ Coupled) ⊎ (setup.variant ≡ Optimistic) → ((words : List ℕ) → HasFewSteps (state_of words v)) → IsLinearizableHistory h
