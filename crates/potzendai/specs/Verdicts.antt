-- What a yes or a no means for a text.
use Rattle.std.specs.Prelude.{ℕ, List}
use Rattle.events.specs.HistoryView.{HistoryView}
use Rattle.orders.specs.Orders.{IsLinearizableHistory}
use Rattle.cli_judge.specs.Answers.{IsTextOf}

-- the text spells a history that has an order
abbrev pub SpellsLinearizable : List ℕ → Type 0
SpellsLinearizable text = (history : HistoryView) × IsTextOf text history × IsLinearizableHistory history

-- the text spells a history that has none
abbrev pub SpellsUnlinearizable : List ℕ → Type 0
SpellsUnlinearizable text = (history : HistoryView) × IsTextOf text history × (IsLinearizableHistory history → ⊥)
