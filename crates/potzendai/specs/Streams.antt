-- What a yes or a no means for the text of a stream.
use Rattle.std.specs.Prelude.{◌≡◌, ℕ, List, ◌++◌}
use Rattle.events.specs.declared.event.Event.{Event}
use Rattle.events.specs.Events.{IsWellFormed}
use Rattle.events.specs.HistoryView.{HistoryView}
use Rattle.events.specs.Operations.{operations}
use Rattle.orders.specs.Orders.{IsLinearizable}
use Rattle.history_text.specs.declared.version.TextVersion.{TextVersion}
use Rattle.cli_follow.specs.StreamTexts.{SpellStream}

-- the lines spell a stream whose events have an order
pub record SpellLinearizable (lines : List (List ℕ)) : Type 0 where
  pub stream : HistoryView
  pub version : TextVersion
  pub spelled : SpellStream version lines stream
  pub well_formed : IsWellFormed stream.events
  pub linearizable : IsLinearizable stream.start (operations stream.events)

-- the lines begin with those of a stream whose events have no order, whatever follows
pub record BeginUnlinearizable (lines : List (List ℕ)) : Type 0 where
  pub stream : HistoryView
  pub version : TextVersion
  pub first : List (List ℕ)
  pub rest : List (List ℕ)
  pub parts : lines ≡ first ++ rest
  pub spelled : SpellStream version first stream
  pub refuted : (more : List Event) → IsLinearizable stream.start (operations (stream.events ++ more)) → ⊥
