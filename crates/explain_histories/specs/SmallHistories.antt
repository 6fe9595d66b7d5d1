-- Calls as a history on their own: at other places, and by other processes.
use Rattle.std.specs.Prelude.{◌≡◌, ℕ, List}
use Rattle.serde_json.specs.Written.{compact_text}
use Rattle.events.specs.HistoryView.{HistoryView}
use Rattle.events.specs.Histories.{IsHistory}
use Rattle.events.specs.Operations.{operations}
use Rattle.events.specs.declared.operation.Operation.{Operation}
use Rattle.map_object.specs.MapObject.{Contents}
use Rattle.orders.specs.Orders.{IsLinearizable}
use Rattle.call_effects.specs.Groups.{AreAlike}
use Rattle.history_text.specs.Texts.{Spells, history_data}

-- a history from these pairs with these calls: at each number the same call with the same answer,
-- and the same precedence
pub record IsHistoryWith (start : Contents) (calls : List Operation) (history : HistoryView) : Type 0 where
  pub is_history : IsHistory history
  pub start_is : history.start ≡ start
  pub alike : AreAlike calls (operations history.events)

-- no history has these calls
abbrev pub AreOfNoHistory : Contents → List Operation → Type 0
AreOfNoHistory start calls = (history : HistoryView) → IsHistoryWith start calls history → ⊥

-- a history with these calls, which has no order
pub record IsSmallHistory (start : Contents) (calls : List Operation) (history : HistoryView) : Type 0 where
  pub has_calls : IsHistoryWith start calls history
  pub refuted : IsLinearizable history.start (operations history.events) → ⊥

-- the text that is written for a history
abbrev pub text_of : HistoryView → List ℕ
text_of history = compact_text (history_data history)

-- that text, if it is not too long to be read
pub record IsWrittenAs (history : HistoryView) (text : List ℕ) : Type 0 where
  pub text_is : text ≡ text_of history
  pub spelled : Spells text history
