-- The lines of the values of their keys from which a few calls of an own part begin. They are JSON,
-- with members by rising bytes.
use Rattle.std.specs.Prelude.{◌≡◌, ℕ, List, [], ◌∷◌, ◌++◌, Option, Some, None, codes}
use Rattle.serde_json.specs.Data.{Data, null, object, no_members, member}
use Rattle.serde_json.specs.Written.{compact_text}
use Rattle.events.specs.HistoryView.{HistoryView}
use Rattle.events.specs.declared.event.Event.{Event}
use Rattle.events.specs.declared.operation.Operation.{Operation}
use Rattle.history_text.specs.Texts.{number_data}
use Rattle.follow_violations.specs.OwnParts.{AreOwnLosses, KeyCore}
use Rattle.follow_violations.specs.declared.lost_keys.KeyViolation.{KeyViolation}
use Rattle.follow_violations.specs.declared.lost_keys.Origin.{Origin}
use Rattle.cli_outcome.specs.Lines.{line}
use Rattle.explain_histories.specs.Values.{value_data}
use Rattle.cli_explain.specs.Origins.{writer_data}

-- the call that put a value, by the event of its invocation, with its process; null if it is not
-- known
abbrev pub put_data : List Event → Option ℕ → Data
put_data events None = null
put_data events (Some place) = writer_data events place

-- a value that a key has before the calls: the value, the key, and the call that put the value
abbrev pub from_data : List Event → ℕ → Origin → Data
from_data events key origin =
    object (member (codes "from") (value_data origin.value) (member (codes "key") (number_data key)
    (member (codes "put") (put_data events origin.put) no_members)))

-- a line for each of these values of a key
abbrev pub key_lines : List Event → ℕ → List Origin → List ℕ
key_lines events key [] = []
key_lines events key (origin ∷ origins) = line (compact_text (from_data events key origin)) ++ key_lines events key origins

-- these lines for each key
abbrev pub loss_lines : List Event → List KeyViolation → List ℕ
loss_lines events [] = []
loss_lines events (loss ∷ losses) = key_lines events loss.key loss.from.items ++ loss_lines events losses

-- these lines for the keys of a few calls of a part
pub record AreFromLines (history : HistoryView) (part : KeyCore) (few : List Operation) (bytes : List ℕ) : Type 0 where
  pub losses : List KeyViolation
  pub are_losses : AreOwnLosses part few losses
  pub bytes_are : bytes ≡ loss_lines history.events losses
