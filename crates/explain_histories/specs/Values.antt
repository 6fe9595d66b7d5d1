-- The value that a key has, or may have had, as reports next to a history give it.
use Rattle.std.specs.Prelude.{ℕ, Option, Some, None}
use Rattle.serde_json.specs.Data.{Data, null}
use Rattle.history_text.specs.Texts.{number_data}

-- a number, or null if there is none
abbrev pub value_data : Option ℕ → Data
value_data None = null
value_data (Some value) = number_data value
