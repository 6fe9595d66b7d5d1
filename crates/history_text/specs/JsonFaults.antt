-- Why no JSON value is read from a text.
use Rattle.history_text.specs.declared.json_fault.JsonFault.TheVariants as json_faults
use Rattle.std.specs.Prelude.{◌≡◌, ℕ, ◌<◌, ◌≤◌, List, length, Some, ⊤}
use Rattle.std.specs.Str.{IsUtf8}
use Rattle.serde_json.specs.Data.{Data}
use Rattle.serde_json.specs.Read.{read}
use Rattle.history_text.specs.declared.json_fault.JsonFault.{JsonFault}
use Rattle.history_text.specs.Limits.{text_limit}

-- the text has more bytes than a text may have
abbrev pub IsTooLong : List ℕ → Type 0
IsTooLong text = text_limit < length text

-- the text is short enough, and no JSON in UTF-8
abbrev pub IsNoJson : List ℕ → Type 0
IsNoJson text = (length text ≤ text_limit) × ((d : Data) → IsUtf8 text → read text ≡ Some d → ⊥)

-- why a text has no value here: it is too long, or it is not JSON; or memory ran out
abbrev pub IsJsonFault : List ℕ → JsonFault → Type 0
IsJsonFault text json_faults.TooLong = IsTooLong text
IsJsonFault text json_faults.NotJson = IsNoJson text
IsJsonFault text json_faults.Memory = ⊤
