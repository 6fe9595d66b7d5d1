-- White space around a text means nothing.
use Rattle.std.specs.Prelude.{◌≡◌, ℕ, ◌≤◌, List, ◌++◌, length}
use Rattle.serde_json.specs.Read.{read}
use Rattle.events.specs.HistoryView.{HistoryView}
use Rattle.history_text.specs.Limits.{text_limit}
use Rattle.history_text.specs.Texts.{Spells}
use Rattle.history_text.specs.WhiteSpace.{AreWhiteSpace}

-- white space before and after a text changes neither its value nor whether it has one
abbrev pub WhiteSpaceTellsNothing : Type 0
WhiteSpaceTellsNothing = (before text behind : List ℕ) → AreWhiteSpace before → AreWhiteSpace behind
    → read (before ++ (text ++ behind)) ≡ read text

-- with white space around it, a text spells the same history, if it is not too long
abbrev pub SpellsBetweenWhiteSpace : Type 0
SpellsBetweenWhiteSpace = (before text behind : List ℕ) (history : HistoryView) → AreWhiteSpace before → AreWhiteSpace behind
    → length (before ++ (text ++ behind)) ≤ text_limit → Spells text history → Spells (before ++ (text ++ behind)) history
