-- The reports of a stream: JSON, with members by rising bytes.
use Rattle.std.specs.Prelude.{ℕ, List, ◌++◌, map, codes, decimal}
use Rattle.serde_json.specs.Data.{Data, string, object, no_members, member}
use Rattle.history_text.specs.Texts.{number_data, list_data}
use Rattle.follow_violations.specs.declared.lost_keys.KeyViolation.{KeyViolation}
use Rattle.follow_violations.specs.declared.lost_keys.Origin.{Origin}
use Rattle.explain_histories.specs.Values.{value_data}
use Rattle.cli_outcome.specs.Lines.{line}
use Rattle.cli_outcome.specs.Averages.{average_text}

-- all events have an order: how many calls there were, and how many other calls were open at an
-- invocation, on average, of so many in all
abbrev pub yes_line : ℕ → ℕ → List ℕ
yes_line calls overlap =
    line (codes "{\"calls\":" ++ decimal calls ++ codes ",\"overlap\":" ++ average_text calls overlap ++ codes ",\"verdict\":\"yes\"}")

-- numbers of events
abbrev pub numbers_data : List ℕ → Data
numbers_data numbers = list_data (map number_data numbers)

-- the values that a key may have had before the calls that are left
abbrev pub values_data : List Origin → Data
values_data from = list_data (map (λ origin. value_data origin.value) from)

-- the calls that put these values, in the same order: each by the event of its invocation, null if
-- none is known
abbrev pub puts_data : List Origin → Data
puts_data from = list_data (map (λ origin. value_data origin.put) from)

-- the loss of a key: the calls that are left there, each by the event of its invocation; the key;
-- and the values that it may have had before these calls, with the calls that put them
abbrev pub key_data : KeyViolation → Data
key_data loss =
    object (member (codes "invoked") (numbers_data loss.invoked.items) (member (codes "key") (number_data loss.key)
    (member (codes "put") (puts_data loss.from.items) (member (codes "values") (values_data loss.from.items) no_members))))

abbrev pub keys_data : List KeyViolation → Data
keys_data losses = list_data (map key_data losses)

-- the events go wrong at this one, the answer of the call of this number
abbrev pub lost_data : ℕ → ℕ → List KeyViolation → Data
lost_data event number losses =
    object (member (codes "call") (number_data number) (member (codes "event") (number_data event)
    (member (codes "keys") (keys_data losses) (member (codes "verdict") (string (codes "no")) no_members))))

-- it is not known whether they do: the search is beyond the budget
abbrev pub spent_data : ℕ → ℕ → List KeyViolation → Data
spent_data event number losses =
    object (member (codes "call") (number_data number) (member (codes "event") (number_data event)
    (member (codes "keys") (keys_data losses) (member (codes "reason") (string (codes "budget"))
    (member (codes "verdict") (string (codes "undecided")) no_members)))))
