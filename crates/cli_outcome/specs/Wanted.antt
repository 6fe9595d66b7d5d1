-- The hint after the line of a fault: what was expected.
use Rattle.std.specs.Prelude.{ℕ, List, [], ◌++◌, codes}
use Rattle.events.specs.declared.fault.HistoryFault.{HistoryFault}
use Rattle.events.specs.declared.fault.HistoryFault.TheVariants as histories
use Rattle.cli_outcome.specs.Lines.{line}

-- the hint that says what was expected
abbrev pub expected_hint : List ℕ → List ℕ
expected_hint wanted = line (codes "wanted " ++ wanted)

-- how long a text may be, and what it is
abbrev pub length_expected : List ℕ
length_expected = codes "at most 16777216 bytes"

abbrev pub json_expected : List ℕ
json_expected = codes "JSON in UTF-8"

-- an event of a history text, or of a stream
abbrev pub event_expected : List ℕ
event_expected =
    codes "{\"process\":P,\"invoke\":C} or {\"process\":P,\"answer\":A}, in version 3 also with a \"note\"; C is [\"get\",K], "
    ++ codes "[\"insert\",K,V], [\"remove\",K], [\"scan\",LO,HI] with LO <= HI, or from version 2 on [\"replace\",K,OLD,NEW]; "
    ++ codes "A is null, V, [[K,V],..], \"refused\", or in version 3 \"done\", \"found\" or \"other\"; "
    ++ codes "numbers are from 0 to 18446744073709551615"

-- an event in its turn
abbrev pub order_expected : List ℕ
order_expected = codes "an invocation where the process has no open call, an answer where it has one"

-- a starting pair
abbrev pub pair_expected : List ℕ
pair_expected = codes "[K,V] with K above that of the pair before; numbers are from 0 to 18446744073709551615"

-- what was expected for each fault of a history text
abbrev pub history_expected : HistoryFault → List ℕ
history_expected histories.TooLong = length_expected
history_expected histories.NotJson = json_expected
history_expected histories.Version = codes "{\"version\":1,\"events\":[..]} or {\"version\":V,\"start\":[..],\"events\":[..]}; V is 2 or 3"
history_expected (histories.Shape event) = event_expected
history_expected histories.TooMany =
    codes "at most 4096 starting pairs, processes from 0 to 63, at most 4096 calls, at most 4096 pairs in an answer"
history_expected (histories.NotWellFormed event) = order_expected
history_expected (histories.Start pair) = pair_expected
history_expected histories.Memory = []
