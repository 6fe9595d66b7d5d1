-- The lines of the values that a few calls report and none of them puts. They are JSON, with
-- members by rising bytes.
use Rattle.std.specs.Prelude.{ℕ, List, [], ◌∷◌, ◌++◌, map, codes}
use Rattle.serde_json.specs.Data.{Data, boolean, object, no_members, member}
use Rattle.serde_json.specs.Written.{compact_text}
use Rattle.events.specs.declared.event.Event.{Event}
use Rattle.events.specs.declared.operation.Operation.{Operation}
use Rattle.history_text.specs.Texts.{number_data, list_data}
use Rattle.map_object.specs.MapObject.{Contents}
use Rattle.cli_outcome.specs.Lines.{line}
use Rattle.explain_reads_from.specs.External.{holds}
use Rattle.explain_reads_from.specs.Writers.{writers_of}
use Rattle.cli_explain.specs.Reports.{process_at}

-- a call that puts a value, by the event of its invocation, with its process
abbrev pub writer_data : List Event → ℕ → Data
writer_data events place =
    object (member (codes "event") (number_data place) (member (codes "process") (number_data (process_at events place)) no_members))

-- a value at a key: the calls that put it there, by the events of their invocations, and whether it
-- was there at the start
abbrev pub pair_origin_data : Contents → List Event → List ℕ → ℕ × ℕ → Data
pair_origin_data start events places pair =
    object (member (codes "key") (number_data pair.0) (member (codes "puts") (list_data (map (writer_data events) places))
    (member (codes "start") (boolean (holds start pair)) (member (codes "value") (number_data pair.1) no_members))))

-- a value at a key, with those of these calls that put it there
abbrev pub origin_data : Contents → List Event → List Operation → ℕ × ℕ → Data
origin_data start events calls pair = pair_origin_data start events (map (λ (a : Operation). a.inv) (writers_of pair calls)) pair

-- a line for each pair
abbrev pub origin_lines : Contents → List Event → List Operation → List (ℕ × ℕ) → List ℕ
origin_lines start events calls [] = []
origin_lines start events calls (pair ∷ pairs) =
    line (compact_text (origin_data start events calls pair)) ++ origin_lines start events calls pairs
