-- The report of a verdict: JSON, with members by rising bytes.
use Rattle.std.specs.Prelude.{ℕ, List, map, codes}
use Rattle.serde_json.specs.Data.{Data, string, object, no_members, member}
use Rattle.history_text.specs.Texts.{number_data, list_data}
use Rattle.orders.specs.SegmentView.{SegmentView}
use Rattle.judge.specs.declared.verdict.Verdict.{Verdict}
use Rattle.judge.specs.declared.verdict.Verdict.TheVariants.{Yes, No, Undecided}

-- numbers of calls
abbrev pub numbers_data : List ℕ → Data
numbers_data numbers = list_data (map number_data numbers)

-- the report of a segment that a verdict names, under this word
abbrev pub segment_data : SegmentView → List ℕ → Data
segment_data segment word =
    object (member (codes "calls") (numbers_data segment.numbers)
    (member (codes "hi") (number_data segment.hi) (member (codes "lo") (number_data segment.lo) (member (codes "verdict") (string word) no_members))))

-- a verdict
abbrev pub verdict_data : Verdict → Data
verdict_data (Yes order) = object (member (codes "order") (numbers_data order.items) (member (codes "verdict") (string (codes "yes")) no_members))
verdict_data (No segment) = segment_data segment (codes "no")
verdict_data (Undecided segment) = segment_data segment (codes "undecided")
