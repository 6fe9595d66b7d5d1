-- What a call does next after the words that it got.
use Rattle.std.specs.Prelude.{ℕ, List, Option, Some, if◌then◌else◌}
use Rattle.events.specs.declared.event.Call.{Call}
use Rattle.events.specs.declared.event.Call.TheVariants.{Get, Insert, Remove, Scan, Replace}
use Rattle.events.specs.declared.event.Reply.{Reply}
use Rattle.events.specs.declared.event.Reply.TheVariants as reply
use Rattle.art_rows.specs.declared.table.Shape.{Shape}
use Rattle.art_rows.specs.declared.variant.Variant.{Variant}
use Rattle.art_rows.specs.declared.access.Point.{Point}
use Rattle.art_rows.specs.declared.access.Point.TheVariants as point
use Rattle.art_rows.specs.Steps.{Part, Turn, Asks, Answers, ◌>>=◌, give, from_start}
use Rattle.art_rows.specs.Rows.{Setting, locks}
use Rattle.art_rows.specs.Coupled as coupled
use Rattle.art_rows.specs.Optimistic as optimistic
use Rattle.art_rows.specs.Scan.{scan}

unfoldable pub procedure : Setting → Call → Part Reply
procedure c (Get k) = if locks c.variant then coupled.seek c else optimistic.seek c
procedure c (Remove k) = if locks c.variant then coupled.seek c else optimistic.seek c
procedure c (Replace k old new) = if locks c.variant then coupled.seek c else optimistic.seek c
procedure c (Insert k v) = if locks c.variant then coupled.insert c else optimistic.insert c
procedure c (Scan lo hi) = do
  pairs ← scan c lo hi
  give (reply.Pairs pairs)

-- the next access, or the reply, after the words got
unfoldable pub act : Shape → Variant → Call → List ℕ → Turn
act shape variant call = from_start (procedure (record { shape = shape; variant = variant; call = call }) call)

-- the point of a turn
abbrev pub point_of : Turn → Option Point
point_of (Asks a p) = p
point_of (Answers r) = Some point.Answer
