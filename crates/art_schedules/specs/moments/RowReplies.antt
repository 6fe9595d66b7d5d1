-- What the words of one row say of a key.
use Rattle.std.specs.Prelude.{ℕ, ◌==◌, if◌then◌else◌, List, slice_index, Option, Some, None}
use Rattle.events.specs.declared.event.Reply.{Reply}
use Rattle.events.specs.declared.event.Reply.TheVariants as replies
use Rattle.art_rows.specs.declared.table.Shape.{Shape}
use Rattle.art_rows.specs.declared.table.Kind.{Kind}
use Rattle.art_rows.specs.declared.table.Child.{Child}
use Rattle.art_rows.specs.declared.table.Child.TheVariants.{Empty, Row, Leaf}
use Rattle.art_rows.specs.Words.{key_bytes, first_difference, info_of}
use Rattle.art_core.specs.Meaning.{child_on}

-- the reply to a get of the key where this child hangs on the key's byte: none yet where it is a row, in which the get goes on
abbrev pub reply_of_child : ℕ → Child → Option Reply
reply_of_child key Empty = Some replies.None
reply_of_child key (Leaf other value) = Some (if other == key then replies.Some value else replies.None)
reply_of_child key (Row base kind) = None

-- if the row's path differs from the key, the key is absent, whatever hangs there
abbrev pub reply_after : Option ℕ → Option Reply → Option Reply
reply_after None here = here
reply_after (Some place) here = Some replies.None

-- the reply by the row's words, and by the level and the path that this info word says
abbrev pub row_reply : Shape → List ℕ → ℕ → Kind → ℕ → ℕ → Option Reply
row_reply s words base kind info key =
    reply_after (first_difference (info_of kind info).path (key_bytes key))
    (reply_of_child key (child_on s words base kind (slice_index (key_bytes key) (info_of kind info).level)))
