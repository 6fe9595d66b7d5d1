-- Calls and replies in words.
use Rattle.events.specs.declared.event.Reply.TheVariants as replies
use Rattle.std.specs.Prelude.{ℕ, List, ◌++◌, map, codes, decimal}
use Rattle.serde_json.specs.Written.{compact_text}
use Rattle.events.specs.declared.event.Call.{Call}
use Rattle.events.specs.declared.event.Call.TheVariants.{Get, Insert, Remove, Scan, Replace}
use Rattle.events.specs.declared.event.Reply.{Reply}
use Rattle.history_text.specs.Texts.{list_data, pair_data}

-- a call: its name and its numbers, with a space before each
abbrev pub call_words : Call → List ℕ
call_words (Get key) = codes "get " ++ decimal key
call_words (Insert key value) = codes "insert " ++ (decimal key ++ (codes " " ++ decimal value))
call_words (Remove key) = codes "remove " ++ decimal key
call_words (Scan low high) = codes "scan " ++ (decimal low ++ (codes " " ++ decimal high))
call_words (Replace key old new) = codes "replace " ++ (decimal key ++ (codes " " ++ (decimal old ++ (codes " " ++ decimal new))))

-- pairs as in a history's text
abbrev pub pairs_words : List (ℕ × ℕ) → List ℕ
pairs_words pairs = compact_text (list_data (map pair_data pairs))

-- a reply: the pairs of a scan as in a history's text
abbrev pub reply_words : Reply → List ℕ
reply_words replies.None = codes "none"
reply_words (replies.Some value) = decimal value
reply_words (replies.Pairs pairs) = pairs_words pairs
reply_words replies.Refused = codes "refused"
reply_words replies.Done = codes "done"
reply_words replies.Found = codes "found"
reply_words replies.Other = codes "other"
