-- The line of an event of a stream, as it is written from the event's values.
use Rattle.events.specs.declared.event.Reply.TheVariants as replies
use Rattle.std.specs.Prelude.{ℕ, ◌^◌, ◌<◌, ◌≤◌, List, All, IsTrue, ⊤}
use Rattle.serde_json.specs.Written.{compact_text}
use Rattle.events.specs.declared.event.Call.{Call}
use Rattle.events.specs.declared.event.Call.TheVariants.{Get, Insert, Remove, Scan, Replace}
use Rattle.events.specs.declared.event.Reply.{Reply}
use Rattle.events.specs.declared.event.Event.{Event}
use Rattle.events.specs.declared.event.Event.TheVariants.{Invoke, Answer}
use Rattle.events.specs.Histories.{is_shaped, pair_count}
use Rattle.history_text.specs.declared.version.TextVersion.{TextVersion}
use Rattle.history_text.specs.Texts.{event_data, may_stand}
use Rattle.stream_text.specs.LineLimits.{number_limit}

-- the line that spells an event without a space, with members by rising bytes
abbrev pub event_line : Event → List ℕ
event_line e = compact_text (event_data e)

-- a number has at most 64 bits
abbrev pub IsWord : ℕ → Type 0
IsWord n = n < 2 ^ 64

-- the numbers of a call and of a reply have at most 64 bits
abbrev pub CallHasWords : Call → Type 0
CallHasWords (Get key) = IsWord key
CallHasWords (Insert key value) = IsWord key × IsWord value
CallHasWords (Remove key) = IsWord key
CallHasWords (Scan low high) = IsWord low × IsWord high
CallHasWords (Replace key old new) = IsWord key × IsWord old × IsWord new

abbrev pub ReplyHasWords : Reply → Type 0
ReplyHasWords replies.None = ⊤
ReplyHasWords (replies.Some value) = IsWord value
ReplyHasWords (replies.Pairs pairs) = All (λ pair. IsWord pair.0 × IsWord pair.1) pairs
ReplyHasWords replies.Refused = ⊤
ReplyHasWords replies.Done = ⊤
ReplyHasWords replies.Found = ⊤
ReplyHasWords replies.Other = ⊤

-- the numbers of an event have at most 64 bits, and its process is below the limit of a line
abbrev pub HasWords : Event → Type 0
HasWords (Invoke process call) = (process < number_limit) × CallHasWords call
HasWords (Answer process reply) = (process < number_limit) × ReplyHasWords reply

-- an event has so few pairs that its line is short enough
abbrev pub HasFewPairs : Event → Type 0
HasFewPairs (Invoke process call) = ⊤
HasFewPairs (Answer process reply) = pair_count reply ≤ 23000

-- a stream of this version may contain the event, and its line is short enough
pub record MayStand (version : TextVersion) (e : Event) : Type 0 where
  pub shaped : IsTrue (is_shaped e)
  pub standing : IsTrue (may_stand version e)
  pub few : HasFewPairs e
