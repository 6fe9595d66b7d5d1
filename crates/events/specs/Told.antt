-- Which answers are complete, and which are partial. A partial answer says only that a call was
-- done, that its key held a value, or that a replace found another value.
use Rattle.events.specs.declared.event.Reply.TheVariants as replies
use Rattle.std.specs.Prelude.{Bool, true, false, List}
use Rattle.std.specs.List.{list_all}
use Rattle.events.specs.declared.event.Reply.{Reply}
use Rattle.events.specs.declared.event.Event.{Event}
use Rattle.events.specs.declared.event.Event.TheVariants.{Invoke, Answer}

-- whether a reply is complete
abbrev pub is_complete : Reply → Bool
is_complete replies.None = true
is_complete (replies.Some value) = true
is_complete (replies.Pairs pairs) = true
is_complete replies.Refused = true
is_complete replies.Done = false
is_complete replies.Found = false
is_complete replies.Other = false

-- whether an event is not a partial answer
abbrev pub is_told_event : Event → Bool
is_told_event (Invoke p call) = true
is_told_event (Answer p reply) = is_complete reply

-- whether each answer of the events is complete
abbrev pub are_complete : List Event → Bool
are_complete events = list_all is_told_event events
