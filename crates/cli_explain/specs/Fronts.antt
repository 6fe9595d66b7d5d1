-- The line of a front of a few calls: how far an order of them gets, and which calls would come
-- next. It is JSON, with members by rising bytes.
use Rattle.std.specs.Prelude.{ℕ, ◌==◌, Bool, not, List, filter, map, codes}
use Rattle.std.specs.List.{list_any}
use Rattle.serde_json.specs.Data.{Data, object, no_members, member}
use Rattle.events.specs.declared.event.Reply.{Reply}
use Rattle.events.specs.declared.operation.Operation.{Operation}
use Rattle.events.specs.Precedence.{precedes}
use Rattle.map_object.specs.MapObject.{Contents, reply_to}
use Rattle.orders.specs.Orders.{calls_at, after_calls}
use Rattle.history_text.specs.Texts.{number_data, pair_data, reply_data, list_data}
use Rattle.cli_explain.specs.Reports.{answer_data}

-- whether a call is one of those taken
abbrev pub is_taken : List Operation → Operation → Bool
is_taken taken a = list_any (λ b. b.inv == a.inv) taken

abbrev pub is_preceded : List Operation → Operation → Bool
is_preceded rest a = list_any (λ b. precedes b a) rest

-- the calls that are not taken; and of these the calls that would come next, which no call that is
-- not taken precedes
abbrev pub left_by : List Operation → List Operation → List Operation
left_by taken calls = filter (λ a. not (is_taken taken a)) calls

abbrev pub unpreceded : List Operation → List Operation → List Operation
unpreceded rest calls = filter (λ a. not (is_preceded rest a)) calls

abbrev pub next_of : List Operation → List Operation → List Operation
next_of taken calls = let rest = left_by taken calls in unpreceded rest rest

-- a call, by the event of its invocation
abbrev pub event_data : Operation → Data
event_data a = number_data a.inv

-- a call that would come next, by its event: the answer that it had, and the answer that it would
-- have
abbrev pub answers_data : Operation → Reply → Data
answers_data a reply =
    object (member (codes "answer") (answer_data a.response) (member (codes "event") (event_data a)
    (member (codes "would") (reply_data reply) no_members)))

-- what a map with these pairs would answer
abbrev pub stuck_data : Contents → Operation → Data
stuck_data m a = answers_data a (reply_to m a.call)

-- calls taken, the pairs that the map then holds, and the calls that would come next
abbrev pub taken_data : List Operation → Contents → List Operation → Data
taken_data taken m next =
    object (member (codes "front") (list_data (map event_data taken)) (member (codes "holds") (list_data (map pair_data m))
    (member (codes "next") (list_data (map (stuck_data m) next)) no_members)))

-- the line of the calls with these numbers, which begin from some pairs
abbrev pub front_data : Contents → List Operation → List ℕ → Data
front_data start calls front =
    let taken = calls_at calls front in
    taken_data taken (after_calls start taken) (next_of taken calls)
