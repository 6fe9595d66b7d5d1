-- Calls one after another, by the relation of the object, with the pairs between them.
use Rattle.events.specs.declared.event.Reply.TheVariants as replies
use Rattle.std.specs.Prelude.{◌≡◌, ◌≢◌, List, [], ◌∷◌, Option, Some, None}
use Rattle.events.specs.declared.event.Call.{Call}
use Rattle.events.specs.declared.event.Reply.{Reply}
use Rattle.events.specs.declared.operation.Operation.{Operation}
use Rattle.events.specs.declared.operation.Response.{Response}
use Rattle.map_object.specs.MapObject.{Contents, Does}

-- a completed call gives its recorded reply, and a pending one some reply other than `refused`
abbrev pub DoesCall : Contents → Call → Option Response → Contents → Type 0
DoesCall m call None m2 = (reply : Reply) × (reply ≢ replies.Refused) × Does m call reply m2
DoesCall m call (Some response) m2 = Does m call response.reply m2

-- from m the calls lead to m2, each from the pairs that the call before it left
abbrev pub Leads : Contents → List Operation → Contents → Type 0
Leads m [] m2 = m2 ≡ m
Leads m (a ∷ calls) m2 = (next : Contents) × DoesCall m a.call a.response next × Leads next calls m2
