-- Complete answers in place of partial ones: what a reader believes who reads more into the answers
-- than they say.
use Rattle.events.specs.declared.event.Reply.TheVariants as replies
use Rattle.std.specs.Prelude.{◌≡◌, ◌≢◌, ◌⊎◌, true, List, Option, Some, None, ⊤}
use Rattle.std.specs.List.{AllZip}
use Rattle.events.specs.declared.event.Call.{Call}
use Rattle.events.specs.declared.operation.Operation.{Operation}
use Rattle.events.specs.declared.operation.Response.{Response}
use Rattle.events.specs.Told.{is_complete}
use Rattle.map_object.specs.MapObject.{IsAllOrPartOf}

-- a response with the complete answer in place of one that says a part of it: at the same event,
-- and `refused` if the response is. A pending call stays pending
abbrev pub IsToldAs : Call → Option Response → Option Response → Type 0
IsToldAs call None None = ⊤
IsToldAs call None (Some told) = ⊥
IsToldAs call (Some response) None = ⊥
IsToldAs call (Some response) (Some told) =
    (told.res ≡ response.res) × (is_complete told.reply ≡ true)
    × (((response.reply ≡ replies.Refused) × (told.reply ≡ replies.Refused))
    ⊎ ((told.reply ≢ replies.Refused) × IsAllOrPartOf call told.reply response.reply))

-- a call with its response completed so
pub record IsToldCall (a told : Operation) : Type 0 where
  pub call : told.call ≡ a.call
  pub inv : told.inv ≡ a.inv
  pub response : IsToldAs a.call a.response told.response

-- the calls by number, each with such a response
abbrev pub AreToldCalls : List Operation → List Operation → Type 0
AreToldCalls calls told = AllZip IsToldCall calls told
