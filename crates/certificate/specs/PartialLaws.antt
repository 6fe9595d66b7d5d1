-- Laws of partial answers.
use Rattle.events.specs.declared.event.Reply.TheVariants as replies
use Rattle.std.specs.Prelude.{◌≡◌, ◌≢◌, ◌↔◌, ℕ, List}
use Rattle.events.specs.declared.event.Call.{Call}
use Rattle.events.specs.declared.event.Reply.{Reply}
use Rattle.events.specs.declared.operation.Operation.{Operation}
use Rattle.map_object.specs.MapObject.{Contents, after, after_reply, IsLegalReply}
use Rattle.orders.specs.Orders.{IsOrder, IsLinearizable}
use Rattle.certificate.specs.Finds.{FindsValue, MissesValue}
use Rattle.certificate.specs.Tellings.{AreToldCalls}

-- a legal answer that is not `refused` does the call, even if it is partial
abbrev pub AnswersDoCalls : Type 0
AnswersDoCalls =
    (m : Contents) (call : Call) (reply : Reply) → IsLegalReply m call reply → reply ≢ replies.Refused
    → after_reply m call reply ≡ after m call

-- when the partial answers are legal, by the value at the key
pub record TellByValue (m : Contents) (call : Call) : Type 0 where
  pub done : IsLegalReply m call replies.Done
  pub found : IsLegalReply m call replies.Found ↔ FindsValue m call
  pub other : IsLegalReply m call replies.Other ↔ MissesValue m call

abbrev pub PartialAnswers : Type 0
PartialAnswers = (m : Contents) (call : Call) → TellByValue m call

-- calls have an order exactly if they have one with some complete answers in place of the partial
-- ones
abbrev pub OrdersAreThoseOfToldCalls : Type 0
OrdersAreThoseOfToldCalls =
    (start : Contents) (calls : List Operation)
    → ((order : List ℕ) → IsOrder start calls order ↔ ((told : List Operation) × AreToldCalls calls told × IsOrder start told order))
    × (IsLinearizable start calls ↔ ((told : List Operation) × AreToldCalls calls told × IsLinearizable start told))
