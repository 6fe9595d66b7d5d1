-- Calls that have the same orders: within a range of keys from other pairs, and at other places.
use Rattle.std.specs.Prelude.{◌≡◌, ◌↔◌, ℕ, List, length, Option, Some, None, slice_get, All}
use Rattle.events.specs.declared.event.Reply.{Reply}
use Rattle.events.specs.declared.operation.Operation.{Operation}
use Rattle.events.specs.declared.operation.Response.{Response}
use Rattle.events.specs.Precedence.{precedes}
use Rattle.map_object.specs.MapObject.{Contents, within}
use Rattle.orders.specs.Orders.{IsOrder}
use Rattle.orders.specs.SegmentView.{NamesKeysWithin}

-- the orders of calls within a range are those from the pairs of the range
abbrev pub RangesSuffice : Type 0
RangesSuffice =
    (low high : ℕ) (m : Contents) (calls : List Operation) (order : List ℕ) → All (λ a. NamesKeysWithin low high a.call) calls
    → IsOrder m calls order ↔ IsOrder (within low high m) calls order

-- the reply of a response, or none
abbrev pub reply_in : Option Response → Option Reply
reply_in None = None
reply_in (Some response) = Some response.reply

-- two lists of calls that differ only in the places of their events: at each number they have the
-- same call with the same reply, and the same precedence
pub record AreAlike (calls others : List Operation) : Type 0 where
  pub size : length calls ≡ length others
  pub same : (n : ℕ) (a b : Operation) → slice_get calls n ≡ Some a → slice_get others n ≡ Some b → (a.call ≡ b.call)
      × (reply_in a.response ≡ reply_in b.response)
  pub precedence : (i j : ℕ) (a b c d : Operation) → slice_get calls i ≡ Some a → slice_get calls j ≡ Some b → slice_get others i ≡ Some c
      → slice_get others j ≡ Some d → precedes a b ≡ precedes c d

-- they have the same orders
abbrev pub PlacesDoNotMatter : Type 0
PlacesDoNotMatter =
    (m : Contents) (calls others : List Operation) (order : List ℕ) → AreAlike calls others → IsOrder m calls order ↔ IsOrder m others order
