-- Calls that may go before others of their kind.
use Rattle.events.specs.declared.event.Reply.TheVariants as replies
use Rattle.std.specs.Prelude.{◌≡◌, ◌≢◌, ◌⊎◌, ℕ, ◌≤◌, List, [], ◌∷◌, ◌++◌, length, Option, Some, None, slice_get, Contains, ⊤}
use Rattle.events.specs.declared.operation.Operation.{Operation}
use Rattle.events.specs.declared.operation.Response.{Response}
use Rattle.map_object.specs.MapObject.{Contents}
use Rattle.memo.proofs.FrontLemmas.{IsNext}
use Rattle.search_choices.specs.Reads.{HasOrderAfter}

-- a call is answered no later than another one, and the same; or only the other is pending, and the first is not refused; or both are pending
abbrev pub AnswersFirst : Option Response → Option Response → Type 0
AnswersFirst None None = ⊤
AnswersFirst None (Some response) = ⊥
AnswersFirst (Some own) None = own.reply ≢ replies.Refused
AnswersFirst (Some own) (Some response) = (own.res ≤ response.res) × (own.reply ≡ response.reply)

-- a call is the twin of another one: it asks the same, and answers first
pub record IsTwin (first other : Operation) : Type 0 where
  pub call_is : first.call ≡ other.call
  pub answers : AnswersFirst first.response other.response

-- if a call may come next, and is the twin of another one, what is left has an order that begins with it if it has one that begins with the other
abbrev pub TwinsGoFirst : Type 0
TwinsGoFirst =
    (start : Contents) (calls : List Operation) (path : List ℕ) (n k : ℕ) (a b : Operation) → slice_get calls n ≡ Some a → slice_get calls k ≡ Some b
    → IsNext start calls path n → IsTwin a b
    → HasOrderAfter start calls (path ++ k ∷ []) → HasOrderAfter start calls (path ++ n ∷ [])

-- the call at one place is the twin of the call at another place
pub record IsTwinAt (calls : List Operation) (n k : ℕ) : Type 0 where
  pub first : Operation
  pub other : Operation
  pub here : slice_get calls n ≡ Some first
  pub there : slice_get calls k ≡ Some other
  pub twin : IsTwin first other

-- the call at one of these places is a twin of the call at a place
abbrev pub HasTwin : List Operation → List ℕ → ℕ → Type 0
HasTwin calls firsts n = (k : ℕ) × Contains firsts k × IsTwinAt calls k n

-- some of these calls; each of the others has a twin among them
pub record AreFirstTwins (calls : List Operation) (next firsts : List ℕ) : Type 0 where
  pub from : (n : ℕ) → Contains firsts n → Contains next n
  pub others : (n : ℕ) → Contains next n → Contains firsts n ⊎ HasTwin calls firsts n
  pub few : length firsts ≤ length next
