-- Which completed calls remain.
use Rattle.std.specs.Prelude.{◌≡◌, ◌↔◌, ℕ, ◌<◌, true, List, Option, Some, None, slice_get, Contains}
use Rattle.events.specs.declared.operation.Operation.{Operation}
use Rattle.events.specs.Precedence.{is_before}

-- a call that is not taken was answered before a place
pub record RemainsBefore (calls : List Operation) (taken : List ℕ) (place : ℕ) : Type 0 where
  pub n : ℕ
  pub call : Operation
  pub here : slice_get calls n ≡ Some call
  pub new : Contains taken n → ⊥
  pub before : is_before call.response place ≡ true

-- the place of the earliest response of a call that is not taken; none if no completed call remains
abbrev pub IsEarliestAnswer : List Operation → List ℕ → Option ℕ → Type 0
IsEarliestAnswer calls taken None = (place : ℕ) → RemainsBefore calls taken place → ⊥
IsEarliestAnswer calls taken (Some answered) = (place : ℕ) → (answered < place) ↔ RemainsBefore calls taken place
