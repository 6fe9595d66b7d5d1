-- Which calls are pending, and which call precedes which: Herlihy and Wing 1990, section 2.
use Rattle.std.specs.Prelude.{◌≡◌, ℕ, Bool, false, nat_lt, List, Option, Some, None, is_some, All, ◌||◌}
use Rattle.events.specs.declared.operation.Operation.{Operation}
use Rattle.events.specs.declared.operation.Response.{Response}
use Rattle.events.specs.Keys.{may_change}

-- a call with a response is completed, and one without is pending
abbrev pub is_completed : Operation → Bool
is_completed a = is_some a.response

-- whether a response comes before a place
abbrev pub is_before : Option Response → ℕ → Bool
is_before None place = false
is_before (Some response) place = nat_lt response.res place

-- call a precedes call b: the response of a comes before the invocation of b
abbrev pub precedes : Operation → Operation → Bool
precedes a b = is_before a.response b.inv

-- no call of the list precedes itself, as in each history
abbrev pub NonePrecedesItself : List Operation → Type 0
NonePrecedesItself calls = All (λ a. precedes a a ≡ false) calls

-- whether a call belongs to a segment: all do but pending gets and pending scans
abbrev pub belongs : Operation → Bool
belongs a = is_completed a || may_change a.call
