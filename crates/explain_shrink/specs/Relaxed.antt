-- Some calls are left out, and others have lost their answers. Each order of all calls contains an
-- order of those that stay. What the calls left out put is overwritten before the answer of a call
-- that stays could depend on it.
use Rattle.std.specs.Prelude.{◌≡◌, ◌≢◌, ◌⊎◌, true, List, Contains}
use Rattle.events.specs.declared.operation.Operation.{Operation}
use Rattle.events.specs.Precedence.{precedes}
use Rattle.explain_shrink.specs.Tells.{tells_put}
use Rattle.explain_shrink.specs.Overwriting.{says_put, is_between}
use Rattle.explain_shrink.specs.Rest.{opened}

-- a call as it is, or without its answer
abbrev pub IsCallOf : Operation → Operation → Type 0
IsCallOf a b = (b ≡ a) ⊎ (b ≡ opened a)

-- what a call put is overwritten before another call comes: a third call is between them in each
-- order. It stays, as it is or without its answer
pub record IsOverwritten (calls others : List Operation) (a b : Operation) : Type 0 where
  pub by : Operation
  pub known : Contains calls by
  pub stays : (c : Operation) × Contains others c × IsCallOf by c
  pub puts : says_put by ≡ true
  pub between : is_between a by b ≡ true

-- a call is left out, and no call that stays depends on what it may put. Exceptions are calls that
-- precede it, and calls before which it is overwritten
pub record IsLeftOut (calls others : List Operation) (a : Operation) : Type 0 where
  pub absent : (b : Operation) → Contains others b → b.inv ≢ a.inv
  pub untold : (b left : Operation) → Contains calls b → Contains others left → IsCallOf b left → tells_put left a ≡ true
      → (precedes b a ≡ true) ⊎ IsOverwritten calls others a b

-- each of the others is one of the calls, as it is or without its answer; all other calls are left
-- out
pub record IsRelaxed (calls others : List Operation) : Type 0 where
  pub from : (b : Operation) → Contains others b → (a : Operation) × Contains calls a × IsCallOf a b
  pub each : (a : Operation) → Contains calls a → ((b : Operation) × Contains others b × IsCallOf a b) ⊎ IsLeftOut calls others a
