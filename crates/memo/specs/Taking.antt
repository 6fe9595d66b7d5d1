-- One more call taken.
use Rattle.std.specs.Prelude.{◌≡◌, ℕ, List, ◌∷◌, ◌++◌, nat_lt, filter, Contains}
use Rattle.events.specs.declared.operation.Operation.{Operation}
use Rattle.map_object.specs.MapObject.{Contents}
use Rattle.orders.specs.Orders.{after_call}
use Rattle.memo.specs.Configurations.{Configuration}

-- a rising list of places with one more place inserted: those below it, then it, then those above
-- it
abbrev pub with_place : List ℕ → ℕ → List ℕ
with_place taken place = filter (λ n. nat_lt n place) taken ++ place ∷ filter (λ n. nat_lt place n) taken

-- the configuration after one more call: the call at a place, which leaves these pairs
abbrev pub after_one : Configuration → ℕ → Contents → Configuration
after_one c place pairs = record { taken = with_place c.taken place; pairs = pairs }

-- the pairs that a call leaves
abbrev pub pairs_left : Contents → Operation → Contents
pairs_left m call = after_call m call.call call.response

-- the call at a place is not taken, and these are the pairs that the map holds
pub record MayTake (c : Configuration) (place : ℕ) (m : Contents) : Type 0 where
  pub new : Contains c.taken place → ⊥
  pub holds : c.pairs ≡ m
