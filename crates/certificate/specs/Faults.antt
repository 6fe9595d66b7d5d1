-- What a refusal by the checker says of the list of numbers.
use Rattle.std.specs.Prelude.{ℕ, List, ⊤}
use Rattle.events.specs.declared.operation.Operation.{Operation}
use Rattle.map_object.specs.MapObject.{Contents}
use Rattle.certificate.specs.OrderFaults.{IsUnknownAt, IsRepeatedAt, BreaksPrecedenceAt, IsIllegalAt, IsLeastMissing}
use Rattle.certificate.specs.declared.fault.OrderFault.{OrderFault}
use Rattle.certificate.specs.declared.fault.OrderFault.TheVariants.{Unknown, Repeated, Precedence, Reply, Missing, Memory}

-- the first fault that a list of numbers shows; out-of-memory is not one
abbrev pub IsFirstFault : Contents → List Operation → List ℕ → OrderFault → Type 0
IsFirstFault start calls order (Unknown place) = IsUnknownAt start calls order place
IsFirstFault start calls order (Repeated place) = IsRepeatedAt start calls order place
IsFirstFault start calls order (Precedence place) = BreaksPrecedenceAt start calls order place
IsFirstFault start calls order (Reply place) = IsIllegalAt start calls order place
IsFirstFault start calls order (Missing call) = IsLeastMissing start calls order call
IsFirstFault start calls order Memory = ⊥

-- why a list of numbers was refused: for its first fault, unless memory ran out
abbrev pub IsRefusedFor : Contents → List Operation → List ℕ → OrderFault → Type 0
IsRefusedFor start calls order Memory = ⊤
IsRefusedFor start calls order fault = IsFirstFault start calls order fault
