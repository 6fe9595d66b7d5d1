-- What goes wrong on its own, if a stream does.
use Rattle.std.specs.Prelude.{◌==◌, not, List, [], ◌∷◌, filter, Option, Some, None}
use Rattle.std.specs.List.{list_any}
use Rattle.events.specs.declared.operation.Operation.{Operation}
use Rattle.map_object.specs.MapObject.{Contents}
use Rattle.follow_cuts.specs.declared.past.Past.{Past}
use Rattle.follow_violations.specs.declared.loss.Violation.{Violation}
use Rattle.follow_violations.specs.declared.lost_keys.KeyViolation.{KeyViolation}
use Rattle.follow_violations.specs.declared.puts.Put.{Put}
use Rattle.follow_violations.specs.KeyLosses.{AreKeyLosses}

-- the calls that are left of some keys, the pairs that the keys have before these, and who put values before these
pub record KeyCore : Type 0 where
  pub start : Contents
  pub calls : List Operation
  pub puts : List Put

-- the puts of calls that are none of these
abbrev pub puts_but : List Operation → List Put → List Put
puts_but left puts = filter (λ p. not (list_any (λ o. o.inv == p.event) left)) puts

-- the only past of a part
abbrev pub part_of : List Put → List Past → Option KeyCore
part_of puts (past ∷ []) = Some (record { start = past.map; calls = past.calls.items; puts = puts_but past.calls.items puts })
part_of puts pasts = None

abbrev pub key_core : Violation → Option KeyCore
key_core loss = part_of loss.puts.items loss.part.pasts.items

-- what is said of the keys of some of the calls of a part, as if only these were left
abbrev pub AreOwnLosses : KeyCore → List Operation → List KeyViolation → Type 0
AreOwnLosses part few losses = AreKeyLosses None (record { pairs = part.start; left = few; found = [] } ∷ []) part.puts losses
