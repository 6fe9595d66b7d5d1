-- What contracts see of the state of the monitor.
use Rattle.std.specs.Prelude.{ℕ, not, List, [], ◌∷◌, map}
use Rattle.std.specs.List.{list_any}
use Rattle.map_object.specs.MapObject.{Contents}
use Rattle.follow_laws.specs.Cuts.{Keys}
use Rattle.follow_laws.specs.KeptParts.{KeptPart, at_rest}
use Rattle.follow_pasts.specs.Ranges.{covered}
use Rattle.follow_pasts.specs.declared.part.Part.{Part}
use Rattle.follow_pasts.specs.declared.moments.OpenRead.{OpenRead}
use Rattle.follow_pasts.specs.Views.{kept_part}

-- the pairs of the keys at rest, the parts of the other keys, the reads that are pending, and how many events there were
pub record PartsView : Type 0 where
  pub rest : Contents
  pub parts : List Part
  pub reads : List OpenRead
  pub now : ℕ

-- whether a key is in none of the parts
abbrev pub is_at_rest : List Part → Keys
is_at_rest parts key = not (list_any (λ part. covered part.ranges.items key) parts)

-- the keys at rest, as one of the parts of the laws
abbrev pub kept_rest : Contents → List Part → KeptPart
kept_rest rest parts = record { keys = is_at_rest parts; pasts = at_rest rest ∷ [] }

-- the parts of the laws: the keys at rest, and the parts
abbrev pub kept_parts : PartsView → List KeptPart
kept_parts s = kept_rest s.rest s.parts ∷ map kept_part s.parts
