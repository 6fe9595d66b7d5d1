-- The line of a pair that comes from outside has no float.
use Rattle.cli_explain.proofs.Common.{◌≡◌, ℕ, false, List, map, refl, has_float, Event, Operation, items_have_float-map, Contents, writer_data}
use Rattle.cli_explain.proofs.Common.{origin_data}
use Rattle.explain_reads_from.specs.Writers.{writers_of}

pub has_float-origin : (start : Contents) (events : List Event) (calls : List Operation) (pair : ℕ × ℕ)
    → has_float (origin_data start events calls pair) ≡ false
has_float-origin start events calls pair =
    rw (items_have_float-map (writer_data events) (λ place. refl) (map (λ (a : Operation). a.inv) (writers_of pair calls))) refl
