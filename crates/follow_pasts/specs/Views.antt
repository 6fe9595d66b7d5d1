-- What contracts see of a part.
use Rattle.std.specs.Prelude.{List, ◌∷◌, map}
use Rattle.follow_orders.specs.Views.{StoredOrderView}
use Rattle.follow_laws.specs.Pasts.{KeptPast}
use Rattle.follow_laws.specs.KeptParts.{KeptPart}
use Rattle.follow_cuts.specs.PartCuts.{found_at, kept_of}
use Rattle.follow_cuts.specs.declared.past.Found.{Found}
use Rattle.follow_pasts.specs.Ranges.{covered}
use Rattle.follow_pasts.specs.declared.part.Part.{Part}

-- a past with an order of its calls, as a past of the laws
abbrev pub past_of : StoredOrderView → List Found → KeptPast
past_of order found = record { pairs = order.start; left = order.calls; found = map found_at found }

abbrev pub kept_part : Part → KeptPart
kept_part part = record {
  keys = covered part.ranges.items;
  pasts = past_of part.first part.found.items ∷ map kept_of part.others.items;
}
