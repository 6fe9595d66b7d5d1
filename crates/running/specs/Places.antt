-- What a clause says of a core and of a place.
use Rattle.std.specs.Prelude.{◌≡◌}
use Rattle.atomic_table.specs.Seated.{TableId}
use Rattle.running.specs.declared.view.Setup.{Setup}
use Rattle.running.specs.declared.view.View.{View}
use Rattle.running.specs.declared.place.SharedGroup.{SharedGroup}
use Rattle.running.specs.declared.shared_core.SharedCore.{SharedCore}

-- which core it is
abbrev pub core : SharedCore → TableId
core c = c.table.shared.table_id

-- what it was opened for
abbrev pub setup_of : SharedCore → Setup
setup_of c = c.table.shared.key

-- the core that a place came from
abbrev pub core_of : SharedGroup → TableId
core_of place = place.seat.table_id

-- what a place shows
abbrev pub shown : SharedGroup → View
shown place = place.seat.me.0.view

-- a place that came from the core
pub record IsPlaceOf (c : SharedCore) (place : SharedGroup) : Type 0 where
  pub same : core_of place ≡ core c
  pub setup : (shown place).setup ≡ setup_of c
