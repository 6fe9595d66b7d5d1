-- What a clause can say of an arena and a group.
use Rattle.std.specs.Prelude.{◌≡◌, ℕ, ◌<◌, ◌≤◌, vec_len, vec_capacity}
use Rattle.art_rows.specs.declared.table.Shape.{Shape}
use Rattle.art_rows.specs.declared.variant.Variant.{Variant}
use Rattle.running.specs.declared.view.Setup.{Setup}
use Rattle.running.specs.declared.view.View.{View}
use Rattle.running.specs.Places.{setup_of, shown, IsPlaceOf}
use Rattle.running.specs.Setups.{IsSetup}
use Rattle.running.specs.declared.arena.Arena.{Arena}
use Rattle.running.specs.declared.group.Pass.{Pass}
use Rattle.running.specs.Fitting.{Fit}

abbrev pub setup_with : Shape → Variant → ℕ → ℕ → Setup
setup_with shape variant processes calls_each = record { shape = shape; variant = variant; processes = processes; calls_each = calls_each }

-- what an arena was opened for
abbrev pub opened_for : Arena → Setup
opened_for a = setup_of a.core

-- what a group shows: its processes with their numbers, the least first
abbrev pub shows : Pass → View
shows p = shown p.place

-- The invariant of each group of an arena: its processes, as a thread runs them, fit those that it
-- shows, and there is room for all.
pub record IsGroup (p : Pass) : Type 0 where
  pub setup : (shows p).setup ≡ p.setup
  pub limits : IsSetup p.setup
  pub fit : Fit p.setup (shows p).processes p.runners.items
  pub some : 0 < vec_len p.runners
  pub room : p.setup.processes ≤ vec_capacity p.runners

-- a group that came from the arena
pub record IsGroupOf (a : Arena) (p : Pass) : Type 0 where
  pub place : IsPlaceOf a.core p.place
  pub group : IsGroup p
