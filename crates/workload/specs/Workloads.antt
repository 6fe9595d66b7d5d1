-- The plan that is drawn from a seed, and why none is.
use Rattle.std.specs.Prelude.{ℕ, List, map}
use Rattle.std.specs.List.{range_with_len}
use Rattle.events.specs.declared.event.Call.{Call}
use Rattle.plans.specs.declared.fault.PlanFault.{PlanFault}
use Rattle.plans.specs.declared.fault.PlanFault.TheVariants.{BadMix, BadRange, TooMany, Memory}
use Rattle.workload.specs.declared.mix.Mix.{Mix}
use Rattle.workload.specs.Drawn.{generator_of, calls_drawn}
use Rattle.workload.specs.Mixes.{IsWholeMix, HasKeys, AreWithin}

-- the script of a process: this many calls from the words of its generator
abbrev pub script_of : ℕ → Mix → ℕ → ℕ → List Call
script_of seed mix calls process = calls_drawn mix calls (generator_of seed process)

-- the scripts of this many processes
abbrev pub scripts_of : ℕ → Mix → ℕ → ℕ → List (List Call)
scripts_of seed mix processes calls = map (script_of seed mix calls) (range_with_len 0 processes)

-- why no plan is drawn: the shares; else the keys; else the number of processes or calls; else
-- memory ran out
abbrev pub IsDrawFault : Mix → ℕ → ℕ → PlanFault → Type 0
IsDrawFault mix processes calls BadMix = IsWholeMix mix → ⊥
IsDrawFault mix processes calls BadRange = IsWholeMix mix × (HasKeys mix → ⊥)
IsDrawFault mix processes calls TooMany = IsWholeMix mix × HasKeys mix × (AreWithin processes calls → ⊥)
IsDrawFault mix processes calls Memory = IsWholeMix mix × HasKeys mix × AreWithin processes calls
IsDrawFault mix processes calls fault = ⊥
