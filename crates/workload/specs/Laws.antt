-- Laws of what is drawn.
use Rattle.std.specs.Prelude.{ℕ, ◌≡◌, ◌<◌, ◌^◌, [], ◌∷◌}
use Rattle.rand_core.specs.Steps.{first_words}
use Rattle.rand_pcg.specs.Lcg.{Lcg}
use Rattle.events.specs.declared.event.Call.TheVariants.{Get, Remove}
use Rattle.plans.specs.Plans.{AreScripts}
use Rattle.workload.specs.declared.mix.Mix.{Mix}
use Rattle.workload.specs.Drawn.{next_word, calls_drawn}
use Rattle.workload.specs.Mixes.{IsWholeMix, HasKeys, AreWithin}
use Rattle.workload.specs.Workloads.{scripts_of}

-- half gets, three inserts, a remove and a scan of ten calls, and keys from 0 to 9
abbrev pub half_gets : Mix
half_gets = record { get = 50; insert = 30; remove = 10; scan = 10; lo = 0; hi = 9 }

-- From a generator whose words begin so, two calls are drawn: remove 7 and get 5.
abbrev pub WordsGiveTheseCalls : Type 0
WordsGiveTheseCalls = (g : Lcg) → first_words next_word 4 g ≡ 2707161783 ∷ 2068313097 ∷ 3122475824 ∷ 2211639955 ∷ []
    → calls_drawn half_gets 2 g ≡ Remove 7 ∷ Get 5 ∷ []

-- What is drawn is a plan, where its shares, keys and numbers are as they should be.
abbrev pub DrawnIsAPlan : Type 0
DrawnIsAPlan = (seed processes calls : ℕ) (mix : Mix) → mix.hi < 2 ^ 32 → IsWholeMix mix → HasKeys mix → AreWithin processes calls
    → AreScripts (scripts_of seed mix processes calls)
