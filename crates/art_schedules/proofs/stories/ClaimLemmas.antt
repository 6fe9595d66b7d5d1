-- What is claimed of every schedule, from what is led on by each step of the runs of a tree.
use Rattle.art_schedules.proofs.Common.{◌≡◌, List, ℕ, inr, Contents, Optimistic, OptimisticIsLinearizable, Plan, State, IsRun, KeptTreesFollow}
use Rattle.art_schedules.proofs.Common.{OfState, OfCall, AreLed, StartsAreAtRest, StoriesGiveOrders}
use Rattle.art_schedules.proofs.stories.GhostLemmas.{orders-of-ghosts}

module _ (starts : StartsAreAtRest) (trees : KeptTreesFollow) (orders : StoriesGiveOrders) (Ghost : Type 0)
    (World : Plan → Contents → List ℕ → OfState Ghost) (Fits : Plan → Contents → List ℕ → OfCall Ghost) where
  abbrev pub IsLed : Plan → Contents → List ℕ → Type 0
  IsLed plan start words = AreLed plan start words Ghost (World plan start words) (Fits plan start words)

  pub optimistic-from-ghosts : ((plan : Plan) (start : Contents) (words schedule : List ℕ) (s : State) → IsRun plan start words schedule s
      → plan.variant ≡ Optimistic → IsLed plan start words) → OptimisticIsLinearizable
  optimistic-from-ghosts led plan start words schedule s run is =
      orders-of-ghosts starts trees plan (inr is) start words Ghost (World plan start words) (Fits plan start words)
      (led plan start words schedule s run is)
      orders schedule s run
