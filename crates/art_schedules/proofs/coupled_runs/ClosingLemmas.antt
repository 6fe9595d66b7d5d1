-- Every run of the coupled tree is linearizable.
use Rattle.art_schedules.proofs.Common.{refl, inl, Coupled, CoupledIsLinearizable, KeptTreesFollow, StartsAreAtRest, StoriesGiveOrders}
use Rattle.art_schedules.proofs.Common.{CoupledFits, LedAreLinearizable, the_plan}
use Rattle.art_schedules.proofs.stories.GhostLemmas.{orders-of-ghosts}
use Rattle.art_schedules.specs.coupled_runs.CoupledFits.{Ghosts, IsWorld}
use Rattle.art_schedules.proofs.coupled_runs.PartLaws.{LawsOfParts}
use Rattle.art_schedules.proofs.coupled_runs.InstanceLemmas.{coupled-is-linearizable}
use Rattle.art_schedules.proofs.coupled_runs.ScanKeptLemmas.{scans-are-kept}

led-are-linearizable : StartsAreAtRest → KeptTreesFollow → StoriesGiveOrders → LedAreLinearizable
led-are-linearizable starts trees orders shape scripts start words Scans led schedule s run =
    orders-of-ghosts starts trees (the_plan Coupled shape scripts) (inl refl) start words Ghosts
    (λ g schedule s calm. IsWorld shape g s calm)
    (CoupledFits shape Scans) led
    orders schedule s run

pub coupled-runs-are-linearizable : LawsOfParts → CoupledIsLinearizable
coupled-runs-are-linearizable laws =
    coupled-is-linearizable laws (scans-are-kept laws)
    (led-are-linearizable laws.starts_are_at_rest laws.kept_trees_follow laws.stories_give_orders)
