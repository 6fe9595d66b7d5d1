-- Laws of stories.
use Rattle.std.specs.Prelude.{ℕ, ◌+◌, List, length}
use Rattle.events.specs.Operations.{operations}
use Rattle.map_object.specs.MapObject.{Contents}
use Rattle.orders.specs.Orders.{IsLinearizable}
use Rattle.art_core.specs.Core.{Plan, State, history_of, opened_on}
use Rattle.art_core.specs.Plans.{IsRun}
use Rattle.art_core.specs.Meaning.{Means}
use Rattle.art_schedules.specs.trees.Trees.{IsAtRest}
use Rattle.art_schedules.specs.calls.Effects.{HaveEffects}
use Rattle.art_schedules.specs.stories.Stories.{Trace, IsStory}

-- The words before the first step are a tree at rest, with no more claims than one and one a pair, and mean the starting pairs.
abbrev pub StartsAreAtRest : Type 0
StartsAreAtRest = (plan : Plan) (start : Contents) (words schedule : List ℕ) (s : State) → IsRun plan start words schedule s
    → IsAtRest plan.shape (length start + 1) words × Means plan.shape words start

-- In a run with a story each call has its effect within itself;
abbrev pub StoriesGiveEffects : Type 0
StoriesGiveEffects = (plan : Plan) (start : Contents) (words schedule : List ℕ) (s : State) (tale : Trace)
    → IsRun plan start words schedule s
    → IsStory plan start (opened_on plan words) schedule tale → HaveEffects plan start (opened_on plan words) schedule

-- a run that has a story is linearizable
abbrev pub StoriesGiveOrders : Type 0
StoriesGiveOrders = (plan : Plan) (start : Contents) (words schedule : List ℕ) (s : State) (tale : Trace) → IsRun plan start words schedule s
    → IsStory plan start (opened_on plan words) schedule tale → IsLinearizable start (operations (history_of s))
