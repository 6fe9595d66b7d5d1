use Rattle.art_schedules.proofs.stories.StoryLemmas.{story-gives-orders}
use Rattle.art_schedules.proofs.laws.stories.stories_give_orders.Goals as goal

pub returns : goal.returns
returns c = story-gives-orders c.effects_give_orders.ensures
