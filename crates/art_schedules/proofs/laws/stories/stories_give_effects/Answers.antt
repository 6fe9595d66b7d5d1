use Rattle.art_schedules.proofs.stories.StoryLemmas.{story-gives-effects}
use Rattle.art_schedules.proofs.laws.stories.stories_give_effects.Goals as goal

pub returns : goal.returns
returns c = story-gives-effects
