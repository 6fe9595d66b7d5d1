use Rattle.history_text.proofs.SpaceTextLemmas.{same_history}
use Rattle.history_text.proofs.white_space_laws.spells_between_white_space.Goals as goal

pub returns : goal.returns
returns c = same_history
