use Rattle.history_text.proofs.SpaceTextLemmas.{same_value}
use Rattle.history_text.proofs.white_space_laws.white_space_tells_nothing.Goals as goal

pub returns : goal.returns
returns c = same_value
