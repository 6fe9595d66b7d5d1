use Rattle.art_schedules.proofs.trees.Descents.{keys-part}
use Rattle.art_schedules.proofs.laws.trees.keys_part.Goals as goal

pub returns : goal.returns
returns c = keys-part
