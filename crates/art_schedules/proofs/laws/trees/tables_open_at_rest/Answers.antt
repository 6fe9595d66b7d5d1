use Rattle.art_schedules.proofs.trees.Opening.{tables-open}
use Rattle.art_schedules.proofs.laws.trees.tables_open_at_rest.Goals as goal

pub returns : goal.returns
returns c = tables-open
