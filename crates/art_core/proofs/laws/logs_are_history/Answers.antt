use Rattle.art_core.proofs.HistoryLemmas.{logs-are-history}
use Rattle.art_core.proofs.laws.logs_are_history.Goals as goal

pub returns : goal.returns
returns c = logs-are-history
