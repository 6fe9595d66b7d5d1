use Rattle.history_text.proofs.DocumentLemmas.{one_history}
use Rattle.history_text.proofs.text_laws.one_history.Goals as goal

pub returns : goal.returns
returns c = one_history
