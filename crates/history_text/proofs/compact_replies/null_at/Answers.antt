use Rattle.history_text.proofs.CompactLemmas.{null_begins}
use Rattle.history_text.proofs.compact_replies.null_at.Goals as goal

pub returns : goal.returns
returns c = null_begins c.args.text.now c.in_ok-rest.rest.now c.in_ok-rest.ensures
