use Rattle.history_text.proofs.CompactLemmas.{done_begins}
use Rattle.history_text.proofs.compact_replies.done_at.Goals as goal

pub returns : goal.returns
returns c = done_begins c.args.text.now c.in_ok-rest.rest.now c.in_ok-rest.ensures
