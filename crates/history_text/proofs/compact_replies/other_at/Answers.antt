use Rattle.history_text.proofs.CompactLemmas.{other_begins}
use Rattle.history_text.proofs.compact_replies.other_at.Goals as goal

pub returns : goal.returns
returns c = other_begins c.args.text.now c.in_ok-rest.rest.now c.in_ok-rest.ensures
