use Rattle.history_text.proofs.CompactLemmas.{found_begins}
use Rattle.history_text.proofs.compact_replies.found_at.Goals as goal

pub returns : goal.returns
returns c = found_begins c.args.text.now c.in_ok-rest.rest.now c.in_ok-rest.ensures
