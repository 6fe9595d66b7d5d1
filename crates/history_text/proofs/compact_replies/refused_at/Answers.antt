use Rattle.history_text.proofs.CompactLemmas.{refused_begins}
use Rattle.history_text.proofs.compact_replies.refused_at.Goals as goal

pub returns : goal.returns
returns c = refused_begins c.args.text.now c.in_ok-rest.rest.now c.in_ok-rest.ensures
