use Rattle.history_text.proofs.CompactLemmas.{value_begins}
use Rattle.history_text.proofs.compact_replies.value_at.Goals as goal

pub returns : goal.returns
returns c = value_begins c.in_ok-value.value c.args.text.now c.in_ok-value.rest.now c.in_ok-value.ensures.text c.in_ok-value.ensures.fits
