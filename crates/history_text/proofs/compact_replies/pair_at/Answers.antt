use Rattle.history_text.proofs.CompactLemmas.{pair_begins}
use Rattle.history_text.proofs.compact_replies.pair_at.Goals as goal

pub returns : goal.returns
returns c =
    pair_begins c.in_ok-key.key c.in_ok-value.value c.args.text.now c.in_ok-text.text.now c.in_ok-key.rest.now c.in_ok-value.rest.now
    c.in_ok-text.ensures c.in_ok-key.ensures.text c.in_ok-value.ensures.text c.in_ok-key.ensures.fits c.in_ok-value.ensures.fits
