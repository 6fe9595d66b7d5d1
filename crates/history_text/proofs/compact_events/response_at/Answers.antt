use Rattle.history_text.proofs.CompactLemmas.{response_begins}
use Rattle.history_text.proofs.compact_events.response_at.Goals as goal

pub returns : goal.returns
returns c =
    response_begins c.in_ok-process.process c.in_ok-reply.reply c.args.text.now c.in_ok-text.text.now c.in_ok-reply.rest.now
    c.in_ok-process.rest.now c.in_ok-text.ensures c.in_ok-reply.ensures c.in_ok-process.ensures.text c.in_ok-process.ensures.fits
