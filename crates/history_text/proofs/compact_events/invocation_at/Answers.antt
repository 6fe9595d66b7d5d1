use Rattle.history_text.proofs.CompactLemmas.{invocation_begins}
use Rattle.history_text.proofs.compact_events.invocation_at.Goals as goal

pub returns-clause-text : goal.returns-clause-text
returns-clause-text c =
    invocation_begins c.in_ok-process.process c.in_ok-call.call c.args.text.now c.in_ok-text.text.now c.in_ok-call.rest.now
    c.in_ok-process.rest.now c.in_ok-text.ensures c.in_ok-call.ensures.call c.in_ok-process.ensures.text c.in_ok-process.ensures.fits
