use Rattle.history_text.proofs.CompactLemmas.{insert_begins}
use Rattle.history_text.proofs.compact_calls.insert_at.Goals as goal

pub returns-clause-call : goal.returns-clause-call
returns-clause-call c =
    insert_begins c.in_ok-key.key c.in_ok-value.value c.args.text.now c.in_ok-text.text.now c.in_ok-key.rest.now c.in_ok-value.rest.now
    c.in_ok-text.ensures c.in_ok-key.ensures.text c.in_ok-value.ensures.text c.in_ok-key.ensures.fits c.in_ok-value.ensures.fits
