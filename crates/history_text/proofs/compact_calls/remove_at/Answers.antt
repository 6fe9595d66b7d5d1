use Rattle.history_text.proofs.CompactLemmas.{remove_begins}
use Rattle.history_text.proofs.compact_calls.remove_at.Goals as goal

pub returns-clause-call : goal.returns-clause-call
returns-clause-call c =
    remove_begins c.in_ok-key.key c.args.text.now c.in_ok-text.text.now c.in_ok-key.rest.now c.in_ok-text.ensures c.in_ok-key.ensures.text
    c.in_ok-key.ensures.fits
