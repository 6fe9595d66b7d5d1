use Rattle.history_text.proofs.CompactLemmas.{replace_begins}
use Rattle.history_text.proofs.compact_calls.replace_at.Goals as goal

pub returns-clause-call : goal.returns-clause-call
returns-clause-call c =
    replace_begins c.in_ok-key.key c.in_ok-old.old c.in_ok-new.new c.args.text.now c.in_ok-text.text.now c.in_ok-key.rest.now
    c.in_ok-old.rest.now c.in_ok-new.rest.now c.in_ok-text.ensures c.in_ok-key.ensures.text c.in_ok-old.ensures.text
    c.in_ok-new.ensures.text c.in_ok-key.ensures.fits c.in_ok-old.ensures.fits c.in_ok-new.ensures.fits
