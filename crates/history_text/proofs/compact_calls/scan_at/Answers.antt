use Rattle.history_text.proofs.CompactLemmas.{scan_begins}
use Rattle.history_text.proofs.compact_calls.scan_at.Goals as goal

pub returns-clause-call : goal.returns-clause-call
returns-clause-call c =
    scan_begins c.in_ok-low.low c.in_ok-high.high c.args.text.now c.in_ok-text.text.now c.in_ok-low.rest.now c.in_ok-high.rest.now
    c.in_ok-text.ensures c.in_ok-low.ensures.text c.in_ok-high.ensures.text c.in_ok-low.ensures.fits c.in_ok-high.ensures.fits
