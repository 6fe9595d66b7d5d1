use Rattle.events.specs.declared.event.Event.TheVariants as events
use Rattle.history_text.specs.Texts.{event_data}
use Rattle.stream_text.proofs.CompactLemmas.{whole_line}
use Rattle.stream_text.proofs.compact.response.Goals as goal

pub returns-clause-text : goal.returns-clause-text
returns-clause-text c =
    whole_line c.in_ok-process.process c.in_ok-number.number (λ p. event_data (events.Answer p c.in_ok-number.reply)) c.args.line.now
    c.in_ok-number.rest.now c.in_ok-number.ensures c.in_ok-process.ensures.nothing c.in_ok-process.ensures.process
