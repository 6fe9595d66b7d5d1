use Rattle.history_text.proofs.compact_events.invoke_at.Goals as goal

pub returns-clause-text : goal.returns-clause-text
returns-clause-text c = rw c.in_ok-process.ensures c.in_ok-number.ensures.text
