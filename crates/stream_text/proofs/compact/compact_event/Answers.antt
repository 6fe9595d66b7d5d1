use Rattle.std.proofs.Common.{arith}
use Rattle.stream_text.proofs.CompactLemmas.{all_spelled}
use Rattle.stream_text.proofs.compact.compact_event.Goals as goal

pub returns : goal.returns
returns c = all_spelled c.args.version c.args.line.now c.event_in.result (omega arith) c.event_in.ensures.text c.event_in.ensures.stands
