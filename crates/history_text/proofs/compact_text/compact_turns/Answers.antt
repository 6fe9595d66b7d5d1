use Rattle.std.proofs.Common.{arith}
use Rattle.history_text.proofs.CompactLemmas.{spells_text}
use Rattle.history_text.proofs.compact_text.compact_turns.Goals as goal

pub returns-clause-spelled : goal.returns-clause-spelled
returns-clause-spelled c =
    spells_text c.args.text.now c.document_in.new.turns (omega arith) c.in_ok-document_in.ensures.spelled
