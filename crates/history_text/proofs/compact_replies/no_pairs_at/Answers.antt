use Rattle.history_text.specs.Texts.{pair_data}
use Rattle.history_text.proofs.CompactLemmas.{no_values_begin}
use Rattle.history_text.proofs.compact_replies.no_pairs_at.Goals as goal

pub returns : goal.returns
returns c = rw c.pairs_reply.ensures (no_values_begin pair_data _ c.args.text.now c.in_ok-rest.rest.now c.in_ok-rest.ensures c.new.ensures.items)
