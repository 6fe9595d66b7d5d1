use Rattle.history_text.specs.Texts.{pair_data}
use Rattle.history_text.proofs.CompactLemmas.{values_begin}
use Rattle.history_text.proofs.compact_replies.pairs_at.Goals as goal

pub returns : goal.returns
returns c =
    rw c.pairs_reply.ensures
    (values_begin pair_data c.pairs_in.new.pairs.items c.args.text.now c.in_ok-text.text.now c.in_ok-rest.rest.now c.in_ok-text.ensures
    c.in_ok-rest.ensures.text c.in_ok-rest.ensures.plain)
