use Rattle.history_text.specs.Texts.{pair_data}
use Rattle.history_text.proofs.CompactLemmas.{values_begin, no_values_begin}
use Rattle.history_text.proofs.compact_text.start_at.Goals as goal

pub returns-in-Some-clause-text : goal.returns-in-Some-clause-text
returns-in-Some-clause-text c =
    no_values_begin pair_data _ c.args.text.now c.in-Some.rest.now c.in-Some.ensures c.requires.none

pub returns-clause-text : goal.returns-clause-text
returns-clause-text c =
    values_begin pair_data c.start_in.new.turns.start c.args.text.now c.in_ok-items.items.now c.in_ok-rest.rest.now c.in_ok-items.ensures
    c.in_ok-rest.ensures.text c.in_ok-rest.ensures.plain
