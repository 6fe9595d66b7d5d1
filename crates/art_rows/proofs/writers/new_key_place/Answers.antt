use Rattle.art_rows.proofs.WriterLemmas.{place4}
use Rattle.art_rows.proofs.writers.new_key_place.Goals as goal

pub returns-clause-place : goal.returns-clause-place
returns-clause-place c = place4 c.args.byte c.args.keys c.keys_count.result c.less_among.result c.keys_count.ensures.count
    c.less_among.ensures.place
