use Rattle.art_rows.proofs.WriterLemmas.{bytes4_with, power_most}
use Rattle.art_rows.proofs.writers.key_bytes_with.Goals as goal

pub returns-clause-bytes : goal.returns-clause-bytes
returns-clause-bytes c =
    bytes4_with c.args.byte c.args.keys c.keys_count.result c.new_key_place.result c.with_byte_between.result c.keys_count.ensures.count
    c.new_key_place.ensures.place
    c.with_byte_between.ensures.bytes

pub returns-clause-below : goal.returns-clause-below
returns-clause-below c = power_most c.keys_count.result c.with_byte_between.result c.keys_count.ensures.most c.with_byte_between.ensures.below
