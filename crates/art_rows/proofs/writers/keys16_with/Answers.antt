use Rattle.std.proofs.Common.{arith}
use Rattle.art_rows.proofs.WriterLemmas.{first_few, first_many, first_kept}
use Rattle.art_rows.proofs.writers.keys16_with.Goals as goal

pub returns-then-count-lt8 : goal.returns-then-count-lt8
returns-then-count-lt8 c =
    first_few c.args.byte c.args.count c.args.first c.args.second c.key_count-count.result c.new_key_place16-place.result c.with_byte_between.result
    c.key_count-count.ensures.count c.new_key_place16-place.ensures.place (omega arith) c.with_byte_between.ensures.bytes

pub returns-then-place-lt8 : goal.returns-then-place-lt8
returns-then-place-lt8 c =
    first_many c.args.byte c.args.count c.args.first c.args.second c.key_count-count.result c.new_key_place16-place.result
    c.with_byte_between-then-place-lt8.result c.key_count-count.ensures.count c.new_key_place16-place.ensures.place (omega arith) (omega arith)
    c.with_byte_between-then-place-lt8.ensures.bytes

pub returns-else-place-lt8 : goal.returns-else-place-lt8
returns-else-place-lt8 c =
    first_kept c.args.byte c.args.count c.args.first c.args.second c.key_count-count.result c.new_key_place16-place.result 0
    c.key_count-count.ensures.count c.new_key_place16-place.ensures.place (omega arith) (omega arith) (omega arith)
