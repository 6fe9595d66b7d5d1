use Rattle.std.proofs.Common.{arith}
use Rattle.art_rows.proofs.WriterLemmas.{place16_few, place16_many}
use Rattle.art_rows.proofs.writers.new_key_place16.Goals as goal

pub returns-then-count-le8-clause-place : goal.returns-then-count-le8-clause-place
returns-then-count-le8-clause-place c =
    place16_few c.args.byte c.args.count c.args.first c.args.second c.key_count-count.result c.less_among.result
    c.key_count-count.ensures.count (omega arith)
    c.less_among.ensures.place

pub returns-else-count-le8-clause-place : goal.returns-else-count-le8-clause-place
returns-else-count-le8-clause-place c =
    place16_many c.args.byte c.args.count c.args.first c.args.second c.key_count-count.result c.less_among-else-count-le8.result
    c.less_among-else-count-le8-2.result c.key_count-count.ensures.count (omega arith) c.less_among-else-count-le8.ensures.place
    c.less_among-else-count-le8-2.ensures.place
