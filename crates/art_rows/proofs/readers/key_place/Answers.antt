use Rattle.art_rows.proofs.Common.{◌/◌, ◌∙◌, sym, ap, arith, place_of}
use Rattle.art_rows.proofs.WriterLemmas.{keys4_from}
use Rattle.art_rows.proofs.readers.key_place.Goals as goal

pub returns-clause-place : goal.returns-clause-place
returns-clause-place c =
    c.place_among.ensures.place ∙ ap (place_of c.args.x) (sym (keys4_from c.args.keys c.keys_count.result c.keys_count.ensures.count))
