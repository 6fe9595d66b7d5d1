use Rattle.std.proofs.Common.{sym, arith}
use Rattle.art_rows.proofs.BytePlaces.{low_byte}
use Rattle.art_rows.proofs.readers.word_byte.Goals as goal

pub returns-then-place-lt8 : goal.returns-then-place-lt8
returns-then-place-lt8 c = sym (low_byte 8 c.args.place c.args.word (omega arith))
