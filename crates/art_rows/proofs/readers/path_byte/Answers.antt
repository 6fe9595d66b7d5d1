use Rattle.std.proofs.Common.{◌∙◌, sym, arith}
use Rattle.art_rows.proofs.BytePlaces.{path_at, path_past}
use Rattle.art_rows.proofs.readers.path_byte.Goals as goal

pub returns-then-place-info_level : goal.returns-then-place-info_level
returns-then-place-info_level c =
    c.word_byte.ensures ∙ path_at c.args.kind c.args.info c.args.place (omega (arith, c.info_level.ensures.level)) (omega arith)

pub returns-else-place-info_level : goal.returns-else-place-info_level
returns-else-place-info_level c = sym (path_past c.args.kind c.args.info c.args.place (omega (arith, c.info_level.ensures.level)))
