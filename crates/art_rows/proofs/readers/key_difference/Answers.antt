use Rattle.art_rows.proofs.Common.{◌∙◌, sym, arith, key_bytes}
use Rattle.art_rows.proofs.BytePlaces.{same_more}
use Rattle.art_rows.proofs.readers.key_difference.Goals as goal

pub loop-level-preserved : goal.loop-level-preserved
loop-level-preserved c =
    same_more (key_bytes c.args.a) (key_bytes c.args.b) c.loop-level.level c.loop-level.invariant
    (sym c.key_byte.ensures ∙ omega (arith, c.if-key_byte.false) ∙ c.key_byte-in-loop-level.ensures)
