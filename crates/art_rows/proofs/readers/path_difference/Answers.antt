use Rattle.art_rows.proofs.Common.{sym, arith, info_of, key_bytes}
use Rattle.art_rows.proofs.BytePlaces.{length-path, difference_at, difference_none}
use Rattle.art_rows.proofs.readers.path_difference.Goals as goal

pub returns-then-path_byte-key_byte : goal.returns-then-path_byte-key_byte
returns-then-path_byte-key_byte c =
    sym (difference_at (info_of c.args.kind c.args.info).path (key_bytes c.args.key) c.loop-place.place
    (omega (arith, length-path c.args.kind c.args.info, c.info_level-place-end.ensures.level, c.loop-place-test.true))
    (omega (arith, c.info_level-place-end.ensures.most, c.loop-place-test.true)) c.loop-place.invariant
    (λ same. omega (arith, c.if-path_byte-key_byte.true, c.path_byte.ensures, c.key_byte.ensures, same)))

pub returns : goal.returns
returns c =
    sym (difference_none (info_of c.args.kind c.args.info).path (key_bytes c.args.key)
    (omega (arith, length-path c.args.kind c.args.info, c.info_level-place-end.ensures.level, c.info_level-place-end.ensures.most))
    (λ k within. c.loop-place.invariant k
    (omega (arith, length-path c.args.kind c.args.info, c.info_level-place-end.ensures.level, c.loop-place-test.false, within))))
