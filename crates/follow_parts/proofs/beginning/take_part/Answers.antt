use Rattle.follow_parts.proofs.Common.{inl, refl}
use Rattle.follow_parts.proofs.ChangeLemmas.{with_new_part}
use Rattle.follow_parts.proofs.beginning.take_part.Goals as goal

pub returns-in-Some : goal.returns-in-Some
returns-in-Some c = record { here = c.in-Some.ensures.1; from = inl (refl, c.in-Some.ensures.0) }

pub returns : goal.returns
returns c =
    with_new_part c.args.key c.args.rest c.args.parts.now c.take_with.new.self c.part_of_key.result c.in_default.ensures.1 c.in_default.ensures.0
    c.part_of_key.ensures.rest c.part_of_key.ensures.part c.part_of_key.ensures.kept
