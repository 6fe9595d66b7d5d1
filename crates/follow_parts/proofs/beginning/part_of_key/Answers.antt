use Rattle.follow_parts.proofs.BegunLemmas.{is_part_of_key}
use Rattle.follow_parts.proofs.beginning.part_of_key.Goals as goal

pub returns-clause-part : goal.returns-clause-part
returns-clause-part c =
    is_part_of_key c.args.key c.args.rest c.remove-value.result
    (record { ranges = c.push.new.self; first = c.in_ok-first.first; found = c.new-2.result; others = c.new-3.result; tried = 0 })
    c.remove-value.ensures.was (cc (c.in_ok-first.ensures, c.in_ok-map.ensures, c.in_ok-pairs.ensures, c.deref.ensures.value))
    (cc (c.in_ok-push.ensures.items, c.new-ranges.ensures.items)) (cc) (cc)
