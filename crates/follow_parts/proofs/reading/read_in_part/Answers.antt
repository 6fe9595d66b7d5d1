use Rattle.follow_parts.proofs.Common.{List, ap, sym, ◌∙◌, subst, arith, All, Operation, MayCome, AreShaped, Past}
use Rattle.std.proofs.Common.{◌≢◌}
use Rattle.follow_parts.proofs.ReadLemmas.{others_shaped, others_differ, may_come, shaped_after, gone_in_part}
use Rattle.follow_parts.proofs.reading.read_in_part.Goals as goal

pub add_read-requires-clause-shaped : goal.add_read-requires-clause-shaped
add_read-requires-clause-shaped c =
    subst AreShaped (sym (c.deref_mut.ensures.value ∙ ap (λ r. r.3.items) c.apart-ranges.ensures)) (others_shaped c.args.part c.requires.part)

pub add_read-requires-clause-other : goal.add_read-requires-clause-other
add_read-requires-clause-other c =
    subst (λ (l : List Past). All (λ (past : Past). All (λ (p : Operation). p.inv ≢ c.args.operation.inv) past.calls.items) l)
    (sym (c.deref_mut.ensures.value ∙ ap (λ r. r.3.items) c.apart-ranges.ensures))
    (others_differ c.args.operation c.args.part c.requires.comes)

pub insert-requires : goal.insert-requires
insert-requires c =
    subst (λ (l : List Operation). MayCome l c.args.operation) (sym (ap (λ r. r.1.calls) c.apart-ranges.ensures))
    (may_come c.args.operation c.args.part c.requires.reported c.requires.last c.requires.comes)

pub first_alive-requires : goal.first_alive-requires
first_alive-requires c =
    let others = c.apart-ranges.result.3 in
    shaped_after c.args.operation others.len c.args.part.others.items others.items c.deref_mut.result.now c.add_read.new.pasts
    (ap (λ r. r.3.items) c.apart-ranges.ensures) c.deref_mut.ensures.value (omega (arith, others.ok.0)) c.in_ok-add_read.ensures c.requires.last
    (others_shaped c.args.part c.requires.part)

pub returns-clause-gone : goal.returns-clause-gone
returns-clause-gone c =
    let others = c.apart-ranges.result.3 in
    gone_in_part c.args.budget c.args.operation c.args.part c.apart-ranges.result.1 c.apart-ranges.result.2.items others.len others.items
    c.deref_mut.result.now c.add_read.new.pasts c.in_ok-kept.kept _ (ap (λ r. r.1) c.apart-ranges.ensures)
    (ap (λ r. r.2.items) c.apart-ranges.ensures) (ap (λ r. r.3.items) c.apart-ranges.ensures) c.deref_mut.ensures.value
    (omega (arith, others.ok.0)) c.in_ok-kept.ensures c.in_ok-add_read.ensures
    (λ pairs calls answer. c.in_ok-gone.ensures.gone pairs calls answer)
