-- What goes wrong on its own has no order, and its calls are of the events up to the loss.
use Rattle.std.proofs.Common.{sym, ◌∙◌}
use Rattle.explain_locate.proofs.EvidenceLemmas.{own_of}
use Rattle.explain_locate.proofs.showing.own_evidence.Goals as goal

pub explain_part-requires-clause-sorted : goal.explain_part-requires-clause-sorted
explain_part-requires-clause-sorted c =
    let own = own_of c.own_parts_have_no_order.ensures c.args.budget c.args.history.now c.args.loss.now c.in-Some.part c.requires.lost
    (sym c.in_ok-part.ensures ∙ c.in-Some.is) in
    own.sorted

pub explain_part-requires-clause-rising : goal.explain_part-requires-clause-rising
explain_part-requires-clause-rising c =
    let own = own_of c.own_parts_have_no_order.ensures c.args.budget c.args.history.now c.args.loss.now c.in-Some.part c.requires.lost
    (sym c.in_ok-part.ensures ∙ c.in-Some.is) in
    own.rising

pub explain_part-requires-clause-apart : goal.explain_part-requires-clause-apart
explain_part-requires-clause-apart c =
    let own = own_of c.own_parts_have_no_order.ensures c.args.budget c.args.history.now c.args.loss.now c.in-Some.part c.requires.lost
    (sym c.in_ok-part.ensures ∙ c.in-Some.is) in
    own.apart

pub explain_part-requires-clause-none : goal.explain_part-requires-clause-none
explain_part-requires-clause-none c =
    let own = own_of c.own_parts_have_no_order.ensures c.args.budget c.args.history.now c.args.loss.now c.in-Some.part c.requires.lost
    (sym c.in_ok-part.ensures ∙ c.in-Some.is) in
    own.none

pub returns-in_ok-few-in-Some-clause-refutes : goal.returns-in_ok-few-in-Some-clause-refutes
returns-in_ok-few-in-Some-clause-refutes c =
    let own = own_of c.own_parts_have_no_order.ensures c.args.budget c.args.history.now c.args.loss.now c.in-Some.part c.requires.lost
    (sym c.in_ok-part.ensures ∙ c.in-Some.is) in
    (own.sorted, c.in_ok-few-in-Some.ensures.enough.none)

pub returns-in_ok-few-in-Some-clause-calls : goal.returns-in_ok-few-in-Some-clause-calls
returns-in_ok-few-in-Some-clause-calls c =
    let own = own_of c.own_parts_have_no_order.ensures c.args.budget c.args.history.now c.args.loss.now c.in-Some.part c.requires.lost
    (sym c.in_ok-part.ensures ∙ c.in-Some.is) in
    own.are
