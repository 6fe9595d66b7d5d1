use Rattle.std.proofs.Common.{sym, ◌∙◌}
use Rattle.art_scan.proofs.children.go_to_child.Goals as goal

pub returns-in-Some-clause-next : goal.returns-in-Some-clause-next
returns-in-Some-clause-next c = λ w other. c.in-Some.ensures.next w other ∙ sym (c.child_step.ensures.step w)
