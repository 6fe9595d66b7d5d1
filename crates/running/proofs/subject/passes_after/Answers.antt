use Rattle.running.proofs.Common.{◌≡◌, length, map, arith, IfOk-weaker, AreAfter}
use Rattle.running.proofs.DriveLemmas.{length-values, each-pass}
use Rattle.running.proofs.subject.passes_after.Goals as goal

pub returns-clause-many : goal.returns-clause-many
returns-clause-many g c =
    let done = c.in_ok-done.done in
    let of = done.ok.0 in
    let many = c.in_ok-done.ensures.many in
    IfOk-weaker c.all_passes.result _ (λ passes. length passes.items ≡ length c.args.scripts.now)
    (λ passes all. let same = length-values done.items passes.items all in omega arith) c.all_passes.ensures

pub returns-clause-after : goal.returns-clause-after
returns-clause-after g c =
    let may = g.S.Subject.may_answer c.args.subject.now in
    let r = c.args.recorder.now in
    let scripts = map (λ script. script.items) c.args.scripts.now in
    IfOk-weaker c.all_passes.result _ (λ passes. AreAfter may r scripts passes.items)
    (λ passes all. each-pass may r scripts c.in_ok-done.done.items passes.items c.in_ok-done.ensures.done all) c.all_passes.ensures
