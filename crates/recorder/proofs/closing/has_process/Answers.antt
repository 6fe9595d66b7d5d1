use Rattle.recorder.proofs.Common.{◌≢◌, subst, All, take_all, process_number}
use Rattle.recorder.proofs.PassLemmas.{none-here}
use Rattle.recorder.proofs.closing.has_process.Goals as goal

pub returns : goal.returns
returns c =
    let passes = c.args.passes.now in
    let none = subst (All (λ p. process_number p ≢ c.args.process)) (take_all c.loop-pass.pass-index passes c.loop-pass-test.false)
    c.loop-pass.invariant in
    (λ h. cc, λ h. absurd (none-here c.args.process passes none h))
