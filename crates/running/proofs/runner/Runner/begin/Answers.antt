use Rattle.running.proofs.Common.{refl, sym, ◌∙◌, ap, rules, arith, act}
use Rattle.running.proofs.FitLemmas.{left-is}
use Rattle.running.proofs.StepLemmas.{invoke-first}
use Rattle.running.proofs.runner.Runner.begin.Goals as goal

pub returns-clause-first : goal.returns-clause-first
returns-clause-first c =
    let left = left-is _ c.args.number c.args.self.now c.requires.first in
    let some = c.requires.left in
    invoke-first _ c.args.number c.args.self.now c.requires.first c.args.call _ c.invoke-stamp.result
    c.invoke-stamp.ensures.invoked _ _ (omega arith)
    (search rules) refl (λ rest. c.begin.ensures.act rest ∙ ap (λ s. act s.shape s.variant c.args.call rest) (sym c.requires.setup))
