use Rattle.running.proofs.Common.{ap, sym, ◌∙◌, merge}
use Rattle.running.proofs.GatherLemmas.{merge-last}
use Rattle.running.proofs.gathering.move_last.Goals as goal

pub returns-clause-items : goal.returns-clause-items
returns-clause-items c =
    ap (λ l. merge l c.pop.new.self.items) c.put.ensures.items
    ∙ (sym (merge-last c.args.runners.now.items c.pop.new.self.items c.in-Some.runner)
    ∙ ap (merge c.args.runners.now.items) (sym c.in-Some.ensures.items))
