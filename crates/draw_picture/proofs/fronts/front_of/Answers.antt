use Rattle.events.specs.Operations.{operations}
use Rattle.draw_picture.proofs.FrontLemmas.{IsMarkable-from_verdict}
use Rattle.draw_picture.proofs.fronts.front_of.Goals as goal

pub returns-clause-markable : goal.returns-clause-markable
returns-clause-markable c =
    let history = c.args.history.now in
    IsMarkable-from_verdict history.start c.args.budget (operations history.events) c.args.verdict.now c.in_ok-front.front.items
    c.requires.shown c.in_ok-front.ensures
