use Rattle.follow_orders.proofs.Common.{◌++◌, ap, sym, ◌∙◌, subst, Contains, IsOrder-from_front, places}
use Rattle.follow_orders.proofs.AnswerLemmas.{again_or-some}
use Rattle.follow_orders.proofs.answering.push_again.Goals as goal

pub returns-clause-whole : goal.returns-clause-whole
returns-clause-whole c = λ yes.
    let n = c.push_all.new.front in
    let path = places c.args.front.now.levels.items in
    let same = again_or-some c.args.place c.args.again.now c.is_empty.result c.is_empty.ensures c.if-is_empty.false in
    let is = c.in_ok-pushed.ensures.all yes ∙ ap (λ xs. path ++ xs) (sym same) in
    IsOrder-from_front n.start c.args.calls.now (places n.levels.items) c.in_ok-pushed.ensures.stands.is_front
    (λ k done. subst (λ xs. Contains xs k) (sym is) (c.requires.complete k done))
