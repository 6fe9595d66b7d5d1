use Rattle.std.proofs.Common.{refl, rules}
use Rattle.running.proofs.StepLemmas.{is-answered, response-first, response-replied}
use Rattle.running.proofs.runner.Runner.respond.Goals as goal

pub answer-stamp-requires-clause-next : goal.answer-stamp-requires-clause-next
answer-stamp-requires-clause-next c = is-answered _ c.args.number c.args.self.now c.in-Answered.reply c.requires.first (search rules)

pub returns-clause-first : goal.returns-clause-first
returns-clause-first c =
    response-first _ c.args.number c.args.self.now c.in-Answered.reply c.requires.first (search rules) _ c.answer-stamp.result
    c.answer-stamp.ensures.made _ refl
    (search rules) (search rules)

pub returns-clause-told : goal.returns-clause-told
returns-clause-told c = λ reply is.
    response-replied _ c.args.number c.args.self.now reply c.requires.first is _ c.answer-stamp.result c.answer-stamp.ensures.made
