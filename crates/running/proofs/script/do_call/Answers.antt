use Rattle.std.proofs.Common.{refl}
use Rattle.running.proofs.ScriptLemmas.{call-more, own-more}
use Rattle.running.proofs.AnswerLemmas.{AnswersFit-more}
use Rattle.running.proofs.script.do_call.Goals as goal

pub returns-clause-calls : goal.returns-clause-calls
returns-clause-calls g c = call-more c.in_default.ensures.recorded c.in_default-answer.ensures.recorded

pub returns-clause-events : goal.returns-clause-events
returns-clause-events g c = λ own. own-more c.in_default-answer.ensures.recorded refl (own-more c.in_default.ensures.recorded refl own)

pub returns-clause-answered : goal.returns-clause-answered
returns-clause-answered g c = λ own fit.
    AnswersFit-more (g.S.Subject.may_answer c.args.subject.now) c.in_default.ensures.recorded c.in_default-answer.ensures.recorded own
    c.requires.idle fit
    c.call-reply.ensures.answer
