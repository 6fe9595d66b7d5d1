use Rattle.potzendai.proofs.Common.{◌≡◌, [], ◌∷◌, ◌++◌, Option, Result, subst, IfOk, IfSome, Reply, ReplyHasWords, HasTaken, reply_line}
use Rattle.events.specs.declared.memory.Memory.{Memory}
use Rattle.potzendai.proofs.by_values.take_answer.Goals as goal

pub returns-in-Ok-clause-added : goal.returns-in-Ok-clause-added
returns-in-Ok-clause-added c = λ budget lines given same words added.
    let is = subst (λ (r : Result (Option Reply) Memory). IfOk r (λ found. found ≡ given)) c.in-Ok.is same in
    subst (λ (reply : Option Reply). HasTaken budget (lines ++ reply_line c.args.process reply ∷ []) c.take_reply.result) is
    (c.take_reply.ensures.added budget lines (subst (λ (r : Result (Option Reply) Memory). IfOk r (λ found. IfSome found ReplyHasWords)) c.in-Ok.is words)
    added)

pub returns-in-Err-clause-added : goal.returns-in-Err-clause-added
returns-in-Err-clause-added c = λ budget lines given same words added. c.out_of_memory.ensures.added budget lines (reply_line c.args.process given) added
