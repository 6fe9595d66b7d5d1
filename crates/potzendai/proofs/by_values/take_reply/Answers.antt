use Rattle.potzendai.proofs.Common.{[], ◌∷◌, ◌++◌, Option, sym, subst, IfSome, Reply, ReplyHasWords, HasTaken, reply_line}
use Rattle.potzendai.proofs.by_values.take_reply.Goals as goal

pub returns-in-Some-clause-added : goal.returns-in-Some-clause-added
returns-in-Some-clause-added c = λ budget lines words added.
    subst (λ (reply : Option Reply). HasTaken budget (lines ++ reply_line c.args.process reply ∷ []) c.take_reply.result) (sym c.in-Some.is)
    (c.take_reply.ensures.added budget lines (subst (λ (reply : Option Reply). IfSome reply ReplyHasWords) c.in-Some.is words) added)

pub returns-in-None-clause-added : goal.returns-in-None-clause-added
returns-in-None-clause-added c = λ budget lines words added.
    subst (λ (reply : Option Reply). HasTaken budget (lines ++ reply_line c.args.process reply ∷ []) c.take_lines.result) (sym c.in-None.is)
    (c.take_lines.ensures.added budget lines added)
