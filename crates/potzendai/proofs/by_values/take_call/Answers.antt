use Rattle.potzendai.proofs.Common.{[], ◌∷◌, ◌++◌, Option, sym, subst, IfSome, Call, CallHasWords, HasTaken, call_line}
use Rattle.potzendai.proofs.by_values.take_call.Goals as goal

pub returns-in-Some-clause-added : goal.returns-in-Some-clause-added
returns-in-Some-clause-added c = λ budget lines words added.
    subst (λ (call : Option Call). HasTaken budget (lines ++ call_line c.args.process call ∷ []) c.take_call.result) (sym c.in-Some.is)
    (c.take_call.ensures.added budget lines (subst (λ (call : Option Call). IfSome call CallHasWords) c.in-Some.is words) added)

pub returns-in-None-clause-added : goal.returns-in-None-clause-added
returns-in-None-clause-added c = λ budget lines words added.
    subst (λ (call : Option Call). HasTaken budget (lines ++ call_line c.args.process call ∷ []) c.take_lines.result) (sym c.in-None.is)
    (c.take_lines.ensures.added budget lines added)
