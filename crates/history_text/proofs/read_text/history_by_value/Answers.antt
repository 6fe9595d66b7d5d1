use Rattle.std.proofs.lemmas.Result.{err_from_is_err_and}
use Rattle.history_text.proofs.TextFaultLemmas.{memory_alone, fault_of_document}
use Rattle.history_text.proofs.read_text.history_by_value.Goals as goal

pub returns-in_err-value-clause-accepted : goal.returns-in_err-value-clause-accepted
returns-in_err-value-clause-accepted c = λ history spelled sound.
    let p = err_from_is_err_and c.from_residual.result c.from_residual.ensures.1 in
    rw (p.1, p.2) (memory_alone c.args.text.now history _ spelled sound c.in_err-value.ensures.refused)

pub returns-in_err-history-clause-accepted : goal.returns-in_err-history-clause-accepted
returns-in_err-history-clause-accepted c = λ history spelled sound.
    let p = err_from_is_err_and c.from_residual-in_err-history.result c.from_residual-in_err-history.ensures.1 in
    rw (p.1, p.2)
    (memory_alone c.args.text.now history _ spelled sound
    (fault_of_document c.args.text.now _ _ c.in_ok-value.ensures.ok c.in_err-history.ensures.refused))
