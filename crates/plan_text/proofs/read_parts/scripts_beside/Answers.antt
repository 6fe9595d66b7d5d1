-- A value spells one list of scripts only.
use Rattle.plan_text.proofs.Common.{refl, sym, ◌∙◌, map, IfNone-mapped}
use Rattle.plan_text.proofs.PartLemmas.{too_many_beside}
use Rattle.plan_text.proofs.read_parts.scripts_beside.Goals as goal

pub returns-clause-none : goal.returns-clause-none
returns-clause-none c =
    let here = rw c.in-Some.is at c.in_ok-scripts.ensures.some in
    IfNone-mapped c.few_beside.result c.few_beside.result refl
    (λ none scripts spelled few room. too_many_beside c.args.pairs scripts (map (λ script. script.items) c.in-Some.scripts.items)
    (sym spelled.value ∙ here.value) none few room)
    c.few_beside.ensures.none
