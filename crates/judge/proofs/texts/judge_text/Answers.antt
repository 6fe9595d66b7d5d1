use Rattle.judge.proofs.Common.{rules, on_ok_weaker}
use Rattle.judge.proofs.texts.judge_text.Goals as goal

-- the verdict that the closure answered is one for which `judge` had the gate passed
pub returns-clause-passed : goal.returns-clause-passed
returns-clause-passed g c =
    on_ok_weaker c.judge_text_by.result
    (λ h.
    let shows = h.holds.1.shows in
    let met = h.holds.1.says.met in
    record { history = h.history; spelled = h.spelled; is_history = h.is_history; holds = search rules })
    c.judge_text_by.ensures.asked
