-- What comes after the limit and the rows begins with the schedule and the scripts.
use Rattle.plan_text.proofs.Common.{ap, sym, ◌∙◌, members_view, object_found}
use Rattle.plan_text.proofs.PartLemmas.{after_two}
use Rattle.plan_text.proofs.members.first_four.Goals as goal

pub returns-in_err-schedule-clause-none : goal.returns-in_err-schedule-clause-none
returns-in_err-schedule-clause-none c =
    rw c.from_residual-in_err-schedule.ensures (λ limit rows schedule scripts others h.
    c.in_err-schedule.ensures.none schedule scripts others
    (after_two _ _ _ _ limit rows _ _ _ (sym (object_found _ _ c.in_ok-as_object.ensures) ∙ h)
    (ap members_view (sym c.iter-members.ensures.rest) ∙ c.in_ok-limit.ensures.some)))
