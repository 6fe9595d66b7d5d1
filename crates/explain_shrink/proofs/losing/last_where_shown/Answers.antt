use Rattle.explain_shrink.proofs.Common.{◌≡◌, ℕ, ◌-◌, List, length, map, take, drop, ap, ◌∙◌, subst, arith, IfOk, MatchOption, take_all, length-drop}
use Rattle.explain_shrink.proofs.Common.{Operation, AreEnough, IsReasonFor}
use Rattle.explain_shrink.specs.declared.explanation.Reason.{Reason}
use Rattle.explain_shrink.proofs.losing.last_where_shown.Goals as goal

pub returns : goal.returns
returns c =
    let calls = c.args.calls.now in
    let from = c.saturating_sub.result in
    let long = length-drop from calls in
    let last : take (length calls - from) (drop from calls) ≡ drop from calls =
    take_all (length calls - from) (drop from calls) (omega (arith, long)) in
    subst
    (λ (places : List ℕ). IfOk c.rest_where_shown.result (λ shown. MatchOption shown
    ((reason : Reason) × IsReasonFor c.args.map.now c.args.budget calls places reason) (λ rest. AreEnough c.args.map.now calls rest.items)))
    (c.deref.ensures.value
    ∙ (c.in_ok-places.ensures ∙ (ap (map (λ (a : Operation). a.inv)) last
    ∙ ap (λ (n : ℕ). map (λ (a : Operation). a.inv) (drop n calls)) c.saturating_sub.ensures)))
    c.rest_where_shown.ensures
