use Rattle.follow_violations.proofs.Common.{kept_of, Past, AreKeyLosses, ◌≡◌, ◌∙◌, [], ◌∷◌, ◌++◌, List, None, map, ap, subst, IfOk-weaker}
use Rattle.follow_violations.proofs.LossLemmas.{few_losses}
use Rattle.follow_violations.proofs.own_parts.losses_of_few.Goals as goal

pub returns : goal.returns
returns c =
    let past = c.in_ok-past.past in
    let pasts : c.deref.result.now ≡ past ∷ [] = c.deref.ensures.value ∙ (c.in_ok-push.ensures.items
    ∙ ap (λ (ps : List Past). ps ++ past ∷ []) c.new-pasts.ensures.items) in
    IfOk-weaker c.losses_in.result _ _
    (λ losses are. few_losses past c.args.start.now c.args.few.now c.args.puts.now losses.items c.in_ok-past.ensures.values c.in_ok-past.ensures.left
    (subst (λ (ps : List Past). AreKeyLosses None (map kept_of ps) c.args.puts.now losses.items) pasts are)) c.losses_in.ensures
