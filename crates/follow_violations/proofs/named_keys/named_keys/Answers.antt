use Rattle.std.proofs.Common.{inl, inr, ⊎_elim}
use Rattle.follow_violations.proofs.named_keys.named_keys.Goals as goal

pub returns-clause-named : goal.returns-clause-named
returns-clause-named c key =
    let all = c.in_ok-all.ensures.named key in
    let own = c.in_ok-keys.ensures.own key in (
      λ key_in. ⊎_elim (λ here. inr (own.0 here)) (λ named. inl named) (all.0 key_in),
      λ either. all.1 (⊎_elim (λ named. inr named) (λ is. inl (own.1 is)) either),
    )
