use Rattle.search_choices.proofs.Common.{ℕ, take, get_or, sym, subst, ⊎_elim, Contains, false≢true, both_ways, take_all, take_more, Contains-push_cases}
use Rattle.search_choices.proofs.Common.{IsCallOf}
use Rattle.search_choices.proofs.choosing.is_of_one.Goals as goal

pub loop-key-preserved : goal.loop-key-preserved
loop-key-preserved c = λ key within of_key.
    let keys = c.args.keys.now in
    let i = c.loop-key.key-index in
    let own = get_or keys i 0 in
    ⊎_elim
    (λ old. c.loop-key.invariant key old of_key)
    (λ is. both_ways c.names.result c.if-names.false
    (c.names.ensures.1 (subst (λ (k : ℕ). IsCallOf k c.args.call.now) (sym is) of_key)))
    (Contains-push_cases (take i keys) own key (subst (λ xs. Contains xs key) (take_more keys i 0 c.loop-key-test.true) within))

pub returns : goal.returns
returns c = (
  λ yes. absurd (false≢true yes),
  λ (key, within, of_key). absurd (c.loop-key.invariant key
      (subst (λ xs. Contains xs key) (sym (take_all c.loop-key.key-index c.args.keys.now c.loop-key-test.false)) within) of_key),
)
