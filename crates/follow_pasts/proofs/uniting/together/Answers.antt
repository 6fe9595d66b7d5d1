use Rattle.follow_pasts.proofs.Common.{◌≤◌, ◌++◌, List, length, ap, ◌∙◌, subst, ◌↔◌, ◌⊎◌, Contains, take_all, Operation, Found}
use Rattle.follow_pasts.proofs.uniting.together.Goals as goal

pub returns : goal.returns
returns c =
    let past = c.args.past.now in
    let other = c.args.other.now in
    let calls = c.in_ok-calls.calls.items in
    let i = c.loop-one.one-index in
    record {
      rises = c.in_ok-map.ensures.rises;
      pairs = c.in_ok-map.ensures.values;
      rising = c.in_ok-calls.ensures.rising;
      left = λ o. subst (λ (l : List Operation). Contains calls o ↔ (Contains l o ⊎ Contains other.calls.items o)) c.deref.ensures.value
          (subst (λ (l : List Operation). Contains calls o ↔ (Contains c.deref.result.now o ⊎ Contains l o)) c.deref-2.ensures.value
          (c.in_ok-calls.ensures.each o));
      found = c.loop-one.invariant
          ∙ ap (λ (l : List Found). past.found.items ++ l)
          (take_all i other.found.items (subst (λ (l : List Found). length l ≤ i) c.deref-one-items.ensures.value c.loop-one-test.false));
    }
