use Rattle.follow_parts.proofs.Common.{◌≡◌, ◌<◌, ◌∙◌, List, sym, ap, subst, AllPairs, remove, Operation, rising_without}
use Rattle.follow_parts.proofs.answering.without.Goals as goal

pub find-requires-clause-rising : goal.find-requires-clause-rising
find-requires-clause-rising c =
    let calls = c.args.first.calls in
    let same : c.remove-refused.new.self.items ≡ remove calls c.args.place =
    c.remove-refused.ensures.items ∙ ap (λ (l : List Operation). remove l c.args.place) c.in_ok-map.ensures.calls in
    subst (λ (l : List Operation). AllPairs (λ a b. a.inv < b.inv) l) (sym same)
    (rising_without calls c.args.place c.requires c.into_parts.ensures.kept.rising)
