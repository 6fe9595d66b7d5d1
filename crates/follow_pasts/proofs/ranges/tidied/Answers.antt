use Rattle.follow_pasts.proofs.Common.{List, map-id, sym, ap, ◌∙◌, list_any-IsPermutation, covered, Range}
use Rattle.std.proofs.lemmas.Iterator.Adapters.{YieldsList-from_vec}
use Rattle.std.proofs.lemmas.Iterator.Consumers.{YieldsList-end}
use Rattle.follow_pasts.proofs.RangeLemmas.{is_in}
use Rattle.follow_pasts.proofs.ranges.tidied.Goals as goal

pub returns : goal.returns
returns c = λ key.
    let from = YieldsList-from_vec c.sort_by_key.new.self.items c.into_iter-range-iterator.ensures.into_iter_gives.0
    (c.into_iter-range-iterator.ensures.into_iter_gives.1 ∙ c.sort_by_key.new.self.ok.0) in
    let (all, size) = YieldsList-end from c.loop-range.yielded c.loop-range.range-iterator c.loop-range.yielded_by c.next.result c.next.new.self c.in-None.is c.next.ensures.steps in
    c.loop-range.invariant key ∙ (ap (λ (rs : List Range). covered rs key) (sym (map-id c.loop-range.yielded) ∙ all)
    ∙ sym (list_any-IsPermutation (is_in key) c.args.ranges.items c.sort_by_key.new.self.items c.sort_by_key.ensures.permutation))
