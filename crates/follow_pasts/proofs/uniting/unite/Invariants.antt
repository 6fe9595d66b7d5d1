use Rattle.follow_pasts.proofs.Common.{◌≡◌, length, into_iter_items, into_iter_len, IsTakenFrom, United}
use Rattle.follow_pasts.proofs.TogetherLemmas.{AreUniting}
use Rattle.follow_pasts.proofs.uniting.unite.Given as goal

-- the result is right for the parts so far
abbrev pub invariant-loop-part : goal.invariant-loop-part
invariant-loop-part l =
    ((first : United) × IsTakenFrom l.low l.high l.fn.rest l.rest first
    × AreUniting l.fn.met.items l.united (into_iter_items l.part-iterator) first)
    × (length (into_iter_items l.part-iterator) ≡ into_iter_len l.part-iterator)
