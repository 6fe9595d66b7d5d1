-- One answer only is exact.
use Rattle.search.proofs.Common.{ℕ, sym, ap, ◌∙◌, SegmentView, numbers_at, IsExactAnswer, AreSameAnswer}
use Rattle.search.proofs.LeastOrderLemmas.{IsLeastOrder-unique}
use Rattle.search.proofs.CountLemmas.{CountIsAbove-not_within, ReachesMoreThan-from_count}
use Rattle.search.specs.declared.found.Found.{Found}
use Rattle.search.specs.declared.found.Found.TheVariants.{Order, NoOrder, Spent}
use Rattle.search.specs.Found.{IsSoundAnswer}

pub one_exact_answer : (budget : ℕ) (segment : SegmentView) (a b : Found) → IsExactAnswer budget segment a
    → IsExactAnswer budget segment b → AreSameAnswer a b
one_exact_answer budget segment (Order a) (Order b) h k =
    h.0.1 ∙ ap (numbers_at segment) (IsLeastOrder-unique segment.start segment.calls h.0.0 k.0.0 h.0.2 k.0.2) ∙ sym k.0.1
one_exact_answer budget segment (Order a) NoOrder h k = k.0 (h.0.0, h.0.2.is_order)
one_exact_answer budget segment (Order a) Spent h k = CountIsAbove-not_within segment.start segment.calls budget k h.1
one_exact_answer budget segment NoOrder (Order b) h k = h.0 (k.0.0, k.0.2.is_order)
one_exact_answer budget segment NoOrder NoOrder h k = tt
one_exact_answer budget segment NoOrder Spent h k = CountIsAbove-not_within segment.start segment.calls budget k h.1
one_exact_answer budget segment Spent (Order b) h k = CountIsAbove-not_within segment.start segment.calls budget h k.1
one_exact_answer budget segment Spent NoOrder h k = CountIsAbove-not_within segment.start segment.calls budget h k.1
one_exact_answer budget segment Spent Spent h k = tt

-- the exact answer is sound
pub sound_from_exact : (budget : ℕ) (segment : SegmentView) (found : Found) → IsExactAnswer budget segment found
    → IsSoundAnswer budget segment found
sound_from_exact budget segment (Order order) h = (h.0.0, h.0.1, h.0.2.is_order)
sound_from_exact budget segment NoOrder h = h.0
sound_from_exact budget segment Spent h = ReachesMoreThan-from_count segment.start segment.calls budget h
