use Rattle.merge_orders.proofs.Common.{get_or, subst, arith, Contains, Contains-get_or, operations, inv_rises}
use Rattle.merge_orders.proofs.UniqueMergeLemmas.{same_order-from_point}
use Rattle.merge_orders.proofs.OnceLemmas.{NameCallsOnce-from_segments}
use Rattle.merge_orders.proofs.laws.segments_share_no_point.Goals as goal

pub returns : goal.returns
returns c history orders is_history are i j d before within m n m_is n_is same =
    let once = NameCallsOnce-from_segments history.start history.events orders is_history.events are in
    let order = get_or orders i d in
    let other = get_or orders j d in
    let one =
    same_order-from_point (operations history.events) orders order other m n (inv_rises history.events) once.known once.disjoint
    (Contains-get_or orders i d (omega arith))
    (Contains-get_or orders j d within) m_is n_is same in
    once.disjoint i j d before within m m_is (subst (λ o. Contains o m) one m_is)
