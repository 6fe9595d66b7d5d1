use Rattle.follow_violations.proofs.LawLemmas.{own_parts_have_no_order}
use Rattle.follow_violations.proofs.own_parts.own_parts_have_no_order.Goals as goal

pub returns : goal.returns
returns c = own_parts_have_no_order
