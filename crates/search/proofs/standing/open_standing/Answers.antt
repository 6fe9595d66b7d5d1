use Rattle.std.proofs.Common.{refl}
use Rattle.search.proofs.OpenLemmas.{IsStateBut-open}
use Rattle.search.proofs.standing.open_standing.Goals as goal

pub returns-clause-stands : goal.returns-clause-stands
returns-clause-stands c =
    IsStateBut-open c.args.map c.args.calls.now c.new.result.items c.after.result c.args.map c.in_ok-memo.memo c.in_ok-by_number.by_number
    c.in_ok-by_answer.by_answer c.requires.apart c.new.ensures.items refl c.in_ok-memo.ensures c.after.ensures.after
    c.in_ok-by_number.ensures.size c.in_ok-by_number.ensures.chain c.in_ok-by_answer.ensures.size c.in_ok-by_answer.ensures.chain
