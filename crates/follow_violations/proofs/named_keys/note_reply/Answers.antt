use Rattle.follow_violations.proofs.Common.{DiffersWithin, ListsOther, pairs_in, Contents, value_at, ◌∙◌, ap, on_ok_weaker}
use Rattle.follow_violations.proofs.NameLemmas.{added_as, pairs_listed}
use Rattle.follow_violations.proofs.named_keys.note_reply.Goals as goal

pub returns-in_ok-listed-in-Pairs : goal.returns-in_ok-listed-in-Pairs
returns-in_ok-listed-in-Pairs c =
    let pairs = c.args.map.now in
    let listed = c.in_ok-listed-in-Pairs.listed in
    let low = c.args.low in
    let high = c.args.high in
    on_ok_weaker c.note_differing.result
    (λ added. added_as (DiffersWithin listed pairs low high) (ListsOther pairs c.args.reply.now low high) c.args.keys.now.items
    c.note_differing.new.keys.items
    (λ key. pairs_listed pairs c.in-Pairs.pairs listed c.args.reply.now low high key (ap pairs_in c.in-Pairs.is)
    (λ k. c.in_ok-listed-in-Pairs.ensures k ∙ ap (λ (m : Contents). value_at m k) c.as_slice.ensures)) added) c.note_differing.ensures
