use Rattle.follow_violations.proofs.Common.{AreAdded, GivesDiffering, Contents, subst, on_ok_weaker}
use Rattle.follow_violations.proofs.NameLemmas.{differing_added}
use Rattle.follow_violations.proofs.named_keys.note_differing.Goals as goal

pub returns : goal.returns
returns c =
    let m = c.args.map.now in
    let n = c.args.other.now in
    let low = c.args.low in
    let high = c.args.high in
    let old = c.args.keys.now.items in
    let mid = c.note_pairs.new.keys.items in
    let new = c.note_pairs-2.new.keys.items in
    let first : AreAdded (GivesDiffering m n low high) m old mid =
    subst (λ (pairs : Contents). AreAdded (GivesDiffering m n low high) pairs old mid) c.pairs.ensures.pairs c.in_ok-note_pairs.ensures in
    on_ok_weaker c.note_pairs-2.result
    (λ second. differing_added m n low high old mid new first
    (subst (λ (pairs : Contents). AreAdded (GivesDiffering m n low high) pairs mid new) c.pairs-2.ensures.pairs second)) c.note_pairs-2.ensures
