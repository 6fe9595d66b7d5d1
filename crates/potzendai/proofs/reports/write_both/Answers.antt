use Rattle.potzendai.proofs.Common.{◌≡◌, ◌-◌, ◌++◌, List, [], ℕ, length, take, drop, refl, ap, ◌∙◌, arith, append-nil, take_all, drop_all}
use Rattle.potzendai.proofs.Common.{length-drop, written}
use Rattle.potzendai.proofs.RoomLemmas.{written-more}
use Rattle.potzendai.proofs.reports.write_both.Goals as goal

pub returns-then-count-room : goal.returns-then-count-room
returns-then-count-room c =
    let text = c.args.text.now in
    let first = c.write.new.room in
    let last = c.write-then-count-room.new.room in
    let n = length text in
    let k = length first - n in
    let rest : take k (drop n first) ≡ drop n first = take_all k (drop n first) (omega (arith, length-drop n first)) in
    let none : drop k (drop n first) ≡ [] = drop_all k (drop n first) (omega (arith, length-drop n first)) in
    ap (λ (l : List ℕ). take n first ++ (last ++ l)) none
    ∙ ap (λ (l : List ℕ). take n first ++ l) (append-nil last)
    ∙ written-more text c.args.more.now c.args.room.now first last n refl (omega (arith, c.if-count-room.true, c.write.auto.room))
    c.write.ensures (c.write-then-count-room.ensures ∙ ap (λ (l : List ℕ). written c.args.more.now l) rest)
