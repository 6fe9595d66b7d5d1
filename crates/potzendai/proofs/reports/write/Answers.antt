use Rattle.std.proofs.Common.{◌≡◌, length}
use Rattle.potzendai.proofs.RoomLemmas.{written-is}
use Rattle.potzendai.proofs.reports.write.Goals as goal

pub returns : goal.returns
returns c = written-is c.args.text.now c.args.room.now c.copy_from_slice.new.self c.min-count.result
    (λ (none : length c.args.room.now ≡ 0). let t = rw none at c.is_empty.ensures in cc) c.min-count.ensures
    c.copy_from_slice.ensures.after
