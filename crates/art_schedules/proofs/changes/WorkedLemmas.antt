-- How the work of a call comes to be an effect.
use Rattle.art_schedules.proofs.Common.{Four, Empty, Row, Leaf, child_on, ChildrenAreRead}
use Rattle.art_schedules.proofs.alone.PlaceLemmas.{sits-kind_at}
use Rattle.art_schedules.proofs.trees.Changes.{way_byte}
use Rattle.art_schedules.specs.changes.Worked.{StoredLeavesArePut, StoredZerosRemove, WrittenPairsAreHung, WrittenRowsAreHung}
use Rattle.art_schedules.proofs.changes.RowLemmas.{claimed-sits, slots-are-written}
use Rattle.art_schedules.proofs.changes.EffectLemmas.{parted-small}
use Rattle.art_schedules.proofs.changes.WrittenLemmas.{pairs-are-fresh, copies-are-fresh}

pub stored-leaves-are-put : ChildrenAreRead → StoredLeavesArePut
stored-leaves-are-put read s n calm later base kind x slot key value rest one leads free low few has =
    let byte = way_byte s calm key base kind x leads in
    record {
      leads = leads;
      free = free;
      row = slots-are-written read s n calm later base kind x slot (Leaf key value) rest leads.reached one byte has.at has.others
          (low, few) has.here;
    }

pub stored-zeros-remove : ChildrenAreRead → StoredZerosRemove
stored-zeros-remove read s n calm later base kind x slot key rest one leads free has = record {
  leads = leads;
  free = free;
  row = slots-are-written read s n calm later base kind x slot Empty rest leads.reached one (way_byte s calm key base kind x leads)
      has.at has.others tt
      has.here;
}

pub written-pairs-are-hung : ChildrenAreRead → WrittenPairsAreHung
written-pairs-are-hung read s n calm later written base kind x slot key value fresh d a rest one leads parts slotted pair same
    new filled = record {
      leads = leads;
      parts = parts;
      pair = pairs-are-fresh s written calm key value fresh d a (child_on s calm base kind x) pair same
          (parted-small calm key d a (child_on s calm base kind x) parts) new;
      filled = filled;
      row = slots-are-written read s n calm later base kind x slot (Row fresh Four) rest leads.reached one
          (way_byte s calm key base kind x leads) slotted.at
          slotted.others (sits-kind_at s fresh Four (claimed-sits s later fresh Four filled.claimed)) slotted.here;
    }

pub written-rows-are-hung : ChildrenAreRead → WrittenRowsAreHung
written-rows-are-hung read s n calm later words written base kind x slot key value full full_kind y fresh larger rest one above hangs leads
    empty slotted copy
    before same new filled = record {
      above = above;
      hangs = hangs;
      leads = leads;
      grown = copies-are-fresh s words written calm key value full full_kind y fresh larger copy before same
          (way_byte s calm key full full_kind y leads) empty
          new;
      filled = filled;
      row = slots-are-written read s n calm later base kind x slot (Row fresh larger) rest above.reached one
          (way_byte s calm key base kind x above) slotted.at
          slotted.others (sits-kind_at s fresh larger (claimed-sits s later fresh larger filled.claimed)) slotted.here;
    }
