-- The one case in which a recording of a cache is too weak: a replace was answered `other`, and a
-- call of its key `found`.
use Rattle.events.specs.declared.event.Reply.TheVariants as replies
use Rattle.std.specs.Prelude.{[], ◌∷◌}
use Rattle.events.specs.declared.event.Call.TheVariants.{Get, Insert, Replace}
use Rattle.events.specs.declared.event.Event.TheVariants.{Invoke, Answer}
use Rattle.events.specs.HistoryView.{HistoryView, with_no_start}
use Rattle.events.specs.Histories.{IsHistory}
use Rattle.events.specs.Operations.{operations}
use Rattle.orders.specs.Orders.{IsLinearizableHistory}
use Rattle.certificate.specs.Lossy.{IsLossyLinearizableHistory}
use Rattle.certificate.specs.CacheRecords.{IsRecordOf}
use Rattle.certificate.specs.CacheValues.{AreAllKeys, AreBelow}

-- one process inserts 1 at the key 0; a replace of 1 finds another value or none; then a get finds
-- a value
abbrev pub found_after_other : HistoryView
found_after_other = with_no_start
    (Invoke 0 (Insert 0 1) ∷ Answer 0 replies.Done ∷ Invoke 0 (Replace 0 1 2) ∷ Answer 0 replies.Other ∷ Invoke 0 (Get 0)
    ∷ Answer 0 replies.Found ∷ [])

-- the recording, with 3 as the fresh value: the get finds it
abbrev pub recorded_found_after_other : HistoryView
recorded_found_after_other = with_no_start
    (Invoke 0 (Insert 0 1) ∷ Answer 0 replies.Done ∷ Invoke 0 (Replace 0 1 3) ∷ Answer 0 replies.Done ∷ Invoke 0 (Get 0)
    ∷ Answer 0 replies.Found ∷ [])

-- the recording is linearizable, and the history is not linearizable over the lossy map
pub record FoundAfterOtherIsMissed : Type 0 where
  pub history : IsHistory found_after_other
  pub recording : IsHistory recorded_found_after_other
  pub is_record : IsRecordOf 3 (0 ∷ []) (operations found_after_other.events) (operations recorded_found_after_other.events)
  pub keys : AreAllKeys (0 ∷ []) found_after_other.start (operations found_after_other.events)
  pub values : AreBelow 3 found_after_other.start (operations found_after_other.events)
  pub accepted : IsLinearizableHistory recorded_found_after_other
  pub refuted : IsLossyLinearizableHistory found_after_other → ⊥
