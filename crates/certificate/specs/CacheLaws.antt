-- Laws of caches: in a recording of a cache, an evicted key is not a lost write.
use Rattle.std.specs.Prelude.{◌≡◌, ◌≢◌, ◌↔◌, ℕ, List, AllPairs}
use Rattle.events.specs.declared.operation.Operation.{Operation}
use Rattle.events.specs.HistoryView.{HistoryView}
use Rattle.events.specs.Events.{IsWellFormed}
use Rattle.events.specs.Histories.{IsHistory}
use Rattle.events.specs.Operations.{operations}
use Rattle.events.specs.Precedence.{NonePrecedesItself}
use Rattle.map_object.specs.MapObject.{Contents, IsRising}
use Rattle.orders.specs.Orders.{IsLinearizable, IsLinearizableHistory}
use Rattle.certificate.specs.Lossy.{IsLossyLinearizable, IsLossyLinearizableHistory}
use Rattle.certificate.specs.CacheRecordings.{recording_of}
use Rattle.certificate.specs.CacheRecords.{IsRecordOf}
use Rattle.certificate.specs.CacheValues.{AreAllKeys, AreBelow, NoneFoundWhereOther}

-- a cache that loses keys, and nothing else, is never refuted: if its calls are linearizable over
-- the lossy map, the recorded calls are linearizable
abbrev pub EvictedKeysAreNoLostWrites : Type 0
EvictedKeysAreNoLostWrites =
    (bound : ℕ) (keys : List ℕ) (start : Contents) (calls recorded : List Operation) → IsRising start → NonePrecedesItself calls
    → AreAllKeys keys start calls → IsRecordOf bound keys calls recorded → IsLossyLinearizable start calls → IsLinearizable start recorded

-- a cache that loses more is always refuted: if the recorded calls are linearizable, its calls are
-- linearizable over the lossy map
abbrev pub LostWritesAreRefuted : Type 0
LostWritesAreRefuted =
    (bound : ℕ) (keys : List ℕ) (start : Contents) (calls recorded : List Operation) → IsRising start → AreBelow bound start calls
    → NoneFoundWhereOther calls → IsRecordOf bound keys calls recorded → IsLinearizable start recorded → IsLossyLinearizable start calls

-- whole histories: that of a cache is linearizable over the lossy map exactly if its recording is
-- linearizable
abbrev pub RecordedCachesAreLossyMaps : Type 0
RecordedCachesAreLossyMaps =
    (bound : ℕ) (keys : List ℕ) (history recording : HistoryView) → IsHistory history → recording.start ≡ history.start
    → IsRecordOf bound keys (operations history.events) (operations recording.events)
    → AreAllKeys keys history.start (operations history.events) → AreBelow bound history.start (operations history.events)
    → NoneFoundWhereOther (operations history.events) → IsLossyLinearizableHistory history ↔ IsLinearizableHistory recording

-- each history has a recording: the event by event recording of it is well formed, and records its
-- calls
abbrev pub HistoriesOfCachesHaveRecordings : Type 0
HistoriesOfCachesHaveRecordings =
    (fresh : ℕ) (keys : List ℕ) (history : HistoryView) → IsHistory history → AllPairs (λ a b. a ≢ b) keys
    → IsWellFormed (recording_of fresh keys history).events
    × IsRecordOf fresh keys (operations history.events) (operations (recording_of fresh keys history).events)
