-- Rows worked by hand, as equations on what the definitions compute.
use Rattle.std.specs.Prelude.{◌≡◌, ℕ, zero, suc, ◌+◌, ◌-◌, List, [], ◌∷◌, ◌++◌, length, map, replicate, slice_get, slice_index, Option}
use Rattle.std.specs.Prelude.{Some}
use Rattle.events.specs.declared.event.Call.{Call}
use Rattle.events.specs.declared.event.Call.TheVariants.{Get, Insert, Remove, Scan}
use Rattle.events.specs.declared.event.Reply.TheVariants as reply
use Rattle.events.specs.declared.event.Event.{Event}
use Rattle.events.specs.declared.event.Event.TheVariants.{Invoke, Answer}
use Rattle.art_rows.specs.declared.table.Shape.{Shape}
use Rattle.art_rows.specs.declared.variant.Variant.{Variant}
use Rattle.art_rows.specs.declared.variant.Variant.TheVariants.{Coupled, Optimistic, ReadUnchecked, ScanUnvalidated, LockUnchecked}
use Rattle.art_rows.specs.declared.variant.Variant.TheVariants.{EarlyRelease}
use Rattle.art_rows.specs.declared.access.Point.TheVariants as point
use Rattle.art_core.specs.declared.item.Item.{Item}
use Rattle.art_core.specs.declared.item.Item.TheVariants.{Turns, End, Until}
use Rattle.art_core.specs.Core.{Plan, history_of}
use Rattle.art_core.specs.Schedules.{Run, schedule_run}

unfoldable pub eights : Shape
eights = record { rows4 = 8; rows16 = 8; rows48 = 8; rows256 = 1 }

-- the words at these places, after the items
unfoldable pub words_at : Plan → List Item → List ℕ → List ℕ
words_at plan items ns = map (slice_index (schedule_run plan 5000 items).state.words) ns

unfoldable pub events : Plan → List Item → List Event
events plan items = history_of (schedule_run plan 1000 items).state

unfoldable pub last_event : List Event → Option Event
last_event es = slice_get es (length es - 1)

-- Coupled, three inserts with two common bytes, and a scan.
unfoldable pub deep : Plan
deep = record {
  shape = record { rows4 = 8; rows16 = 0; rows48 = 0; rows256 = 1 };
  variant = Coupled;
  scripts = (Insert 16777217 1 ∷ Insert 16777218 2 ∷ Insert 16842752 3 ∷ Scan 0 4294967295 ∷ []) ∷ [];
}

-- A get that checks nothing reads a shifted child.
unfoldable pub shifted : Variant → Plan
shifted v = record { shape = eights; variant = v; scripts = (Insert 5 50 ∷ Insert 9 90 ∷ Get 5 ∷ []) ∷ (Insert 3 30 ∷ []) ∷ [] }

unfoldable pub shifted_items : List Item
shifted_items = End 0 ∷ End 0 ∷ Until 0 point.Child ∷ End 1 ∷ End 0 ∷ []

-- A lock that checks nothing loses an insert.
unfoldable pub lost : Variant → Plan
lost v = record { shape = eights; variant = v; scripts = (Insert 5 50 ∷ []) ∷ (Insert 9 90 ∷ Get 9 ∷ []) ∷ [] }

unfoldable pub lost_items : List Item
lost_items = Until 0 point.LockRoot ∷ End 1 ∷ End 0 ∷ End 1 ∷ []

-- A scan that is not validated misses an insert that came before one that it has.
unfoldable pub torn : Variant → Plan
torn v = record { shape = eights; variant = v; scripts = (Scan 16777216 33554432 ∷ []) ∷ (Insert 16777216 1 ∷ Insert 33554432 2 ∷ []) ∷ [] }

unfoldable pub torn_items : List Item
torn_items = Turns 0 3 ∷ End 1 ∷ End 1 ∷ End 0 ∷ []

-- A remove that lets go of the row above too early works on a row that was replaced.
unfoldable pub early : Variant → Plan
early v =
    record {
      shape = eights;
      variant = v;
      scripts =
          (Remove 1 ∷ []) ∷ (Insert 1 10 ∷ Insert 2 20 ∷ Insert 3 30 ∷ Insert 4 40 ∷ Insert 5 50 ∷ Get 1 ∷ []) ∷ [];
    }

unfoldable pub early_items : List Item
early_items = End 1 ∷ End 1 ∷ End 1 ∷ End 1 ∷ Until 0 point.LockRow ∷ End 1 ∷ End 0 ∷ End 1 ∷ []

-- One process and one row of each kind: every kind grows.
unfoldable pub one_each : ℕ → Plan
one_each n = record {
  shape = record { rows4 = 1; rows16 = 1; rows48 = 1; rows256 = 1 };
  variant = Optimistic;
  scripts =
      (inserts 0 n ++ Get 47 ∷ []) ∷ [];
}
  where
    inserts : ℕ → ℕ → List Call
    inserts k zero = []
    inserts k (suc n) = Insert k 1 ∷ inserts (k + 1) n

-- How many events there are if the get stops after k of its turns and never goes on, and the insert
-- comes after it.
unfoldable pub count_events : Plan → ℕ → ℕ
count_events plan k = length (events_of (schedule_run plan 100 (End 0 ∷ End 0 ∷ Turns 0 k ∷ End 1 ∷ [])))
  where
    events_of : Run → List Event
    events_of r = history_of r.state

-- A get ends at a row whose path differs, after an insert of its key has hung a pair over that row: its moment is before.
unfoldable pub beside : Plan
beside = record {
  shape = eights;
  variant = Optimistic;
  scripts = (Insert 16777217 1 ∷ Insert 16777218 2 ∷ Get 16908288 ∷ []) ∷ (Insert
      16908288 3 ∷ []) ∷ [];
}

pub record WorkedRows : Type 0 where
  pub deep_words : words_at deep (End 0 ∷ End 0 ∷ End 0 ∷ []) (6 ∷ 7 ∷ 13 ∷ 14 ∷ 15 ∷ 64 ∷ []) ≡ 268 ∷ 131330 ∷ 260 ∷ 65538 ∷ 21 ∷ 49 ∷ []
  pub shifted_unchecked : events (shifted ReadUnchecked) shifted_items
      ≡ Invoke 0 (Insert 5 50) ∷ Answer 0 reply.None ∷ Invoke 0 (Insert 9 90) ∷ Answer 0 reply.None ∷ Invoke 0 (Get 5)
      ∷ Invoke 1 (Insert 3 30) ∷ Answer 1 reply.None ∷ Answer 0 reply.None ∷ []
  pub shifted_checked : events (shifted Optimistic) shifted_items
      ≡ Invoke 0 (Insert 5 50) ∷ Answer 0 reply.None ∷ Invoke 0 (Insert 9 90) ∷ Answer 0 reply.None ∷ Invoke 0 (Get 5)
      ∷ Invoke 1 (Insert 3 30) ∷ Answer 1 reply.None ∷ Answer 0 (reply.Some 50) ∷ []
  pub lost_unchecked : events (lost LockUnchecked) lost_items
      ≡ Invoke 0 (Insert 5 50) ∷ Invoke 1 (Insert 9 90) ∷ Answer 1 reply.None ∷ Answer 0 reply.None ∷ Invoke 1
      (Get 9) ∷ Answer 1 reply.None ∷ []
  pub lost_checked : events (lost Optimistic) lost_items
      ≡ Invoke 0 (Insert 5 50) ∷ Invoke 1 (Insert 9 90) ∷ Answer 1 reply.None ∷ Answer 0 reply.None ∷ Invoke 1 (Get 9) ∷ Answer 1
      (reply.Some 90) ∷ []
  pub torn_unchecked : events (torn ScanUnvalidated) torn_items
      ≡ Invoke 0 (Scan 16777216 33554432) ∷ Invoke 1 (Insert 16777216 1) ∷ Answer 1 reply.None ∷ Invoke 1
      (Insert 33554432 2) ∷ Answer 1 reply.None
      ∷ Answer 0 (reply.Pairs ((33554432, 2) ∷ [])) ∷ []
  pub torn_checked : events (torn Optimistic) torn_items
      ≡ Invoke 0 (Scan 16777216 33554432) ∷ Invoke 1 (Insert 16777216 1) ∷ Answer 1 reply.None ∷ Invoke 1
      (Insert 33554432 2) ∷ Answer 1 reply.None
      ∷ Answer 0 (reply.Pairs ((16777216, 1) ∷ (33554432, 2) ∷ [])) ∷ []
  pub early_release : events (early EarlyRelease) early_items
      ≡ Invoke 1 (Insert 1 10) ∷ Answer 1 reply.None ∷ Invoke 1 (Insert 2 20) ∷ Answer 1 reply.None ∷ Invoke 1
      (Insert 3 30) ∷ Answer 1 reply.None
      ∷ Invoke 1 (Insert 4 40) ∷ Answer 1 reply.None ∷ Invoke 0 (Remove 1) ∷ Invoke 1 (Insert 5 50) ∷ Answer 1 reply.None
      ∷ Answer 0 (reply.Some 10) ∷ Invoke 1 (Get 1) ∷ Answer 1 (reply.Some 10) ∷ []
  pub grown : words_at (one_each 17) (replicate 17 (End 0)) (0 ∷ 1 ∷ 2 ∷ 3 ∷ 4 ∷ 5 ∷ 12 ∷ 33 ∷ 34 ∷ 35 ∷ 37 ∷ 67 ∷ 116 ∷ 118 ∷ [])
      ≡ 34 ∷ 1 ∷ 1 ∷ 1 ∷ 1 ∷ 13 ∷ 49 ∷ 0 ∷ 14 ∷ 578437695752307201 ∷ 17 ∷ 17 ∷ 16 ∷ 133 ∷ []
  pub filled : words_at (one_each 49) (replicate 49 (End 0)) (4 ∷ 33 ∷ 67 ∷ 116 ∷ [])
      ≡ 2 ∷ 128 ∷ 48 ∷ 20 ∷ []
  pub stopped_optimistic : map (count_events (shifted Optimistic)) (0 ∷ 1 ∷ 5 ∷ 10 ∷ 11 ∷ []) ≡ 6 ∷ 7 ∷ 7 ∷ 7 ∷ 8 ∷ []
  pub stopped_coupled : map (count_events (shifted Coupled)) (0 ∷ 1 ∷ 2 ∷ 3 ∷ 10 ∷ 11 ∷ 12 ∷ []) ≡ 6 ∷ 7 ∷ 7 ∷ 6 ∷ 6 ∷ 7 ∷ 8 ∷ []
  -- the last event of the scan over all keys
  pub deep_scan : last_event (events deep (End 0 ∷ End 0 ∷ End 0 ∷ End 0 ∷ []))
      ≡ Some (Answer 0 (reply.Pairs ((16777217, 1) ∷ (16777218, 2) ∷ (16842752, 3) ∷ [])))
  pub beside_events : events beside (End 0 ∷ End 0 ∷ Turns 0 6 ∷ End 1 ∷ Turns 0 3 ∷ [])
      ≡ Invoke 0 (Insert 16777217 1) ∷ Answer 0 reply.None ∷ Invoke 0 (Insert 16777218 2) ∷ Answer 0 reply.None ∷ Invoke 0 (Get 16908288)
      ∷ Invoke 1 (Insert 16908288 3) ∷ Answer 1 reply.None ∷ Answer 0 reply.None ∷ []
