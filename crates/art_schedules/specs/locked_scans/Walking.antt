-- What a scan under lock coupling knows at each stage: alone on calm it has come there too, by
-- words of the rows that it holds.
use Rattle.std.specs.Prelude.{◌≡◌, ℕ, List, length, true}
use Rattle.events.specs.declared.event.Call.TheVariants.{Scan}
use Rattle.events.specs.declared.event.Reply.{Reply}
use Rattle.events.specs.declared.event.Reply.TheVariants as reply
use Rattle.art_rows.specs.declared.table.Shape.{Shape}
use Rattle.art_rows.specs.declared.variant.Variant.TheVariants.{Coupled}
use Rattle.art_control_states.specs.declared.stage.HeldRow.{HeldRow}
use Rattle.art_control_states.specs.declared.stage.ScanStep.{ScanStep}
use Rattle.art_control_states.specs.declared.stage.ScanStep.TheVariants.{Lock, Exchange}
use Rattle.art_control_states.specs.Stages.{setting}
use Rattle.art_control_states.specs.Scans.{ScanAt, at}
use Rattle.art_control_states.specs.Calls.{OnScan, call_begun}
use Rattle.art_core.specs.Core.{State}
use Rattle.art_schedules.specs.versions.Holding.{Each, holds}
use Rattle.art_schedules.specs.versions.Versions.{IsAtStage}
use Rattle.art_schedules.specs.changes.Follows.{KeepsTree}
use Rattle.art_schedules.specs.coupled.Walks.{Alone, SameOn, IsOver}
use Rattle.art_schedules.specs.coupled.Scanning.{KnowsTree}
use Rattle.art_schedules.specs.coupled.Knows.{IsHeldLive}

-- The stage without the waiting at a lock: the scan has not got the row yet.
abbrev pub unwaited : ScanAt → ScanAt
unwaited x = go x.step
  where
    go : ScanStep → ScanAt
    go (Lock entry first) = at (Lock entry true) x.walk
    go (Exchange entry v) = at (Lock entry true) x.walk
    go step = at step x.walk

-- the rows that the scan holds there
abbrev pub rows_of_scan : Shape → ℕ → ℕ → ScanAt → List HeldRow
rows_of_scan shape low high x = holds (setting shape Coupled (Scan low high)) (OnScan low high x)

-- Before its first release: alone on calm, where no lock is waited for, the scan comes to this
-- stage, by accesses to words of the rows that it holds. On these rows the words are those that it
-- has there; after the versions they are calm's.
pub record HasWalked (shape : Shape) (low high : ℕ) (calm words : List ℕ) (x : ScanAt) : Type 0 where
  pub now : List ℕ
  pub alone : Alone (setting shape Coupled (Scan low high)) (rows_of_scan shape low high x)
      (call_begun (setting shape Coupled (Scan low high))) calm
      (OnScan low high (unwaited x)) now
  pub long : length words ≡ length now
  pub same : SameOn (rows_of_scan shape low high x) now words
  pub own : Each (IsHeldLive calm words) (rows_of_scan shape low high x)

-- From its first release on it only releases the rows that it holds, to which it has not written, and answers this.
pub record HasPairsFound (shape : Shape) (low high : ℕ) (calm words : List ℕ) (r : Reply) (x : ScanAt) : Type 0 where
  pub walked : IsOver x.step
  pub is : r ≡ reply.Pairs x.walk.pairs
  pub own : Each (IsHeldLive calm words) (rows_of_scan shape low high x)

-- After its step the scan is at the next stage; the calm tree is as it was, and the scan alone has
-- come there,
pub record ScanGoes (shape : Shape) (low high : ℕ) (t : State) (p : ℕ) (calm after : List ℕ) : Type 0 where
  pub next : ScanAt
  pub at : IsAtStage Coupled shape t p (Scan low high) (OnScan low high next)
  pub keeps : KeepsTree shape calm after
  pub walked : HasWalked shape low high after t.words next

-- where it knows the calm tree, up to the end of its walk,
pub record ScanComes (shape : Shape) (low high : ℕ) (t : State) (p : ℕ) (calm after : List ℕ) : Type 0 where
  pub goes : ScanGoes shape low high t p calm after
  pub tree : (IsOver goes.next.step → ⊥) → KnowsTree shape after goes.next

-- or it has found its reply.
pub record ScanStays (shape : Shape) (low high : ℕ) (t : State) (p : ℕ) (calm after : List ℕ) (r : Reply) : Type 0 where
  pub next : ScanAt
  pub at : IsAtStage Coupled shape t p (Scan low high) (OnScan low high next)
  pub keeps : KeepsTree shape calm after
  pub found : HasPairsFound shape low high after t.words r next
