-- A scan under way, as its automaton sees it.
use Rattle.std.specs.Prelude.{ℕ, Option, Some, None}
use Rattle.art_rows.specs.Rows.{Setting}
use Rattle.art_control_states.specs.Scans.{Walk, ScanAt, at, no_walk, scan_after}
use Rattle.art_scan.specs.declared.lists.Lists.{Lists}
use Rattle.art_scan.specs.declared.scanning.Scanning.{Scanning}
use Rattle.art_scan.specs.Walks.{walk_of, HasRoomForOneMore}

-- before it has room for any, it has no rows and no pairs
abbrev pub walk_in : Option Lists → Walk
walk_in None = no_walk
walk_in (Some lists) = walk_of lists

abbrev pub scan_of : Scanning → ScanAt
scan_of s = at s.step (walk_in s.lists)

-- the keys between which it goes
abbrev pub low_of : Scanning → ℕ
low_of s = s.low

abbrev pub high_of : Scanning → ℕ
high_of s = s.high

-- the scan's stage after a word
abbrev pub scan_after_word : Setting → Scanning → ℕ → ScanAt
scan_after_word c s word = scan_after c (low_of s) (high_of s) (scan_of s) word

abbrev pub HaveRoom : Option Lists → Type 0
HaveRoom None = ⊥
HaveRoom (Some lists) = HasRoomForOneMore lists

-- it has the room for what the next access gets
abbrev pub IsRoomy : Scanning → Type 0
IsRoomy s = HaveRoom s.lists
