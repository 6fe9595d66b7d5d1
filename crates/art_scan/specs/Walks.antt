-- What a scan has, as its automaton sees it, and the stage with it.
use Rattle.std.specs.Prelude.{◌≡◌, ◌⊎◌, ℕ, ◌+◌, ◌-◌, ◌*◌, ◌^◌, nat_le, List, [], ◌∷◌, Bool, true, false, ◌<◌, Option, Some, None}
use Rattle.std.specs.Prelude.{drop, reverse, vec_len, vec_capacity}
use Rattle.art_rows.specs.declared.table.Kind.{Kind}
use Rattle.art_rows.specs.declared.table.Kind.TheVariants.{FortyEight, Full}
use Rattle.art_rows.specs.Table.{child_at}
use Rattle.art_rows.specs.Words.{big_endian, info_of, place_of}
use Rattle.art_rows.specs.Scan.{with_leaf}
use Rattle.art_control_states.specs.declared.stage.HeldRow.{HeldRow}
use Rattle.art_control_states.specs.declared.stage.Frame.{Frame}
use Rattle.art_control_states.specs.Stages.{keys_among}
use Rattle.art_control_states.specs.Scans.{Walk, ScanAt, walked, words_at, child_from, lies, word_test, entry_slot, place_slot}
use Rattle.art_scan.specs.declared.lists.Lists.{Lists}
use Rattle.art_scan.specs.declared.children.WalkedByte.{WalkedByte}

-- the rows that are not yet released, the pairs, and the way with the lowest row first
abbrev pub walk_of : Lists → Walk
walk_of l = record { rows = drop l.released l.rows.items; pairs = l.pairs.items; way = reverse l.way.items }

-- there is room for a row, a pair and a row on the way
pub record HasRoomForOneMore (l : Lists) : Type 0 where
  pub rows : vec_len l.rows < vec_capacity l.rows
  pub pairs : vec_len l.pairs < vec_capacity l.pairs
  pub way : vec_len l.way < vec_capacity l.way

-- a leaf is met
abbrev pub with_pair : ℕ → ℕ → ℕ → ℕ → Walk → Walk
with_pair low high key value w = record { rows = w.rows; pairs = (with_leaf low high key value (walked w)).pairs; way = w.way }

-- the scan goes on to this byte of the frame, or else where it otherwise goes
abbrev pub child_or : Frame → Option WalkedByte → Walk → ScanAt → ScanAt
child_or f None w other = other
child_or f (Some b) w other = child_from w f b.next b.left b.slot

-- which bytes of a frame are walked, and the slot of each
abbrev pub frame_test : Kind → ℕ → ℕ → Frame → ℕ → Bool
frame_test FortyEight low high f = word_test low high f
frame_test kind low high f = lies low high f

abbrev pub frame_slot : Kind → Frame → ℕ → Option ℕ
frame_slot FortyEight f x = entry_slot f x
frame_slot Full f x = Some (child_at Full f.row.base x)
frame_slot kind f x = place_slot f.row.kind f.row.base (place_of x (keys_among kind f.keys))

-- one of its bytes has no slot, or is not walked
abbrev pub IsPassed : Kind → Frame → ℕ → Type 0
IsPassed kind f y = (frame_slot kind f y ≡ None) ⊎ ((low high : ℕ) → frame_test kind low high f y ≡ false)

-- some key under a byte of a row is not greater than this one
abbrev pub begins_by : ℕ → HeldRow → ℕ → Bool
begins_by high n x =
    nat_le ((256 * big_endian 0 (info_of n.kind n.info).path + x) * 256 ^ (3 - (info_of n.kind n.info).level)) high

-- after the bytes of a row come its index words, in kind 48
abbrev pub words_that_follow : Kind → ℕ → ℕ → HeldRow → Walk → ℕ → ℕ → ScanAt → ScanAt
words_that_follow FortyEight low high n w j m other = words_at low high n w (j + 1) m other
words_that_follow kind low high n w j m other = other

-- the list has an item
abbrev pub has_any : List ℕ → Bool
has_any [] = false
has_any (x ∷ xs) = true
