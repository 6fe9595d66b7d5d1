-- The rows that a call of a full tree holds at each of its stages. Here and in Holding the first
-- flag says that the variant locks what it reads, as the coupled tree does, and the second that the
-- call is an insert.
use Rattle.std.specs.Prelude.{ℕ, List, [], ◌∷◌, ◌++◌, map, Bool, true, false, Option, Some, None}
use Rattle.art_control_states.specs.declared.stage.HeldRow.{HeldRow}
use Rattle.art_control_states.specs.declared.stage.Position.{Position}
use Rattle.art_control_states.specs.declared.stage.Down.{Down}
use Rattle.art_control_states.specs.declared.stage.Hold.{Hold}
use Rattle.art_control_states.specs.declared.stage.Target.{Target}
use Rattle.art_control_states.specs.declared.stage.Target.TheVariants.{Root, Below, Taken}
use Rattle.art_control_states.specs.declared.stage.Stage.{Stage}
use Rattle.art_control_states.specs.declared.stage.Stage.TheVariants.{Lock, Exchange, Between, Info, Find, FindKeys, FindMore, FindCount, Slot}
use Rattle.art_control_states.specs.declared.stage.Stage.TheVariants.{LetGo, Take, Write}
use Rattle.art_control_states.specs.declared.stage.Stage.TheVariants.{ClaimPair, StorePair, PutLoad, PutStore, PutLeaf, PutKeys, PutMore, PutCount}
use Rattle.art_control_states.specs.declared.stage.Stage.TheVariants.{ClaimGrow}
use Rattle.art_control_states.specs.declared.stage.Stage.TheVariants.{GrowInfo, GrowLoad, GrowStore, SpreadIndex, SpreadLoad, SpreadStore, GrowLeaf}
use Rattle.art_control_states.specs.declared.stage.Stage.TheVariants.{GrowKeys}
use Rattle.art_control_states.specs.declared.stage.Stage.TheVariants.{GrowCount, Hang, Obsolete, Unlock}
use Rattle.art_control_states.specs.declared.stage.ScanStep.{ScanStep}
use Rattle.art_control_states.specs.declared.stage.ScanStep.TheVariants as scan
use Rattle.art_control_states.specs.Stages.{held}
use Rattle.art_control_states.specs.Scans.{Walk}

abbrev pub all_of : {A : Type 0} → Option A → List A
all_of None = []
all_of (Some a) = a ∷ []

-- A row that is held, by its base, its kind and the version from which it was locked: what its info says does not count.
abbrev pub lock_of : HeldRow → HeldRow
lock_of h = held h.base h.kind 0 h.kept

abbrev pub locks_of : List HeldRow → List HeldRow
locks_of hs = map lock_of hs

-- The rows by which a call goes down.

abbrev pub rows_of_hold : Hold → List HeldRow
rows_of_hold h = h.row ∷ all_of h.above

-- the row above, while the row below is locked
abbrev pub rows_of_target : Target → List HeldRow
rows_of_target Root = []
rows_of_target (Below d) = d.above ∷ []
rows_of_target (Taken t) = []

-- The rows held at a row if reads are locked: a get or a remove holds only this row. An insert also
-- holds the row above, until it knows that this one has room.
abbrev pub held_at_place : Bool → Bool → Position → List HeldRow
held_at_place true true p = p.row ∷ all_of p.above
held_at_place true false p = p.row ∷ []
held_at_place false i p = []

-- The row below is locked before the row above is unlocked;
abbrev pub held_between : Bool → Down → ℕ → List HeldRow
held_between true d kept = held d.base d.kind 0 kept ∷ d.above ∷ []
held_between false d kept = []

-- The rows that are held while the info of the row below is loaded: an insert has not unlocked the
-- row above yet.
abbrev pub held_below : Bool → Bool → Down → ℕ → List HeldRow
held_below true true d kept = held d.base d.kind 0 kept ∷ d.above ∷ []
held_below true false d kept = held d.base d.kind 0 kept ∷ []
held_below false i d kept = []

-- A call on a key. Without locks it holds nothing before it takes its rows; what it does with the rows that it holds is the same in both
-- trees.
abbrev pub held_at_stage : Bool → Bool → Stage → List HeldRow
held_at_stage l i (Lock t first) = rows_of_target t
held_at_stage l i (Exchange t v) = rows_of_target t
held_at_stage l i (Between d kept) = held_between l d kept
held_at_stage l i (Info d kept) = held_below l i d kept
held_at_stage l i (Find p) = held_at_place l i p
held_at_stage l i (FindKeys p count) = held_at_place l i p
held_at_stage l i (FindMore p count first) = held_at_place l i p
held_at_stage l i (FindCount p index) = held_at_place l i p
held_at_stage l i (Slot p slot) = held_at_place l i p
held_at_stage l i (LetGo above p f) = p.row ∷ above ∷ []
held_at_stage l i (Take t) = all_of t.held
held_at_stage l i (Write h slot word reply) = rows_of_hold h
held_at_stage l i (ClaimPair h p) = rows_of_hold h
held_at_stage l i (StorePair h p base word) = rows_of_hold h
held_at_stage l i (PutLoad h keys left) = rows_of_hold h
held_at_stage l i (PutStore h keys left word) = rows_of_hold h
held_at_stage l i (PutLeaf h keys) = rows_of_hold h
held_at_stage l i (PutKeys h keys) = rows_of_hold h
held_at_stage l i (PutMore h keys) = rows_of_hold h
held_at_stage l i (PutCount h keys) = rows_of_hold h
held_at_stage l i (ClaimGrow h slot keys) = rows_of_hold h
held_at_stage l i (GrowInfo g) = rows_of_hold g.hold
held_at_stage l i (GrowLoad g place left) = rows_of_hold g.hold
held_at_stage l i (GrowStore g place left word) = rows_of_hold g.hold
held_at_stage l i (SpreadIndex g place left) = rows_of_hold g.hold
held_at_stage l i (SpreadLoad s entry after) = rows_of_hold s.growing.hold
held_at_stage l i (SpreadStore s entry after word) = rows_of_hold s.growing.hold
held_at_stage l i (GrowLeaf g) = rows_of_hold g.hold
held_at_stage l i (GrowKeys g place left) = rows_of_hold g.hold
held_at_stage l i (GrowCount g) = rows_of_hold g.hold
held_at_stage l i (Hang g) = rows_of_hold g.hold
held_at_stage l i (Obsolete h) = rows_of_hold h
held_at_stage l i (Unlock h outcome) = rows_of_hold h
held_at_stage l i stage = []

-- A scan that locks holds every row that it has walked, and the row whose info it is to load; at its end, those that it has not released
-- yet.
abbrev pub scan_locked : ScanStep → Walk → List HeldRow
scan_locked (scan.Info base kind kept) w = w.rows ++ held base kind 0 kept ∷ []
scan_locked (scan.Release n) w = n ∷ w.rows
scan_locked scan.Over w = []
scan_locked step w = w.rows

abbrev pub scan_held : Bool → ScanStep → Walk → List HeldRow
scan_held true step w = scan_locked step w
scan_held false step w = []
