-- What a call of a full tree knows, keeps and fills at each of its stages. The flags are those of Locking.
use Rattle.std.specs.Prelude.{◌≡◌, ◌≢◌, ◌⊎◌, ℕ, ◌+◌, ◌%◌, ◌<◌, ◌≤◌, Bool, true, false, List, [], ◌∷◌, ◌++◌, Option, Some, None}
use Rattle.events.specs.declared.event.Call.{Call}
use Rattle.art_rows.specs.declared.table.Shape.{Shape}
use Rattle.art_rows.specs.declared.table.Kind.{Kind}
use Rattle.art_rows.specs.declared.table.Kind.TheVariants.{Four, Sixteen, FortyEight, Full}
use Rattle.art_rows.specs.declared.table.Child.{Child}
use Rattle.art_rows.specs.declared.table.Child.TheVariants.{Empty, Row as ChildRow, Leaf}
use Rattle.art_rows.specs.Table.{capacity, kind_at, child_at}
use Rattle.art_rows.specs.Words.{is_locked, child_of}
use Rattle.art_rows.specs.declared.variant.Variant.TheVariants.{Optimistic}
use Rattle.art_rows.specs.Rows.{Setting, is_insert, locks}
use Rattle.art_rows.specs.Updates.{next_kind}
use Rattle.art_control_states.specs.declared.stage.HeldRow.{HeldRow}
use Rattle.art_control_states.specs.declared.stage.Keys.{Keys}
use Rattle.art_control_states.specs.declared.stage.Finding.{Finding}
use Rattle.art_control_states.specs.declared.stage.Finding.TheVariants.{Has, Lacks}
use Rattle.art_control_states.specs.declared.stage.Position.{Position}
use Rattle.art_control_states.specs.declared.stage.Down.{Down}
use Rattle.art_control_states.specs.declared.stage.Hold.{Hold}
use Rattle.art_control_states.specs.declared.stage.Work.{Work}
use Rattle.art_control_states.specs.declared.stage.Work.TheVariants as work
use Rattle.art_control_states.specs.declared.stage.Target.{Target}
use Rattle.art_control_states.specs.declared.stage.Target.TheVariants.{Root, Below, Taken}
use Rattle.art_control_states.specs.declared.stage.Growing.{Growing}
use Rattle.art_control_states.specs.declared.stage.Spread.{Spread}
use Rattle.art_control_states.specs.declared.stage.Stage.{Stage}
use Rattle.art_control_states.specs.declared.stage.Stage.TheVariants.{Lock, Exchange, Wait, Leave, Between, Info, Find, FindKeys, FindMore}
use Rattle.art_control_states.specs.declared.stage.Stage.TheVariants.{FindCount, Slot, Check}
use Rattle.art_control_states.specs.declared.stage.Stage.TheVariants.{CheckLast, LetGo, Take, Write, ClaimPair, StorePair, PutLoad, PutStore}
use Rattle.art_control_states.specs.declared.stage.Stage.TheVariants.{PutLeaf, PutKeys, PutMore}
use Rattle.art_control_states.specs.declared.stage.Stage.TheVariants.{PutCount, ClaimGrow, GrowInfo, GrowLoad, GrowStore, SpreadIndex, SpreadLoad}
use Rattle.art_control_states.specs.declared.stage.Stage.TheVariants.{SpreadStore}
use Rattle.art_control_states.specs.declared.stage.Stage.TheVariants.{GrowLeaf, GrowKeys, GrowCount, Hang, Obsolete, Unlock, Over}
use Rattle.art_control_states.specs.declared.stage.Entry.{Entry}
use Rattle.art_control_states.specs.declared.stage.Entry.TheVariants.{Root as AtRoot, Below as BelowRow}
use Rattle.art_control_states.specs.declared.stage.Frame.{Frame}
use Rattle.art_control_states.specs.declared.stage.ScanStep.{ScanStep}
use Rattle.art_control_states.specs.declared.stage.ScanStep.TheVariants as scan
use Rattle.art_control_states.specs.Stages.{held, count_in, place_in, leaf_place}
use Rattle.art_control_states.specs.Scans.{Walk, ScanAt}
use Rattle.art_control_states.specs.Calls.{CallAt, OnKey, OnScan}
use Rattle.art_schedules.specs.versions.Locking.{all_of, locks_of, rows_of_hold, rows_of_target, scan_held, held_at_place, held_below}
use Rattle.art_schedules.specs.versions.Locking.{held_at_stage}

-- a call on the full optimistic tree
abbrev pub optimistic : Shape → Call → Setting
optimistic shape call = record { shape = shape; variant = Optimistic; call = call }

-- a row by its base and its kind
abbrev pub Named : Type 0
Named = ℕ × Kind

-- what is said of rows
abbrev pub OfRows : Type 1
OfRows = ℕ → Kind → Type 0

-- for each member
abbrev pub Each : {A : Type 0} → (A → Type 0) → List A → Type 0
Each P [] = Unit {0}
Each P (x ∷ xs) = P x × Each P xs

-- the word is that of a child of the row
abbrev pub IsSlot : ℕ → Kind → ℕ → Type 0
IsSlot base kind word = (i : ℕ) × (i < capacity kind) × (word ≡ child_at kind base i)

-- the row that a child is, if it is one
abbrev pub child_rows : Child → List Named
child_rows (ChildRow base kind) = (base, kind) ∷ []
child_rows Empty = []
child_rows (Leaf key value) = []

-- The rows whose version a call has kept: where reads are locked, those that it holds.

abbrev pub kept_at_place : Bool → Bool → Position → List HeldRow
kept_at_place true i p = held_at_place true i p
kept_at_place false i p = p.row ∷ all_of p.above

abbrev pub kept_below : Bool → Bool → Down → ℕ → List HeldRow
kept_below true i d kept = held_below true i d kept
kept_below false i d kept = held d.base d.kind 0 kept ∷ d.above ∷ []

abbrev pub rows_kept : Bool → Bool → Stage → List HeldRow
rows_kept l i (Lock t first) = rows_of_target t
rows_kept l i (Exchange t v) = rows_of_target t
rows_kept l i (Wait t) = rows_of_target t
rows_kept l i (Leave d) = []
rows_kept l i (Between d kept) = held d.base d.kind 0 kept ∷ d.above ∷ []
rows_kept l i (Info d kept) = kept_below l i d kept
rows_kept l i (Find p) = kept_at_place l i p
rows_kept l i (FindKeys p count) = kept_at_place l i p
rows_kept l i (FindMore p count first) = kept_at_place l i p
rows_kept l i (FindCount p index) = kept_at_place l i p
rows_kept l i (Slot p slot) = kept_at_place l i p
rows_kept l i (Check p f) = kept_at_place l i p
rows_kept l i (CheckLast n) = n ∷ []
rows_kept l i (LetGo above p f) = p.row ∷ above ∷ []
rows_kept l i (Take t) = t.row ∷ all_of t.held ++ all_of t.below
rows_kept l i (Write h slot word reply) = rows_of_hold h
rows_kept l i (ClaimPair h p) = rows_of_hold h
rows_kept l i (StorePair h p base word) = rows_of_hold h
rows_kept l i (PutLoad h keys left) = rows_of_hold h
rows_kept l i (PutStore h keys left word) = rows_of_hold h
rows_kept l i (PutLeaf h keys) = rows_of_hold h
rows_kept l i (PutKeys h keys) = rows_of_hold h
rows_kept l i (PutMore h keys) = rows_of_hold h
rows_kept l i (PutCount h keys) = rows_of_hold h
rows_kept l i (ClaimGrow h slot keys) = rows_of_hold h
rows_kept l i (GrowInfo g) = rows_of_hold g.hold
rows_kept l i (GrowLoad g place left) = rows_of_hold g.hold
rows_kept l i (GrowStore g place left word) = rows_of_hold g.hold
rows_kept l i (SpreadIndex g place left) = rows_of_hold g.hold
rows_kept l i (SpreadLoad s entry after) = rows_of_hold s.growing.hold
rows_kept l i (SpreadStore s entry after word) = rows_of_hold s.growing.hold
rows_kept l i (GrowLeaf g) = rows_of_hold g.hold
rows_kept l i (GrowKeys g place left) = rows_of_hold g.hold
rows_kept l i (GrowCount g) = rows_of_hold g.hold
rows_kept l i (Hang g) = rows_of_hold g.hold
rows_kept l i (Obsolete h) = rows_of_hold h
rows_kept l i (Unlock h outcome) = rows_of_hold h
rows_kept l i (Over outcome) = []

-- The other rows that it knows the base of.

abbrev pub rows_found : Finding → List Named
rows_found (Has slot child) = child_rows child
rows_found (Lacks keys) = []

abbrev pub rows_of_work : Shape → Work → List Named
rows_of_work s (work.Write slot word reply) = child_rows (child_of s word)
rows_of_work s (work.Pair p) = child_rows p.child
rows_of_work s (work.Put keys) = []
rows_of_work s (work.Grow slot keys) = []

abbrev pub rows_of_wait : Target → List Named
rows_of_wait Root = []
rows_of_wait (Below d) = (d.base, d.kind) ∷ []
rows_of_wait (Taken t) = []

abbrev pub rows_known : Shape → Stage → List Named
rows_known s (Lock t first) = rows_of_wait t
rows_known s (Exchange t v) = rows_of_wait t
rows_known s (Wait t) = rows_of_wait t
rows_known s (Check p f) = rows_found f
rows_known s (LetGo above p f) = rows_found f
rows_known s (Take t) = rows_of_work s t.work
rows_known s (Write h slot word reply) = child_rows (child_of s word)
rows_known s (ClaimPair h p) = child_rows p.child
rows_known s (StorePair h p base word) = child_rows p.child
rows_known s (PutStore h keys left word) = child_rows (child_of s word)
rows_known s (GrowStore g place left word) = child_rows (child_of s word)
rows_known s (SpreadStore x entry after word) = child_rows (child_of s word)
rows_known s (Hang g) = (g.base, next_kind g.hold.row.kind) ∷ []
rows_known s stage = []

-- The fresh row that it fills.

abbrev pub row_grown : Growing → List Named
row_grown g = (g.base, next_kind g.hold.row.kind) ∷ []

abbrev pub row_filled : Stage → List Named
row_filled (StorePair h p base word) = (base, Four) ∷ []
row_filled (GrowInfo g) = row_grown g
row_filled (GrowLoad g place left) = row_grown g
row_filled (GrowStore g place left word) = row_grown g
row_filled (SpreadIndex g place left) = row_grown g
row_filled (SpreadLoad s entry after) = row_grown s.growing
row_filled (SpreadStore s entry after word) = row_grown s.growing
row_filled (GrowLeaf g) = row_grown g
row_filled (GrowKeys g place left) = row_grown g
row_filled (GrowCount g) = row_grown g
row_filled stage = []

-- What it knows of slots and places.

abbrev pub IsUnder : Option HeldRow → HeldRow → ℕ → Type 0
IsUnder None n slot = n.kind ≡ Full
IsUnder (Some a) n slot = IsSlot a.base a.kind slot

-- the row above, which is held too, has the slot
abbrev pub HangsIn : Option HeldRow → ℕ → Type 0
HangsIn None slot = ⊥
HangsIn (Some a) slot = IsSlot a.base a.kind slot

abbrev pub IsFound : HeldRow → Finding → Type 0
IsFound n (Has slot child) = IsSlot n.base n.kind slot
IsFound n (Lacks keys) = Unit {0}

-- the slot is one of the row; where reads are locked, of one of the rows that are held
abbrev pub HasSlot : Bool → Hold → ℕ → Type 0
HasSlot true h slot = IsSlot h.row.base h.row.kind slot ⊎ HangsIn h.above slot
HasSlot false h slot = IsSlot h.row.base h.row.kind slot

-- a child more has its place in the row
abbrev pub HasPlace : Kind → Keys → Type 0
HasPlace Full keys = ⊥
HasPlace kind keys = count_in kind keys < capacity kind

abbrev pub FitsWork : HeldRow → Option HeldRow → Work → Type 0
FitsWork n above (work.Write slot word reply) = IsSlot n.base n.kind slot
FitsWork n above (work.Pair p) = IsSlot n.base n.kind p.slot
FitsWork n above (work.Put keys) = count_in n.kind keys < capacity n.kind
FitsWork n above (work.Grow slot keys) = HangsIn above slot

abbrev pub FitsTaking : HeldRow → Option HeldRow → Option HeldRow → Work → Type 0
FitsTaking n above None work = FitsWork n above work
FitsTaking n None (Some m) work = FitsWork m (Some n) work
FitsTaking n (Some a) (Some m) work = ⊥

abbrev pub FitsTarget : Target → Type 0
FitsTarget Root = Unit {0}
FitsTarget (Below d) = IsSlot d.above.base d.above.kind d.slot
FitsTarget (Taken t) = ⊥

-- Stages if reads are locked, and if they are not.

abbrev pub OnlyLocked : Bool → Type 0
OnlyLocked true = Unit {0}
OnlyLocked false = ⊥

abbrev pub OnlyUnlocked : Bool → Type 0
OnlyUnlocked true = ⊥
OnlyUnlocked false = Unit {0}

-- A version that a call keeps: LOCK takes one that is not locked, and WAIT one that is not obsolete either.
abbrev pub IsVersion : Bool → ℕ → Type 0
IsVersion true v = is_locked v ≡ false
IsVersion false v = v % 4 ≡ 0

abbrev pub FitsDown : Down → Type 0
FitsDown d = IsSlot d.above.base d.above.kind d.slot

abbrev pub FitsPlace : Position → Type 0
FitsPlace p = IsUnder p.above p.row p.slot

-- if the row above is unlocked, the call is no insert
abbrev pub FitsBetween : Bool → Bool → Down → Type 0
FitsBetween true true d = ⊥
FitsBetween true false d = FitsDown d
FitsBetween false i d = FitsDown d

abbrev pub FitsCheck : Bool → Position → Finding → Type 0
FitsCheck true p f = ⊥
FitsCheck false p f = FitsPlace p × IsFound p.row f

-- what was found there leaves the row above as it is
abbrev pub HasRoom : HeldRow → Finding → Type 0
HasRoom n (Has slot child) = Unit {0}
HasRoom n (Lacks keys) = count_in n.kind keys < capacity n.kind

abbrev pub FitsLetGo : Bool → Bool → Position → Finding → Type 0
FitsLetGo true true p f = (p.above ≡ None) × IsFound p.row f × HasRoom p.row f
FitsLetGo true false p f = ⊥
FitsLetGo false i p f = ⊥

-- a row that is copied child by child
abbrev pub IsCopied : Kind → Type 0
IsCopied Four = Unit {0}
IsCopied Sixteen = Unit {0}
IsCopied FortyEight = ⊥
IsCopied Full = ⊥

abbrev pub FitsGrowing : Growing → Type 0
FitsGrowing g = HangsIn g.hold.above g.slot

abbrev pub FitsSpread : Spread → ℕ → ℕ → Type 0
FitsSpread s entry after =
    FitsGrowing s.growing × (s.growing.hold.row.kind ≡ FortyEight) × (s.place + s.left < 32) × (entry + after < 8)

abbrev pub FitsStage : Bool → Bool → Setting → Stage → Type 0
FitsStage l i c (Lock t first) = OnlyLocked l × FitsTarget t
FitsStage l i c (Exchange t v) = OnlyLocked l × FitsTarget t × IsVersion l v
FitsStage l i c (Wait t) = OnlyUnlocked l × FitsTarget t
FitsStage l i c (Leave d) = ⊥
FitsStage l i c (Between d kept) = FitsBetween l i d
FitsStage l i c (Info d kept) = FitsDown d
FitsStage l i c (Find p) = FitsPlace p
FitsStage l i c (FindKeys p count) = FitsPlace p
FitsStage l i c (FindMore p count first) = FitsPlace p
FitsStage l i c (FindCount p index) = FitsPlace p
FitsStage l i c (Slot p slot) = FitsPlace p × IsSlot p.row.base p.row.kind slot
FitsStage l i c (Check p f) = FitsCheck l p f
FitsStage l i c (CheckLast n) = OnlyUnlocked l
FitsStage l i c (LetGo above p f) = FitsLetGo l i p f
FitsStage l i c (Take t) = OnlyUnlocked l × FitsTaking t.row t.held t.below t.work
FitsStage l i c (Write h slot word reply) = HasSlot l h slot
FitsStage l i c (ClaimPair h p) = HasSlot l h p.slot
FitsStage l i c (StorePair h p base word) = HasSlot l h p.slot
FitsStage l i c (PutLoad h keys left) = HasPlace h.row.kind keys × (place_in c h keys + left + 1 < capacity h.row.kind)
FitsStage l i c (PutStore h keys left word) = HasPlace h.row.kind keys × (place_in c h keys + left + 1 < capacity h.row.kind)
FitsStage l i c (PutLeaf h keys) = HasPlace h.row.kind keys × (leaf_place h.row.kind c h keys < capacity h.row.kind)
FitsStage l i c (PutKeys h keys) = HasPlace h.row.kind keys
FitsStage l i c (PutMore h keys) = h.row.kind ≡ Sixteen
FitsStage l i c (PutCount h keys) = (h.row.kind ≡ Sixteen) ⊎ (h.row.kind ≡ FortyEight)
FitsStage l i c (ClaimGrow h slot keys) = HangsIn h.above slot
FitsStage l i c (GrowInfo g) = FitsGrowing g
FitsStage l i c (GrowLoad g place left) = FitsGrowing g × IsCopied g.hold.row.kind × (place + left < capacity g.hold.row.kind)
FitsStage l i c (GrowStore g place left word) = FitsGrowing g × IsCopied g.hold.row.kind × (place + left < capacity g.hold.row.kind)
FitsStage l i c (SpreadIndex g place left) = FitsGrowing g × (g.hold.row.kind ≡ FortyEight) × (place + left < 32)
FitsStage l i c (SpreadLoad s entry after) = FitsSpread s entry after
FitsStage l i c (SpreadStore s entry after word) = FitsSpread s entry after
FitsStage l i c (GrowLeaf g) = FitsGrowing g
FitsStage l i c (GrowKeys g place left) = FitsGrowing g × IsCopied g.hold.row.kind × (place + left < 32)
FitsStage l i c (GrowCount g) = FitsGrowing g × IsCopied g.hold.row.kind
FitsStage l i c (Hang g) = FitsGrowing g
FitsStage l i c (Obsolete h) = Unit {0}
FitsStage l i c (Unlock h outcome) = Unit {0}
FitsStage l i c (Over outcome) = Unit {0}

-- What a scan knows at each stage.

abbrev pub rows_entered : Entry → List Named
rows_entered AtRoot = []
rows_entered (BelowRow base kind) = (base, kind) ∷ []

abbrev pub rows_walked : ScanStep → List Named
rows_walked (scan.Lock entry first) = rows_entered entry
rows_walked (scan.Exchange entry v) = rows_entered entry
rows_walked (scan.Wait entry) = rows_entered entry
rows_walked (scan.Info base kind kept) = (base, kind) ∷ []
rows_walked (scan.Keys n) = (n.base, n.kind) ∷ []
rows_walked (scan.FirstKeys n count) = (n.base, n.kind) ∷ []
rows_walked (scan.SecondKeys n count first) = (n.base, n.kind) ∷ []
rows_walked (scan.Index n index words) = (n.base, n.kind) ∷ []
rows_walked step = []

abbrev pub FitsFrame : OfRows → Frame → Type 0
FitsFrame P f = P f.row.base f.row.kind × (f.byte + f.left ≤ 256)

-- none of these rows is the one that was locked last
abbrev pub IsFresh : Bool → ℕ → List HeldRow → Type 0
IsFresh true base rows = Each (λ n. n.base ≢ base) rows
IsFresh false base rows = Unit {0}

abbrev pub FitsScan : Bool → OfRows → ScanStep → Walk → Type 0
FitsScan l P (scan.Lock entry first) w = OnlyLocked l
FitsScan l P (scan.Exchange entry version) w = OnlyLocked l × IsVersion l version
FitsScan l P (scan.Wait entry) w = OnlyUnlocked l
FitsScan l P (scan.Info base kind kept) w = IsFresh l base w.rows
FitsScan l P (scan.Index n index words) w = (n.kind ≡ FortyEight) × (index < 32)
FitsScan l P (scan.Child f slot) w = FitsFrame P f × IsSlot f.row.base f.row.kind slot
FitsScan l P step w = Unit {0}

-- a row whose version is kept so
abbrev pub IsKept : Bool → OfRows → HeldRow → Type 0
IsKept l P h = IsVersion l h.kept × P h.base h.kind

abbrev pub IsNamed : OfRows → Named → Type 0
IsNamed P m = P m.0 m.1

-- All that a call knows, where P is so of the rows that it has met.
pub record KnowsRows (P : OfRows) (l i : Bool) (c : Setting) (stage : Stage) : Type 0 where
  pub kept : Each (IsKept l P) (rows_kept l i stage)
  pub known : Each (IsNamed P) (rows_known c.shape stage)
  pub fits : FitsStage l i c stage
  pub filled : Each (λ m. kind_at c.shape m.0 ≡ Some m.1) (row_filled stage)

abbrev pub KnowsKey : OfRows → Setting → Stage → Type 0
KnowsKey P c stage = KnowsRows P (locks c.variant) (is_insert c.call) c stage

pub record KnowsScanRows (P : OfRows) (l : Bool) (at : ScanAt) : Type 0 where
  pub kept : Each (IsKept l P) (scan_held l at.step at.walk)
  pub known : Each (IsNamed P) (rows_walked at.step)
  pub fits : FitsScan l P at.step at.walk
  pub way : Each (FitsFrame P) at.walk.way

abbrev pub Knows : OfRows → Setting → CallAt → Type 0
Knows P c (OnKey stage) = KnowsKey P c stage
Knows P c (OnScan low high at) = KnowsScanRows P (locks c.variant) at

-- the rows that it holds, each with the version from which it was locked,
abbrev pub holds : Setting → CallAt → List HeldRow
holds c (OnKey stage) = locks_of (held_at_stage (locks c.variant) (is_insert c.call) stage)
holds c (OnScan low high at) = locks_of (scan_held (locks c.variant) at.step at.walk)

-- the row that a call fills
abbrev pub fills : CallAt → List Named
fills (OnKey stage) = row_filled stage
fills (OnScan low high at) = []
