-- The text of a replay: JSON whose value is that of its parts, in one of two versions.
use Rattle.std.specs.Prelude.{◌≡◌, ℕ, List, [], ◌∷◌, map, Option, Some, None, is_some, codes}
use Rattle.serde_json.specs.Data.{Data, string, Members, object, no_members, member}
use Rattle.map_object.specs.MapObject.{Contents}
use Rattle.history_text.specs.Texts.{number_data, list_data, pair_data, IsJson}
use Rattle.art_rows.specs.declared.table.Shape.{Shape}
use Rattle.art_rows.specs.declared.access.Point.{Point}
use Rattle.art_rows.specs.declared.access.Point.TheVariants.{Child, Check, LockRoot, LockRow, Unlock, Answer}
use Rattle.art_rows.specs.declared.variant.Variant.{Variant}
use Rattle.art_rows.specs.declared.variant.Variant.TheVariants.{Coupled, Optimistic, ReadUnchecked, ScanUnvalidated, LockUnchecked}
use Rattle.art_rows.specs.declared.variant.Variant.TheVariants.{EarlyRelease}
use Rattle.art_core.specs.declared.item.Item.{Item}
use Rattle.art_core.specs.declared.item.Item.TheVariants.{Turns, End, Until}
use Rattle.plan_text.specs.Scripts.{SpellsScripts}
use Rattle.plan_text.specs.Replays.{ReplayView, IsReplay}

-- ---- the values that JSON gives them

abbrev pub variant_name : Variant → List ℕ
variant_name Coupled = codes "coupled"
variant_name Optimistic = codes "optimistic"
variant_name ReadUnchecked = codes "read-unchecked"
variant_name ScanUnvalidated = codes "scan-unvalidated"
variant_name LockUnchecked = codes "lock-unchecked"
variant_name EarlyRelease = codes "early-release"

abbrev pub point_name : Point → List ℕ
point_name Child = codes "child"
point_name Check = codes "check"
point_name LockRoot = codes "lock-root"
point_name LockRow = codes "lock-row"
point_name Unlock = codes "unlock"
point_name Answer = codes "answer"

abbrev pub item_data : Item → Data
item_data (Turns process turns) = list_data (number_data process ∷ string (codes "turns") ∷ number_data turns ∷ [])
item_data (End process) = list_data (number_data process ∷ string (codes "end") ∷ [])
item_data (Until process point) = list_data (number_data process ∷ string (codes "until") ∷ string (point_name point) ∷ [])

-- how many rows there are of the kinds 4, 16, 48 and 256
abbrev pub rows_data : Shape → Data
rows_data s = list_data (number_data s.rows4 ∷ number_data s.rows16 ∷ number_data s.rows48 ∷ number_data s.rows256 ∷ [])

-- ---- the parts of a text

-- the values of the members, where a text has a start or none
pub record Parts : Type 0 where
  pub limit : Data
  pub rows : Data
  pub schedule : Data
  pub scripts : Data
  pub start : Option Data
  pub variant : Data

-- the first four members, and then the others
abbrev pub first_members : Data → Data → Data → Data → Members → Members
first_members limit rows schedule scripts others =
    member (codes "limit") limit (member (codes "rows") rows (member (codes "schedule") schedule (member (codes "scripts") scripts others)))

-- the last two members
abbrev pub last_members : Data → ℕ → Members
last_members variant version = member (codes "variant") variant (member (codes "version") (number_data version) no_members)

-- the members after the scripts: of version 1, or of version 2 with a start
abbrev pub other_members : Option Data → Data → Members
other_members None variant = last_members variant 1
other_members (Some start) variant = member (codes "start") start (last_members variant 2)

-- the value of a text with these parts
abbrev pub document : Parts → Data
document p = object (first_members p.limit p.rows p.schedule p.scripts (other_members p.start p.variant))

-- the pairs with which a text starts: none where it has no start
abbrev pub SpellsStart : Option Data → Contents → Type 0
SpellsStart None pairs = pairs ≡ []
SpellsStart (Some start) pairs = start ≡ list_data (map pair_data pairs)

-- the parts are those of this replay, which is within the limits, and has a replace only if it has
-- a start
pub record ArePartsOf (p : Parts) (r : ReplayView) : Type 0 where
  pub limit : p.limit ≡ number_data r.limit
  pub rows : p.rows ≡ rows_data r.shape
  pub schedule : p.schedule ≡ list_data (map item_data r.schedule)
  pub scripts : SpellsScripts (is_some p.start) p.scripts r.scripts
  pub start : SpellsStart p.start r.start
  pub variant : p.variant ≡ string (variant_name r.variant)
  pub within : IsReplay r

-- the value of a text spells this replay
pub record SpellsReplayAs (d : Data) (r : ReplayView) : Type 0 where
  pub parts : Parts
  pub value : d ≡ document parts
  pub spelled : ArePartsOf parts r

-- the text spells this replay
pub record SpellsReplay (text : List ℕ) (r : ReplayView) : Type 0 where
  pub value : Data
  pub json : IsJson text value
  pub spelled : SpellsReplayAs value r
