-- A calm table in the course of many changes.
use Rattle.std.specs.Prelude.{◌≡◌, ℕ, List, slice_index, Option, None, Some, true}
use Rattle.map_object.specs.MapObject.{Contents}
use Rattle.art_rows.specs.declared.table.Shape.{Shape}
use Rattle.art_rows.specs.declared.table.Kind.{Kind}
use Rattle.art_rows.specs.Words.{is_obsolete}
use Rattle.art_control_states.specs.declared.stage.HeldRow.{HeldRow}
use Rattle.art_schedules.specs.trees.Trees.{SameRow}
use Rattle.art_schedules.specs.changes.Effects.{Effect, IsGone, ComesIn, pairs_after}
use Rattle.art_schedules.specs.changes.Follows.{Follows}

-- the row leaves the tree by this effect, or by none
abbrev pub IsGoneBy : Option Effect → ℕ → Type 0
IsGoneBy None b = ⊥
IsGoneBy (Some effect) b = IsGone effect b

-- the row comes into it
abbrev pub ComesInBy : Option Effect → ℕ → Kind → Type 0
ComesInBy None b k = ⊥
ComesInBy (Some effect) b k = ComesIn effect b k

-- the map after an effect, or after none
abbrev pub pairs_by : Option Effect → Contents → Contents
pairs_by None m = m
pairs_by (Some e) m = pairs_after e m

-- The calm tree goes on by this effect, or by none, from the map m; a row that leaves it is obsolete in these words.
pub record TreeGoesOn (s : Shape) (words calm later : List ℕ) (m : Contents) (effect : Option Effect) : Type 0 where
  pub claims : ℕ
  pub follows : Follows s claims calm later (pairs_by effect m) (IsGoneBy effect) (ComesInBy effect)
  pub gone : (b : ℕ) → IsGoneBy effect b → is_obsolete (slice_index words b) ≡ true

-- After its version the calm words of the row stay, and its words, and the row does not leave the
-- calm tree.
pub record IsStill (calm words after later : List ℕ) (effect : Option Effect) (n : HeldRow) : Type 0 where
  pub row : SameRow calm after n.base n.kind
  pub same : SameRow words later n.base n.kind
  pub stays : IsGoneBy effect n.base → ⊥
