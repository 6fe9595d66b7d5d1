-- What stays where one byte of one row has another child.
use Rattle.art_schedules.proofs.Common.{◌≡◌, ℕ, ◌+◌, ◌*◌, ◌<◌, List, [], ◌∷◌, ◌++◌, take, refl, sym, ap, ap₂, subst, subst₂, ◌∙◌}
use Rattle.std.proofs.Common.{slice_index}
use Rattle.art_schedules.proofs.Common.{arith, ⊎_elim, inl, inr, cases_eq, Shape, Kind, Four, Sixteen, FortyEight, Full, Child, info_at, key_bytes}
use Rattle.art_schedules.proofs.Common.{kind_code, packed, info_of, key_byte-small, Reached, child_on, HasForm, IsTree, level_in, path_in, LeadsTo}
use Rattle.art_schedules.proofs.Common.{ChangesAt}
use Rattle.std.specs.Prelude.{◌⊎◌}
use Rattle.art_schedules.proofs.trees.InfoWords.{level_small}
use Rattle.art_schedules.proofs.trees.Bytes.{one_more}
use Rattle.art_schedules.proofs.trees.Infos.{LeafMayHang}
use Rattle.art_schedules.proofs.trees.SameRows.{child_same, form_same, info_same}

kind_of : (k j : Kind) (a b p q : ℕ) → kind_code k + 4 * a + 256 * p ≡ kind_code j + 4 * b + 256 * q → k ≡ j
kind_of Four Four a b p q h = refl
kind_of Four Sixteen a b p q h = absurd (omega (arith, h))
kind_of Four FortyEight a b p q h = absurd (omega (arith, h))
kind_of Four Full a b p q h = absurd (omega (arith, h))
kind_of Sixteen Four a b p q h = absurd (omega (arith, h))
kind_of Sixteen Sixteen a b p q h = refl
kind_of Sixteen FortyEight a b p q h = absurd (omega (arith, h))
kind_of Sixteen Full a b p q h = absurd (omega (arith, h))
kind_of FortyEight Four a b p q h = absurd (omega (arith, h))
kind_of FortyEight Sixteen a b p q h = absurd (omega (arith, h))
kind_of FortyEight FortyEight a b p q h = refl
kind_of FortyEight Full a b p q h = absurd (omega (arith, h))
kind_of Full Four a b p q h = absurd (omega (arith, h))
kind_of Full Sixteen a b p q h = absurd (omega (arith, h))
kind_of Full FortyEight a b p q h = absurd (omega (arith, h))
kind_of Full Full a b p q h = refl

-- a reached row is of one kind
pub one_kind : (s : Shape) (words : List ℕ) → IsTree s words → (b : ℕ) (k j : Kind) → Reached s words b k → Reached s words b j → k ≡ j
one_kind s words tree b k j here there =
    kind_of k j (level_in words b k) (level_in words b j) (packed (path_in words b k)) (packed (path_in words b j))
    (sym (tree.info b k here).1 ∙ (tree.info b j there).1)

-- the byte of a way is a byte
pub way_byte : (s : Shape) (words : List ℕ) (key base : ℕ) (kind : Kind) (x : ℕ) → LeadsTo s words key base kind x → x < 256
way_byte s words key base kind x leads = subst (λ y. y < 256) (sym leads.byte) (key_byte-small key (level_in words base kind))

-- the key's leaf may hang where its way leads to
pub way_leaf : (s : Shape) (words : List ℕ) (key base : ℕ) (kind : Kind) (x : ℕ) → LeadsTo s words key base kind x
    → LeafMayHang kind (slice_index words (info_at base)) x key
way_leaf s words key base kind x leads =
    one_more (level_in words base kind) (key_bytes key) (level_small kind (slice_index words (info_at base)))
    ∙ ap₂ (λ path y. path ++ y ∷ []) leads.path (sym leads.byte)

-- the way leads to a row that is reached with the same info
pub way_later : (s : Shape) (words later : List ℕ) (key base : ℕ) (kind : Kind) (x : ℕ) → LeadsTo s words key base kind x
    → Reached s later base kind
    → slice_index later (info_at base) ≡ slice_index words (info_at base) → LeadsTo s later key base kind x
way_later s words later key base kind x leads reached same = record {
  reached = reached;
  path = subst (λ w. take (info_of kind w).level (key_bytes key) ≡ (info_of kind w).path) (sym same) leads.path;
  byte = subst (λ w. x ≡ slice_index (key_bytes key) (info_of kind w).level) (sym same) leads.byte;
}

-- the byte of the row
abbrev pub IsPlace : ℕ → Kind → ℕ → ℕ → Kind → ℕ → Type 0
IsPlace base kind x b k y = (b ≡ base) × (k ≡ kind) × (y ≡ x)

pub child_there : (s : Shape) (words : List ℕ) (base : ℕ) (kind : Kind) (x b : ℕ) (k : Kind) (y : ℕ) → IsPlace base kind x b k y
    → child_on s words b k y ≡ child_on s words base kind x
child_there s words base kind x b k y (here, same, byte) =
    ap₂ (λ b k. child_on s words b k y) here same ∙ ap (λ y. child_on s words base kind y) byte

module _ (s : Shape) (words later : List ℕ) (base : ℕ) (kind : Kind) (x : ℕ) (child : Child) (tree : IsTree s words)
    (reached : Reached s words base kind)
    (change : ChangesAt s words later base kind x child) where
  -- each other child is the same
  pub elsewhere : (b : ℕ) (k : Kind) (y : ℕ) → Reached s words b k → y < 256
      → IsPlace base kind x b k y ⊎ (child_on s later b k y ≡ child_on s words b k y)
  elsewhere b k y r byte = ⊎_elim
      (λ here.
      let same = one_kind s words tree base k kind (subst (λ b. Reached s words b k) here r) reached in
      ⊎_elim (λ at. inl (here, same, at))
      (λ other. inr (ap₂ (λ b k. child_on s later b k y) here same
      ∙ (change.other_bytes y byte other ∙ sym (ap₂ (λ b k. child_on s words b k y) here same)))) (cases_eq y x))
      (λ apart. inr (child_same words later b s k y byte (change.others b k r apart))) (cases_eq b base)

  -- the rows' infos, and their forms
  pub infos_stay : (b : ℕ) (k : Kind) → Reached s words b k → slice_index later (info_at b) ≡ slice_index words (info_at b)
  infos_stay b k r = ⊎_elim
      (λ here. subst (λ b. slice_index later (info_at b) ≡ slice_index words (info_at b)) (sym here) change.info)
      (λ apart. info_same words later b k (change.others b k r apart)) (cases_eq b base)

  pub forms_stay : (b : ℕ) (k : Kind) → Reached s words b k → HasForm later b k
  forms_stay b k r = ⊎_elim
      (λ here. subst₂ (λ b k. HasForm later b k) (sym here)
      (sym (one_kind s words tree base k kind (subst (λ b. Reached s words b k) here r) reached)) change.form)
      (λ apart. form_same words later b k (change.others b k r apart) (tree.form b k r)) (cases_eq b base)
