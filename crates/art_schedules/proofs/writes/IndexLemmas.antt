-- Index words of kind 48.
use Rattle.art_schedules.proofs.Common.{◌≡◌, ℕ, ◌+◌, ◌-◌, ◌/◌, ◌%◌, ◌≤◌, List, [], ◌∷◌, length, refl, ap, sym, ◌∙◌, Bool, true, false, arith}
use Rattle.std.proofs.Common.{map}
use Rattle.std.proofs.lemmas.Bool.{ne_eqb}
use Rattle.art_schedules.proofs.Common.{nat_le, All, same_Some, none-some, length-map, All-nil, All-cons, eqb-false, FortyEight, entry_of}
use Rattle.art_schedules.proofs.Common.{entries_of, low_bytes, entry_slot, slot_of}
use Rattle.std.specs.Prelude.{◌==◌, if◌then◌else◌, slice_index, Some, None}
use Rattle.art_rows.proofs.WriterLemmas.{length-low_bytes}

pub length-entries : (w : ℕ) → length (entries_of w) ≡ 8
length-entries w = length-map (low_bytes 8 w) entry_of ∙ length-low_bytes 8 w

pub entries-most : (w : ℕ) → All (λ e. e ≤ 48) (entries_of w)
entries-most w = all (low_bytes 8 w)
  where
    least : (b : Bool) (e : ℕ) → nat_le e 48 ≡ b → (if b then e else 0) ≤ 48
    least true e h = grind (arith, h)
    least false e h = omega arith

    all : (bs : List ℕ) → All (λ e. e ≤ 48) (map entry_of bs)
    all [] = All-nil (λ e. e ≤ 48)
    all (b ∷ bs) = All-cons (λ e. e ≤ 48) (entry_of b) (map entry_of bs) (least (nat_le b 48) b refl) (all bs)

-- the entry of a byte
abbrev pub entry_in : List ℕ → ℕ → ℕ → ℕ
entry_in words base y = slice_index (entries_of (slice_index words (base + 2 + y / 8))) (y % 8)

pub slot-entry : (words : List ℕ) (base y i : ℕ) → entry_in words base y ≡ i + 1 → slot_of words base FortyEight y ≡ Some (base + 35 + i)
slot-entry words base y i e =
    ap (entry_slot base) e ∙ ap (λ b. if b then None else Some (base + 35 + (i + 1 - 1))) (ne_eqb (i + 1) 0 (λ h. omega (arith, h)))
    ∙ ap (λ k. Some (base + 35 + k)) (less_one i)
  where
    less_one : (i : ℕ) → i + 1 - 1 ≡ i
    less_one i = omega arith

-- the place of the child that an entry names
pub record IsNamed (base e slot : ℕ) : Type 0 where
  pub place : ℕ
  pub entry : e ≡ place + 1
  pub is : slot ≡ base + 35 + place

pub entry-named : (base e slot : ℕ) → entry_slot base e ≡ Some slot → IsNamed base e slot
entry-named base e slot h = go (e == 0) refl h
  where
    go : (b : Bool) → (e == 0) ≡ b → (if b then None else Some (base + 35 + (e - 1))) ≡ Some slot → IsNamed base e slot
    go true t h = absurd (none-some slot h)
    go false t h =
        record { place = e - 1; entry = omega (arith, eqb-false e 0 t); is = sym (same_Some (base + 35 + (e - 1)) slot h) }
