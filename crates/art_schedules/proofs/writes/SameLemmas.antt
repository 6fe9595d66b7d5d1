-- What a row says is said by its words alone.
use Rattle.art_schedules.proofs.Common.{◌≡◌, ℕ, ◌+◌, ◌/◌, ◌%◌, ◌<◌, ◌≤◌, List, length, refl, ap, sym, ◌∙◌, arith, Option, same_Some}
use Rattle.art_schedules.proofs.Common.{none-some, All-get_or, Call, Shape, Kind, Four, Sixteen, FortyEight, Full, row_words, child_at, child_of}
use Rattle.art_schedules.proofs.Common.{keys4_of, keys16_of, place_of, entries_of, count_of, place-within, is_insert, entry_slot, slot_of, child_in}
use Rattle.art_schedules.proofs.Common.{child_on, HasForm, keys_in_row, count_in_row, HasSameFields}
use Rattle.std.specs.Prelude.{slice_index, Some, None, if◌then◌else◌, option_map}
use Rattle.art_schedules.proofs.writes.IndexLemmas.{length-entries, entries-most, entry_in, entry-named}
use Rattle.art_schedules.proofs.writes.PutLemmas.{keys_of-four, keys_of-sixteen}

pub keys-same : (words later : List ℕ) (base : ℕ) (kind : Kind) (x : ℕ) → HasSameFields words later base kind → x < 256
    → keys_in_row later base kind x ≡ keys_in_row words base kind x
keys-same words later base Four x same small = ap keys4_of (same (base + 2) (omega arith) (omega arith))
keys-same words later base Sixteen x same small =
    ap (λ n. keys16_of n (slice_index later (base + 2)) (slice_index later (base + 3))) (same (base + 4) (omega arith) (omega arith))
    ∙ ap (λ a. keys16_of (slice_index words (base + 4)) a (slice_index later (base + 3))) (same (base + 2) (omega arith) (omega arith))
    ∙ ap (λ b. keys16_of (slice_index words (base + 4)) (slice_index words (base + 2)) b) (same (base + 3) (omega arith) (omega arith))
keys-same words later base FortyEight x same small = ap entries_of (same (base + 2 + x / 8) (omega arith) (omega (arith, small)))
keys-same words later base Full x same small = refl

pub count-same : (call : Call) (words later : List ℕ) (base : ℕ) (kind : Kind) (x : ℕ) → HasSameFields words later base kind → x < 256
    → count_in_row call later base kind x ≡ count_in_row call words base kind x
count-same call words later base Four x same small = ap length (keys-same words later base Four x same small)
count-same call words later base Sixteen x same small = ap length (keys-same words later base Sixteen x same small)
count-same call words later base FortyEight x same small =
    ap (λ w. if is_insert call then count_of 48 w else 0) (same (base + 34) (omega arith) (omega arith))
count-same call words later base Full x same small = refl

pub slot-same : (words later : List ℕ) (base : ℕ) (kind : Kind) (x : ℕ) → HasSameFields words later base kind → x < 256
    → slot_of later base kind x ≡ slot_of words base kind x
slot-same words later base Four x same small =
    ap (λ ks. option_map (child_at Four base) (place_of x ks)) (keys-same words later base Four x same small)
slot-same words later base Sixteen x same small =
    ap (λ ks. option_map (child_at Sixteen base) (place_of x ks)) (keys-same words later base Sixteen x same small)
slot-same words later base FortyEight x same small =
    ap (entry_slot base) (ap (λ w. slice_index (entries_of w) (x % 8)) (same (base + 2 + x / 8) (omega arith) (omega (arith, small))))
slot-same words later base Full x same small = refl

-- a slot is a word of its row
slot_within : (words : List ℕ) (base : ℕ) (kind : Kind) (x slot : ℕ) → HasForm words base kind → x < 256
    → slot_of words base kind x ≡ Some slot
    → (base + 2 ≤ slot) × (slot < base + row_words kind)
slot_within words base Four x slot form small e =
    listed (place_of x (keys_in_row words base Four x)) e
    (λ i h. omega (arith, (place-within x (keys_in_row words base Four x) i h).0, few))
  where
    few : length (keys_in_row words base Four x) ≤ 4
    few = omega (arith, ap length (keys_of-four words form.0 base x form refl), form.2)

    listed : (o : Option ℕ) → option_map (λ i. base + 3 + i) o ≡ Some slot → ((i : ℕ) → o ≡ Some i → i < 4) → (base + 2 ≤ slot)
        × (slot < base + 7)
    listed None h l = absurd (none-some slot h)
    listed (Some i) h l =
        let is : base + 3 + i ≡ slot = same_Some (base + 3 + i) slot h in (omega (arith, is), omega (arith, is, l i refl))
slot_within words base Sixteen x slot form small e =
    listed (place_of x (keys_in_row words base Sixteen x)) e
    (λ i h. omega (arith, (place-within x (keys_in_row words base Sixteen x) i h).0, few))
  where
    few : length (keys_in_row words base Sixteen x) ≤ 16
    few = omega (arith, ap length (keys_of-sixteen words form.0 base x form refl), form.4)

    listed : (o : Option ℕ) → option_map (λ i. base + 5 + i) o ≡ Some slot → ((i : ℕ) → o ≡ Some i → i < 16) → (base + 2 ≤ slot)
        × (slot < base + 21)
    listed None h l = absurd (none-some slot h)
    listed (Some i) h l =
        let is : base + 5 + i ≡ slot = same_Some (base + 5 + i) slot h in (omega (arith, is), omega (arith, is, l i refl))
slot_within words base FortyEight x slot form small e =
    let named = entry-named base (entry_in words base x) slot e in
    let most : entry_in words base x ≤ 48 = All-get_or (λ e. e ≤ 48) (entries_of (slice_index words (base + 2 + x / 8))) (x % 8) 0
    (omega (arith, length-entries (slice_index words (base + 2 + x / 8)))) (entries-most (slice_index words (base + 2 + x / 8))) in
    (omega (arith, named.is), omega (arith, named.is, named.entry, most))
slot_within words base Full x slot form small e =
    let is : base + 2 + x ≡ slot = same_Some (base + 2 + x) slot e in (omega (arith, is), omega (arith, is, small))

pub child-same : (s : Shape) (words later : List ℕ) (base : ℕ) (kind : Kind) (x : ℕ) → HasForm words base kind
    → HasSameFields words later base kind → x < 256
    → child_on s later base kind x ≡ child_on s words base kind x
child-same s words later base kind x form same small =
    ap (child_in s later) (slot-same words later base kind x same small) ∙ go (slot_of words base kind x) refl
  where
    go : (o : Option ℕ) → slot_of words base kind x ≡ o → child_in s later o ≡ child_in s words o
    go None e = refl
    go (Some slot) e = let l = slot_within words base kind x slot form small e in ap (child_of s) (same slot l.0 l.1)

pub form-same : (words later : List ℕ) (base : ℕ) (kind : Kind) → HasSameFields words later base kind → HasForm words base kind
    → HasForm later base kind
form-same words later base Four same form = (form.0, same (base + 2) (omega arith) (omega arith) ∙ form.1, form.2, form.3, form.4)
form-same words later base Sixteen same form = (
  form.0,
  same (base + 2) (omega arith) (omega arith) ∙ form.1,
  same (base + 3) (omega arith) (omega arith) ∙ form.2,
  same (base + 4) (omega arith) (omega arith) ∙ form.3,
  form.4,
  form.5,
  form.6,
)
form-same words later base FortyEight same form =
    let count : slice_index later (base + 34) ≡ slice_index words (base + 34) = same (base + 34) (omega arith) (omega arith) in
    let slots : (x : ℕ) → x < 256 → slot_of later base FortyEight x ≡ slot_of words base FortyEight x =
    λ x l. slot-same words later base FortyEight x same l in (
      omega (arith, count, form.0),
      λ x y e a b h k. form.1 x y e a b (sym (slots x a) ∙ h) (sym (slots y b) ∙ k),
      λ i l. let old = form.2 i (omega (arith, count, l)) in (old.0, old.1, slots old.0 old.1 ∙ old.2),
      λ x i l h. let less = form.3 x i l (sym (slots x l) ∙ h) in omega (arith, count, less),
    )
form-same words later base Full same form = tt
