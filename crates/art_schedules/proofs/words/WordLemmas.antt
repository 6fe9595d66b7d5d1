-- Infos, entries and children that were written are read back.
use Rattle.art_schedules.proofs.Common.{◌≡◌, ℕ, ◌+◌, ◌*◌, ◌/◌, ◌%◌, ◌^◌, ◌<◌, ◌≤◌, List, [], ◌∷◌, length, refl, ap, sym, ◌∙◌, Bool, true}
use Rattle.std.proofs.Common.{map}
use Rattle.art_rows.specs.Words.{Info}
use Rattle.art_schedules.proofs.Common.{false, arith, nat_le, All, Option, All-head, All-tail, All-weaker, Shape, Kind, Child, Empty, Leaf, kind_at}
use Rattle.art_schedules.proofs.Common.{packed, low_bytes, kind_code, info_word, info_of, entry_of, entries_of, entries_word, row_child}
use Rattle.art_schedules.proofs.Common.{child_of, child_word, code-few, IsStored, IsShort}
use Rattle.std.specs.Prelude.{◌==◌, Some, None, if◌then◌else◌}
use Rattle.std.proofs.lemmas.Bool.{eq-eqb, eqb-true}
use Rattle.art_rows.specs.declared.table.Child.TheVariants.{Row}
use Rattle.art_schedules.proofs.words.ByteLemmas.{AreBytes, low_bytes-packed, packed-most}

-- entries
entries_small : (es : List ℕ) → All (λ e. e ≤ 48) es → map entry_of es ≡ es
entries_small [] h = refl
entries_small (e ∷ es) h =
    ap (λ d. d ∷ map entry_of es) (entry_small e (All-head (λ e. e ≤ 48) e es h))
    ∙ ap (λ ds. e ∷ ds) (entries_small es (All-tail (λ e. e ≤ 48) e es h))
  where
    within : (e : ℕ) → e ≤ 48 → nat_le e 48 ≡ true
    within e l = grind (arith, l)

    entry_small : (e : ℕ) → e ≤ 48 → entry_of e ≡ e
    entry_small e l = ap (λ b. if b then e else 0) (within e l)

entries_bytes : (es : List ℕ) → All (λ e. e ≤ 48) es → AreBytes es
entries_bytes es h = All-weaker (λ e. e ≤ 48) (λ e. e < 256) (λ e l. omega (arith, l)) es h

pub entries_back : (es : List ℕ) → length es ≡ 8 → All (λ e. e ≤ 48) es → entries_of (entries_word es) ≡ es
entries_back es long h =
    ap (map entry_of) (ap (λ n. low_bytes n (packed es)) (sym long) ∙ low_bytes-packed es (entries_bytes es h)) ∙ entries_small es h

pub entries_below : (es : List ℕ) → length es ≡ 8 → All (λ e. e ≤ 48) es → entries_word es < 2 ^ 64
entries_below es long h = packed-most 8 es (entries_bytes es h) (omega (arith, long))

-- infos
info_as : (code level r : ℕ) → code < 4 → level ≤ 3
    → ((code + 4 * level + 256 * r) % 4 ≡ code) × (((code + 4 * level + 256 * r) / 4) % 4 ≡ level)
    × ((code + 4 * level + 256 * r) / 256 ≡ r)
info_as code level r lc ll = (omega (arith, lc, ll), omega (arith, lc, ll), omega (arith, lc, ll))

abbrev info_with : ℕ → List ℕ → Info
info_with level path = record { level = level; path = path }

pub info_back : (kind : Kind) (level : ℕ) (path : List ℕ) → level ≤ 3 → length path ≡ level → AreBytes path
    → info_of kind (info_word kind level path) ≡ record { level = level; path = path }
info_back kind level path few long h =
    let parts = info_as (kind_code kind) level (packed path) (code-few kind) few in
    ap (λ b. if b then info_with ((info_word kind level path / 4) % 4)
    (low_bytes ((info_word kind level path / 4) % 4) (info_word kind level path / 256))
    else info_with 0 []) (ap (λ n. n == kind_code kind) parts.0 ∙ eq-eqb (kind_code kind) (kind_code kind) refl)
    ∙ ap (λ n. info_with n (low_bytes n (info_word kind level path / 256))) parts.1
    ∙ ap (λ w. info_with level (low_bytes level w)) parts.2
    ∙ ap (info_with level) (ap (λ n. low_bytes n (packed path)) (sym long) ∙ low_bytes-packed path h)

pub info_below : (kind : Kind) (level : ℕ) (path : List ℕ) → level ≤ 3 → length path ≡ level → AreBytes path
    → info_word kind level path < 2 ^ 64
info_below kind level path few long h =
    let code : kind_code kind < 4 = code-few kind in
    let r : packed path < 256 ^ 3 = packed-most 3 path h (omega (arith, few, long)) in
    omega (arith, few, code, r)

-- children

pub row_as : (base : ℕ) → ((4 * base + 1) % 4 ≡ 1) × ((4 * base + 1) / 4 ≡ base)
row_as base = (omega arith, omega arith)

leaf_as : (key value : ℕ) → value < 2 ^ 30
    → ((key * 2 ^ 32 + value * 4 + 2) % 4 ≡ 2) × ((key * 2 ^ 32 + value * 4 + 2) / 2 ^ 32 ≡ key)
    × (((key * 2 ^ 32 + value * 4 + 2) % 2 ^ 32) / 4 ≡ value)
leaf_as key value h = (omega (arith, h), omega (arith, h), omega (arith, h))

abbrev leaf_in : ℕ → Child
leaf_in w = if w % 4 == 2 then Leaf (w / 2 ^ 32) ((w % 2 ^ 32) / 4) else Empty

pub child_back : (s : Shape) (c : Child) → IsStored s c → child_of s (child_word c) ≡ c
child_back s Empty h = refl
child_back s (Row base kind) h =
    ap (λ n. if n == 1 then row_child ((4 * base + 1) / 4) (kind_at s ((4 * base + 1) / 4)) else leaf_in (4 * base + 1)) (row_as base).0
    ∙ ap (λ b. row_child b (kind_at s b)) (row_as base).1
    ∙ ap (row_child base) h
child_back s (Leaf key value) h = leaf_back s key value h (key * 2 ^ 32 + value * 4 + 2) (leaf_as key value h)
  where
    leaf_back : (s : Shape) (key value : ℕ) → value < 2 ^ 30 → (w : ℕ)
        → (w % 4 ≡ 2) × (w / 2 ^ 32 ≡ key) × ((w % 2 ^ 32) / 4 ≡ value) → child_of s w ≡ Leaf key value
    leaf_back s key value h w parts =
        ap (λ n. if n == 1 then row_child (w / 4)
        (kind_at s (w / 4)) else (if n == 2 then Leaf (w / 2 ^ 32) ((w % 2 ^ 32) / 4) else Empty)) parts.0
        ∙ ap (λ k. Leaf k ((w % 2 ^ 32) / 4)) parts.1
        ∙ ap (Leaf key) parts.2

pub child_below : (c : Child) → IsShort c → child_word c < 2 ^ 64
child_below Empty h = omega arith
child_below (Row base kind) h = omega (arith, h)
child_below (Leaf key value) h = omega (arith, h.0, h.1)

row_child-stored : (s : Shape) (base : ℕ) (o : Option Kind) → kind_at s base ≡ o → IsStored s (row_child base o)
row_child-stored s base None e = tt
row_child-stored s base (Some kind) e = e

pub child_of-stored : (s : Shape) (w : ℕ) → IsStored s (child_of s w)
child_of-stored s w = one (w % 4 == 1)
  where
    small : (w % 2 ^ 32) / 4 < 2 ^ 30
    small = omega arith

    two : (b : Bool) → IsStored s (if b then Leaf (w / 2 ^ 32) ((w % 2 ^ 32) / 4) else Empty)
    two true = small
    two false = tt

    one : (b : Bool)
        → IsStored s (if b then row_child (w / 4) (kind_at s (w / 4)) else (if w % 4 == 2 then Leaf (w / 2 ^ 32)
        ((w % 2 ^ 32) / 4) else Empty))
    one true = row_child-stored s (w / 4) (kind_at s (w / 4)) refl
    one false = two (w % 4 == 2)

-- a child word that is read, written and read again
pub child_again : (s : Shape) (w : ℕ) → child_of s (child_word (child_of s w)) ≡ child_of s w
child_again s w = child_back s (child_of s w) (child_of-stored s w)

-- a child word that is read and written again has 64 bits if the first one has
pub again_below : (s : Shape) (w : ℕ) → w < 2 ^ 64 → child_word (child_of s w) < 2 ^ 64
again_below s w h = one (w % 4 == 1) refl
  where
    row : (o : Option Kind) → w % 4 ≡ 1 → child_word (row_child (w / 4) o) < 2 ^ 64
    row None e = omega arith
    row (Some kind) e = omega (arith, h, e)

    two : (b : Bool) → (w % 4 == 2) ≡ b → child_word (if b then Leaf (w / 2 ^ 32) ((w % 2 ^ 32) / 4) else Empty) < 2 ^ 64
    two true e = omega (arith, h, eqb-true (w % 4) 2 e)
    two false e = omega arith

    one : (b : Bool) → (w % 4 == 1) ≡ b
        → child_word (if b then row_child (w / 4) (kind_at s (w / 4)) else (if w % 4 == 2 then Leaf (w / 2 ^ 32)
        ((w % 2 ^ 32) / 4) else Empty)) < 2 ^ 64
    one true e = row (kind_at s (w / 4)) (eqb-true (w % 4) 1 e)
    one false e = two (w % 4 == 2) refl
