-- The pairs of a row within a range: those under the bytes under which a key of the range can lie.
use Rattle.art_schedules.proofs.Common.{◌≡◌, ℕ, ◌+◌, ◌-◌, ◌*◌, ◌/◌, ◌^◌, ◌<◌, ◌≤◌, List, [], ◌∷◌, ◌++◌, refl, sym, ap, ◌∙◌, subst, arith, Bool}
use Rattle.art_rows.specs.Rows.{Row}
use Rattle.art_schedules.proofs.Common.{true, false, ◌&&◌, nat_lt, nat_le, Contains, filter, flat_map, Contents, within, can_lie, nat_tests}
use Rattle.art_schedules.proofs.Common.{false≢true, lt-ltb, le-leb, length-append, flat_map-cons, Contains-first, Contains-later, All-from_contains}
use Rattle.std.specs.Prelude.{length, slice_index}
use Rattle.art_rows.specs.Words.{big_endian}
use Rattle.std.proofs.lemmas.Bool.{false_from_ne_true}
use Rattle.std.proofs.lemmas.List.Elements.{filter-append}
use Rattle.events.proofs.FilterLemmas.{filter_yes}
use Rattle.events.proofs.Lists.{filter_none}
use Rattle.art_schedules.proofs.walks.KeyLemmas.{BeginsWith}

-- the number of the bytes that a key begins with
pub begins-number : (path : List ℕ) (x key : ℕ) → key < 2 ^ 32 → BeginsWith path x key
    → key / 256 ^ (3 - length path) ≡ big_endian (big_endian 0 path) (x ∷ [])
begins-number [] x key small h = omega (arith, small, ap (λ l. slice_index l 0) h)
begins-number (a ∷ []) x key small h = omega (arith, small, ap (λ l. slice_index l 0) h, ap (λ l. slice_index l 1) h)
begins-number (a ∷ b ∷ []) x key small h =
    omega (arith, small, ap (λ l. slice_index l 0) h, ap (λ l. slice_index l 1) h, ap (λ l. slice_index l 2) h)
begins-number (a ∷ b ∷ c ∷ []) x key small h =
    omega (arith, small, ap (λ l. slice_index l 0) h, ap (λ l. slice_index l 1) h, ap (λ l. slice_index l 2) h, ap (λ l. slice_index l 3) h)
begins-number (a ∷ b ∷ c ∷ d ∷ path) x key small h = absurd (omega (arith, ap (λ l. length l) h, length-append path (x ∷ [])))

-- if a key of the range begins with a path and a byte, keys of the range can be under that byte
bounds : (path : List ℕ) (x key low high : ℕ) → key < 2 ^ 32 → BeginsWith path x key → low ≤ key → key ≤ high
    → (big_endian (big_endian 0 path) (x ∷ []) * 256 ^ (3 - length path) ≤ high)
    × (low < (big_endian (big_endian 0 path) (x ∷ []) + 1) * 256 ^ (3 - length path))
bounds [] x key low high small h le le2 = let is =
    begins-number [] x key small h in (omega (arith, is, le, le2), omega (arith, is, le, le2))
bounds (a ∷ []) x key low high small h le le2 =
    let is = begins-number (a ∷ []) x key small h in (omega (arith, is, le, le2), omega (arith, is, le, le2))
bounds (a ∷ b ∷ []) x key low high small h le le2 =
    let is = begins-number (a ∷ b ∷ []) x key small h in (omega (arith, is, le, le2), omega (arith, is, le, le2))
bounds (a ∷ b ∷ c ∷ []) x key low high small h le le2 =
    let is = begins-number (a ∷ b ∷ c ∷ []) x key small h in (omega (arith, is, le, le2), omega (arith, is, le, le2))
bounds (a ∷ b ∷ c ∷ d ∷ path) x key low high small h le le2 = absurd (omega (arith, ap (λ l. length l) h, length-append path (x ∷ [])))

-- a key is in the range
abbrev pub in_range : ℕ → ℕ → ℕ → Bool
in_range low high key = nat_le low key && nat_le key high

tests-pass : (low high number power : ℕ) → number * power ≤ high → low < (number + 1) * power
    → (nat_le (number * power) high && nat_lt low ((number + 1) * power)) ≡ true
tests-pass low high number power le less = rw (le-leb (number * power) high le, lt-ltb low ((number + 1) * power) less) refl

lies : (low high : ℕ) (n : Row) (x key : ℕ) → key < 2 ^ 32 → n.level ≡ length n.path → BeginsWith n.path x key
    → in_range low high key ≡ true
    → can_lie low high n x ≡ true
lies low high n x key small level h inside =
    let both = bounds n.path x key low high small h (grind (arith, nat_tests, inside)) (grind (arith, nat_tests, inside)) in
    let number = big_endian (big_endian 0 n.path) (x ∷ []) in
    tests-pass low high number (256 ^ (3 - n.level)) (subst (λ k. number * 256 ^ (3 - k) ≤ high) (sym level) both.0)
    (subst (λ k. low < (number + 1) * 256 ^ (3 - k)) (sym level) both.1)

pub not-in-range : (low high : ℕ) (n : Row) (x key : ℕ) → key < 2 ^ 32 → n.level ≡ length n.path → BeginsWith n.path x key
    → can_lie low high n x ≡ false
    → in_range low high key ≡ false
not-in-range low high n x key small level h out =
    false_from_ne_true (in_range low high key) (λ inside. absurd (false≢true (sym out ∙ lies low high n x key small level h inside)))

-- an element that fails is dropped
filter_no : {X : Type 0} (p : X → Bool) (x : X) (xs : List X) → p x ≡ false → filter p (x ∷ xs) ≡ filter p xs
filter_no p x xs h = rw h refl

-- The pairs of a range are those under the bytes where its keys can lie.
pub within-flat : (low high : ℕ) (n : Row) (f : ℕ → Contents) (xs : List ℕ)
    → ((x : ℕ) (pair : ℕ × ℕ) → Contains xs x → Contains (f x) pair → (pair.0 < 2 ^ 32) × BeginsWith n.path x pair.0)
    → n.level ≡ length n.path
    → within low high (flat_map f xs) ≡ flat_map (λ x. within low high (f x)) (filter (can_lie low high n) xs)
within-flat low high n f [] begins level = refl
within-flat low high n f (x ∷ xs) begins level =
    ap (within low high) (flat_map-cons f x xs)
    ∙ (filter-append (λ pair. in_range low high pair.0) (f x) (flat_map f xs)
    ∙ go (can_lie low high n x) refl (within-flat low high n f xs (λ y pair h. begins y pair (Contains-later x xs y h)) level))
  where
    rest : List ℕ
    rest = filter (can_lie low high n) xs

    within_all : List ℕ → Contents
    within_all ys = flat_map (λ y. within low high (f y)) ys

    go : (b : Bool) → can_lie low high n x ≡ b → within low high (flat_map f xs) ≡ within_all rest
        → within low high (f x) ++ within low high (flat_map f xs) ≡ within_all (filter (can_lie low high n) (x ∷ xs))
    go true e later =
        ap (λ r. within low high (f x) ++ r) later
        ∙ (sym (flat_map-cons (λ y. within low high (f y)) x rest) ∙ ap within_all (sym (filter_yes (can_lie low high n) x xs e)))
    go false e later =
        let none = filter_none (λ pair. in_range low high pair.0) (f x) (All-from_contains (λ pair. in_range low high pair.0 ≡ false) (f x)
        (λ pair h. (let its = begins x pair (Contains-first x xs) h in not-in-range low high n x pair.0 its.0 level its.1 e))) in
        ap (λ r. r ++ within low high (flat_map f xs)) none ∙ (later ∙ ap within_all (sym (filter_no (can_lie low high n) x xs e)))
