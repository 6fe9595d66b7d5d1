-- What a get, a remove or a replace did at the end of its key's way is what it does on the map.
use Rattle.art_schedules.proofs.Common.{◌≡◌, ◌⊎◌, inl, inr, ℕ, ◌/◌, ◌%◌, ◌<◌, [], ◌∷◌, ◌++◌, Bool, true, false}
use Rattle.art_schedules.proofs.Common.{refl, sym, ap, ◌∙◌, arith, eq-eqb, cases_order, nat_tests, none-some, same_Some, AllPairs-head}
use Rattle.art_schedules.proofs.Common.{AllPairs-tail, Call, Get, Insert, Remove, Scan, Replace, Contents, IsRising, value_at, above, put, is_just}
use Rattle.art_schedules.proofs.Common.{reply_to, after, Shape, Empty, Leaf, child_of, row_child, leaf_word, kind_at, is_tree_call}
use Rattle.art_schedules.proofs.Common.{key_of, is_seek}
use Rattle.std.proofs.Common.{All, ◌==◌, Some, None, if◌then◌else◌}
use Rattle.map_object.specs.MapObject.{below, value_reply}
use Rattle.map_object.proofs.MapLemmas.{AreAbove, below_none, above_all}
use Rattle.art_schedules.proofs.alone.WayLemmas.{WritesWords}

-- ---- the map

-- if a key is absent, the pairs below it and above it are all
pub absent-parts : (m : Contents) (key : ℕ) → IsRising m → value_at m key ≡ None → below key m ++ above key m ≡ m
absent-parts [] key rising none = refl
absent-parts ((k, value) ∷ m) key rising none =
    by_cases (absent-parts m key (AllPairs-tail (λ (a : ℕ × ℕ) (b : ℕ × ℕ). a.0 < b.0) (k, value) m rising)) (cases_order k key)
  where
    higher : All (λ (b : ℕ × ℕ). k < b.0) m
    higher = AllPairs-head (λ (a : ℕ × ℕ) (b : ℕ × ℕ). a.0 < b.0) (k, value) m rising

    all_above : key < k → AreAbove key m
    all_above lt i d within = let up = higher i d within in omega (arith, up, lt)

    found : k ≡ key → value_at ((k, value) ∷ m) key ≡ Some value
    found is = grind (arith, nat_tests)

    lower : k < key → value_at m key ≡ None
    lower lt = grind (arith, nat_tests)

    lower_below : k < key → below key ((k, value) ∷ m) ≡ (k, value) ∷ below key m
    lower_below lt = grind (arith, nat_tests)

    lower_above : k < key → above key ((k, value) ∷ m) ≡ above key m
    lower_above lt = grind (arith, nat_tests)

    higher_below : key < k → below key ((k, value) ∷ m) ≡ []
    higher_below lt = grind (arith, nat_tests, below_none key m (all_above lt))

    higher_above : key < k → above key ((k, value) ∷ m) ≡ (k, value) ∷ m
    higher_above lt = grind (arith, nat_tests, above_all key m (all_above lt))

    by_cases : (value_at m key ≡ None → below key m ++ above key m ≡ m) → (k ≡ key) ⊎ ((k < key) ⊎ (key < k))
        → below key ((k, value) ∷ m) ++ above key ((k, value) ∷ m) ≡ (k, value) ∷ m
    by_cases rest (inl is) = absurd (none-some value (sym none ∙ found is))
    by_cases rest (inr (inl lt)) =
        ap (λ x. x ++ above key ((k, value) ∷ m)) (lower_below lt) ∙ (ap (λ x. (k, value) ∷ (below key m ++ x)) (lower_above lt)
        ∙ ap (λ x. (k, value) ∷ x) (rest (lower lt)))
    by_cases rest (inr (inr lt)) = ap (λ x. x ++ above key ((k, value) ∷ m)) (higher_below lt) ∙ higher_above lt

-- a call that finds nothing leaves the map
pub absent-after : (m : Contents) (call : Call) → is_seek call ≡ true → IsRising m → value_at m (key_of call) ≡ None → after m call ≡ m
absent-after m (Get key) seek rising none = refl
absent-after m (Remove key) seek rising none = absent-parts m key rising none
absent-after m (Replace key expected value) seek rising none = ap (λ o. if is_just o expected then put key value m else m) none
absent-after m (Insert key value) seek rising none = absurd (grind (arith, seek))
absent-after m (Scan low high) seek rising none = absurd (grind (arith, seek))

pub seek-reply : (m : Contents) (call : Call) → is_seek call ≡ true → reply_to m call ≡ value_reply (value_at m (key_of call))
seek-reply m (Get key) seek = refl
seek-reply m (Remove key) seek = refl
seek-reply m (Replace key expected value) seek = refl
seek-reply m (Insert key value) seek = absurd (grind (arith, seek))
seek-reply m (Scan low high) seek = absurd (grind (arith, seek))

-- ---- the words that are written

leaf-small : (key value : ℕ) → key < 4294967296 → value < 1073741824 → leaf_word key value < 18446744073709551616
leaf-small key value k v = omega (arith, k, v)

pub leaf-read : (s : Shape) (key value : ℕ) → key < 4294967296 → value < 1073741824 → child_of s (leaf_word key value) ≡ Leaf key value
leaf-read s key value k v =
    ap (λ b. if b then row_child (w / 4) (kind_at s (w / 4)) else (if w % 4 == 2 then Leaf (w / 4294967296)
    ((w % 4294967296) / 4) else Empty)) no_row
    ∙ (ap (λ b. if b then Leaf (w / 4294967296) ((w % 4294967296) / 4) else Empty) is_leaf
    ∙ (ap (λ i. Leaf i ((w % 4294967296) / 4)) (omega (arith, k, v)) ∙ ap (λ i. Leaf key i) (omega (arith, k, v))))
  where
    w : ℕ
    w = leaf_word key value

    no_row : (w % 4 == 1) ≡ false
    no_row = grind arith

    is_leaf : (w % 4 == 2) ≡ true
    is_leaf = eq-eqb (w % 4) 2 (omega arith)

-- the bounds of a call
abbrev pub Bounds : Call → Type 0
Bounds (Get key) = key < 4294967296
Bounds (Remove key) = key < 4294967296
Bounds (Replace key expected value) = (key < 4294967296) × (value < 1073741824)
Bounds call = ⊥

pub bounds : (call : Call) → is_tree_call call ≡ true → is_seek call ≡ true → Bounds call
bounds (Get key) tree seek = grind (arith, tree)
bounds (Remove key) tree seek = grind (arith, tree)
bounds (Replace key expected value) tree seek = (grind (arith, tree), grind (arith, tree))
bounds (Insert key value) tree seek = absurd (grind (arith, seek))
bounds (Scan low high) tree seek = absurd (grind (arith, seek))

pub writes-words : (call : Call) → Bounds call → WritesWords call
writes-words (Get key) b value word e = absurd (none-some word e)
writes-words (Remove key) b value word e = omega (arith, same_Some 0 word e)
writes-words (Replace key expected new) b value word e = go (value == expected) e
  where
    go : (t : Bool) → (if t then Some (leaf_word key new) else None) ≡ Some word → word < 18446744073709551616
    go true e = omega (arith, same_Some (leaf_word key new) word e, leaf-small key new b.0 b.1)
    go false e = absurd (none-some word e)
writes-words (Insert key value) b v word e = absurd b
writes-words (Scan low high) b v word e = absurd b
