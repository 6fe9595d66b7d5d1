-- Pairs that are added to a map one after another (`more_pairs`), as values at keys.
use Rattle.follow_pasts.proofs.Common.{◌≡◌, ℕ, ◌+◌, ◌<◌, ◌==◌, Bool, true, false, cond, [], ◌∷◌, ◌++◌, length, get_or, take, Option, None, Some, refl}
use Rattle.follow_pasts.proofs.Common.{sym, ap, ◌∙◌, subst, ⊎_elim, arith, if◌then◌else◌, All, cases_Bool, eqb-true, eqb-false, ne_eqb, take_more}
use Rattle.follow_pasts.proofs.Common.{get_or-take, get_or_default, length-take, none-some, All-head, All-tail, Contents, IsRising, value_at, or_else}
use Rattle.std.proofs.Common.{◌≢◌}
use Rattle.packed_map.specs.Entries.{value_at as packed_at}

-- what a map has at a key
pub packed_same : (m : Contents) (key : ℕ) → packed_at m key ≡ value_at m key
packed_same [] key = refl
packed_same (e ∷ m) key = ap (λ (o : Option ℕ). cond (e.0 == key) (Some e.1) o) (packed_same m key)

pub packed_changed : (old new : Contents) (key other : ℕ) (value : Option ℕ)
    → packed_at new other ≡ (if other == key then value else packed_at old other)
    → value_at new other ≡ (if other == key then value else value_at old other)
packed_changed old new key other value e =
    sym (packed_same new other) ∙ (e ∙ ap (λ (o : Option ℕ). cond (other == key) value o) (packed_same old other))

-- pairs of lower keys have no value at a key
value_at-lower : (m : Contents) (key : ℕ) → All (λ (pair : ℕ × ℕ). pair.0 < key) m → value_at m key ≡ None
value_at-lower [] key lower = refl
value_at-lower ((k, v) ∷ m) key lower =
    let low : k < key = All-head (λ (pair : ℕ × ℕ). pair.0 < key) (k, v) m lower in
    let apart : (k == key) ≡ false = ne_eqb k key (λ e. absurd (omega (arith, low, e))) in
    rw (apart, value_at-lower m key (All-tail (λ (pair : ℕ × ℕ). pair.0 < key) (k, v) m lower))

-- at most one of two numbers is a key
apart_swap : (j w k v key : ℕ) (found : Option ℕ) → j ≢ k
    → (if j == key then Some w else (if key == k then Some v else found)) ≡ (if key == k then Some v else (if j == key then Some w else found))
apart_swap j w k v key found apart = ⊎_elim
    (λ here. let other : (j == key) ≡ false = ne_eqb j key (λ e. apart (e ∙ eqb-true key k here)) in rw (here, other))
    (λ there. rw there)
    (cases_Bool (key == k))

-- the value at each key with a pair more
pub value_at-push : (m : Contents) (k v key : ℕ) → value_at m k ≡ None
    → value_at (m ++ (k, v) ∷ []) key ≡ (if key == k then Some v else value_at m key)
value_at-push [] k v key none = ap (λ b. cond b (Some v) None) (grind arith)
value_at-push ((j, w) ∷ m) k v key none = ⊎_elim
    (λ same. absurd (none-some w (sym none ∙ ap (λ b. cond b (Some w) (value_at m k)) same)))
    (λ apart. let rest = value_at-push m k v key (sym (ap (λ b. cond b (Some w) (value_at m k)) apart) ∙ none) in
    ap (λ found. cond (j == key) (Some w) found) rest ∙ apart_swap j w k v key (value_at m key) (eqb-false j k apart))
    (cases_Bool (j == k))

lower_before : (pairs : Contents) (i : ℕ) (e : ℕ × ℕ) → IsRising pairs → i < length pairs
    → All (λ (pair : ℕ × ℕ). pair.0 < (get_or pairs i e).0) (take i pairs)
lower_before pairs i e rising within k d there =
    let short : k < i = omega (arith, length-take i pairs) in
    let less : (get_or pairs k d).0 < (get_or pairs i d).0 = rising k i d short within in
    let own : (get_or pairs k d).0 < (get_or pairs i e).0 =
    subst (λ (p : ℕ × ℕ). (get_or pairs k d).0 < p.0) (get_or_default pairs i d e within) less in
    subst (λ (p : ℕ × ℕ). p.0 < (get_or pairs i e).0) (sym (get_or-take i pairs k d short)) own

else_moved : (b : Bool) (v : Option ℕ) (x y : Option ℕ) (w : ℕ) → v ≡ or_else x y
    → (if b then Some w else v) ≡ or_else (if b then Some w else x) y
else_moved true v x y w e = refl
else_moved false v x y w e = e

-- one pair more was added to a map
pub more_pairs : (pairs start old new : Contents) (i : ℕ) (e : ℕ × ℕ) → IsRising pairs → i < length pairs
    → ((other : ℕ) → packed_at new other ≡ (if other == (get_or pairs i e).0 then Some (get_or pairs i e).1 else packed_at old other))
    → ((key : ℕ) → value_at old key ≡ or_else (value_at (take i pairs) key) (value_at start key))
    → (key : ℕ) → value_at new key ≡ or_else (value_at (take (i + 1) pairs) key) (value_at start key)
more_pairs pairs start old new i e rising within put before key =
    let k : ℕ = (get_or pairs i e).0 in
    let v : ℕ = (get_or pairs i e).1 in
    let none : value_at (take i pairs) k ≡ None = value_at-lower (take i pairs) k (lower_before pairs i e rising within) in
    let pushed : value_at (take i pairs ++ (k, v) ∷ []) key ≡ (if key == k then Some v else value_at (take i pairs) key) =
    value_at-push (take i pairs) k v key none in
    let more : value_at (take (i + 1) pairs) key ≡ (if key == k then Some v else value_at (take i pairs) key) =
    ap (λ (m : Contents). value_at m key) (take_more pairs i e within) ∙ pushed in
    let came : value_at new key ≡ (if key == k then Some v else value_at old key) = packed_changed old new k key (Some v) (put key) in
    let moved : (if key == k then Some v else value_at old key)
    ≡ or_else (if key == k then Some v else value_at (take i pairs) key) (value_at start key) =
    else_moved (key == k) (value_at old key) (value_at (take i pairs) key) (value_at start key) v (before key) in
    came ∙ (moved ∙ ap (λ (o : Option ℕ). or_else o (value_at start key)) (sym more))
