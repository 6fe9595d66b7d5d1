-- Lists of numbered processes: who is in them, how often, and in which order.
use Rattle.running.proofs.Common.{◌≡◌, ℕ, ◌+◌, ◌<◌, ◌≤◌, ◌≢◌, ◌⊎◌, inl, inr, ⊎_elim, Bool, true, false, cond, eqb, List, [], ◌∷◌, ◌++◌, sym, refl, ap}
use Rattle.running.proofs.Common.{subst, ◌∙◌, arith, eq-eqb, ne_eqb, nat_lt, if◌then◌else◌, ltb-true, ltb-false, take-append-drop, sum_by-cons}
use Rattle.running.proofs.Common.{sum_by-take-drop, Process, Numbered, placed, merge, IsIn, times, Above, Rises}
use Rattle.std.specs.Prelude.{take, drop}

-- how often p is in a list, by its first process and the others
pub times-hit : (p : ℕ) (y : Numbered) (ys : List Numbered) → p ≡ y.0 → times p (y ∷ ys) ≡ 1 + times p ys
times-hit p y ys e = sum_by-cons (λ (x : Numbered). cond (eqb p x.0) 1 0) y ys ∙ ap (λ b. cond b 1 0 + times p ys) (eq-eqb p y.0 e)

pub times-miss : (p : ℕ) (y : Numbered) (ys : List Numbered) → p ≢ y.0 → times p (y ∷ ys) ≡ times p ys
times-miss p y ys e =
    let all : times p (y ∷ ys) ≡ 0 + times p ys =
    sum_by-cons (λ (x : Numbered). cond (eqb p x.0) 1 0) y ys ∙ ap (λ b. cond b 1 0 + times p ys) (ne_eqb p y.0 e) in
    omega arith

-- in a list with one process more it is as often, or once more
pub times-more : (p : ℕ) (y : Numbered) (ys : List Numbered) → times p ys ≤ times p (y ∷ ys)
times-more p y ys = let all = sum_by-cons (λ (x : Numbered). cond (eqb p x.0) 1 0) y ys in omega arith

pub has-times : (p : ℕ) (q : Process) (l : List Numbered) → IsIn (p, q) l → 1 ≤ times p l
has-times p q [] h = absurd h
has-times p q (y ∷ ys) h = ⊎_elim
    (λ e. let one = times-hit p y ys (ap (λ (x : Numbered). x.0) e) in omega arith)
    (λ t. let r = has-times p q ys t in let more = times-more p y ys in omega arith) h

-- Two lists, one after the other.

has-left : (x : Numbered) (l m : List Numbered) → IsIn x l → IsIn x (l ++ m)
has-left x [] m h = absurd h
has-left x (y ∷ l) m h = ⊎_elim (λ e. inl e) (λ t. inr (has-left x l m t)) h

has-right : (x : Numbered) (l m : List Numbered) → IsIn x m → IsIn x (l ++ m)
has-right x [] m h = h
has-right x (y ∷ l) m h = inr (has-right x l m h)

above-left : (p : ℕ) (l m : List Numbered) → Above p (l ++ m) → Above p l
above-left p [] m h = tt
above-left p (x ∷ l) m h = (h.0, above-left p l m h.1)

rises-left : (l m : List Numbered) → Rises (l ++ m) → Rises l
rises-left [] m h = tt
rises-left (x ∷ l) m h = (above-left x.0 l m h.0, rises-left l m h.1)

rises-right : (l m : List Numbered) → Rises (l ++ m) → Rises m
rises-right [] m h = h
rises-right (x ∷ l) m h = rises-right l m h.1

-- A list cut in two.

module _ (i : ℕ) (l : List Numbered) where
  pub has-take : (x : Numbered) → IsIn x (take i l) → IsIn x l
  has-take x h = subst (IsIn x) (take-append-drop i l) (has-left x (take i l) (drop i l) h)

  pub has-drop : (x : Numbered) → IsIn x (drop i l) → IsIn x l
  has-drop x h = subst (IsIn x) (take-append-drop i l) (has-right x (take i l) (drop i l) h)

  pub times-cut : (p : ℕ) → times p (take i l) + times p (drop i l) ≡ times p l
  times-cut p = sum_by-take-drop (λ (x : Numbered). cond (eqb p x.0) 1 0) l i

  pub rises-take : Rises l → Rises (take i l)
  rises-take h = rises-left (take i l) (drop i l) (subst Rises (sym (take-append-drop i l)) h)

  pub rises-drop : Rises l → Rises (drop i l)
  rises-drop h = rises-right (take i l) (drop i l) (subst Rises (sym (take-append-drop i l)) h)

-- Two lists made one.

branch : (b : Bool) (f : List Numbered → ℕ) (l m : List Numbered) (n : ℕ) → f l ≡ n → f m ≡ n → f (if b then l else m) ≡ n
branch true f l m n a b = a
branch false f l m n a b = b

times-placed : (p : ℕ) (x : Numbered) (l : List Numbered) → times p (placed x l) ≡ times p (x ∷ l)
times-placed p x [] = refl
times-placed p x (y ∷ ys) =
    let one : Numbered → ℕ = λ z. cond (eqb p z.0) 1 0 in
    let r = times-placed p x ys in
    let a = sum_by-cons one y (placed x ys) in
    let b = sum_by-cons one x (y ∷ ys) in
    let c = sum_by-cons one y ys in
    let d = sum_by-cons one x ys in
    branch (nat_lt x.0 y.0) (times p) (x ∷ y ∷ ys) (y ∷ placed x ys) (times p (x ∷ y ∷ ys)) refl (omega arith)

pub times-merge : (p : ℕ) (l m : List Numbered) → times p (merge l m) ≡ times p l + times p m
times-merge p l [] = let none : times p [] ≡ 0 = refl in omega arith
times-merge p l (x ∷ xs) =
    let one : Numbered → ℕ = λ z. cond (eqb p z.0) 1 0 in
    let r = times-merge p l xs in
    let i = times-placed p x (merge l xs) in
    let a = sum_by-cons one x (merge l xs) in
    let b = sum_by-cons one x xs in
    omega arith

has-branch : (b : Bool) (x : Numbered) (l m : List Numbered) (P : Type 0) → (IsIn x l → P) → (IsIn x m → P)
    → IsIn x (if b then l else m) → P
has-branch true x l m P f g h = f h
has-branch false x l m P f g h = g h

has-placed : (x y : Numbered) (l : List Numbered) → IsIn x (placed y l) → (x ≡ y) ⊎ IsIn x l
has-placed x y [] h = h
has-placed x y (z ∷ zs) h =
    has-branch (nat_lt y.0 z.0) x (y ∷ z ∷ zs) (z ∷ placed y zs) ((x ≡ y) ⊎ IsIn x (z ∷ zs)) (λ t. t)
    (λ t. ⊎_elim (λ e. inr (inl e)) (λ u. ⊎_elim (λ e. inl e) (λ w. inr (inr w)) (has-placed x y zs u)) t) h

pub has-merge : (x : Numbered) (l m : List Numbered) → IsIn x (merge l m) → IsIn x l ⊎ IsIn x m
has-merge x l [] h = inl h
has-merge x l (y ∷ ys) h =
    ⊎_elim (λ e. inr (inl e)) (λ t. ⊎_elim (λ a. inl a) (λ b. inr (inr b)) (has-merge x l ys t)) (has-placed x y (merge l ys) h)

above-all : (p : ℕ) (l : List Numbered) (n : ℕ) → n ≤ p → Above p l → Above n l
above-all p [] n le h = tt
above-all p (y ∷ ys) n le h = let a = h.0 in (omega arith, above-all p ys n le h.1)

above-placed : (p : ℕ) (x : Numbered) (l : List Numbered) → p < x.0 → Above p l → Above p (placed x l)
above-placed p x [] lt h = (lt, tt)
above-placed p x (y ∷ ys) lt h = elim (nat_lt x.0 y.0) as (λ b. Above p (if b then x ∷ y ∷ ys else y ∷ placed x ys)) [
  | true ↦ (lt, h)
  | false ↦ (h.0, above-placed p x ys lt h.1)
]

rises-placed : (x : Numbered) (l : List Numbered) → times x.0 l ≡ 0 → Rises l → Rises (placed x l)
rises-placed x [] new h = (tt, tt)
rises-placed x (y ∷ ys) new h = go (nat_lt x.0 y.0) refl (λ none. rises-placed x ys none h.1)
  where
    apart : x.0 ≡ y.0 → ⊥
    apart e = let one = times-hit x.0 y ys e in omega arith

    none : times x.0 ys ≡ 0
    none = let more = times-more x.0 y ys in omega arith

    go : (b : Bool) → nat_lt x.0 y.0 ≡ b → (times x.0 ys ≡ 0 → Rises (placed x ys)) → Rises (if b then x ∷ y ∷ ys else y ∷ placed x ys)
    go true e later = let lt = ltb-true x.0 y.0 e in ((lt, above-all y.0 ys x.0 (omega arith) h.0), h)
    go false e later =
        let le = ltb-false x.0 y.0 e in
        let lt : y.0 < x.0 = omega (arith, apart) in
        (above-placed y.0 x ys lt h.0, later none)

pub rises-merge : (l m : List Numbered) → Rises l → ((p : ℕ) (q : Process) → IsIn (p, q) m → times p l + times p m ≤ 1) → Rises (merge l m)
rises-merge l [] h once = h
rises-merge l (x ∷ xs) h once =
    let one = once x.0 x.1 (inl refl) in
    let self = times-hit x.0 x xs refl in
    let both = times-merge x.0 l xs in
    rises-placed x (merge l xs) (omega arith) (rises-merge l xs h (λ p q t. let a = once p q (inr t) in let more = times-more p x
    xs in omega arith))
