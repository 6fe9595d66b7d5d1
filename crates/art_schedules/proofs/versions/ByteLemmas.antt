-- Index words that a scan loads.
use Rattle.art_schedules.proofs.Common.{◌≡◌, ℕ, zero, suc, ◌+◌, ◌/◌, ◌<◌, ◌≤◌, List, [], ◌∷◌, refl, ap, sym, subst, ◌∙◌, Bool, true, false, arith}
use Rattle.art_schedules.proofs.Common.{Each, bytes_of, filter, if◌then◌else◌, in_word}
use Rattle.std.proofs.lemmas.Bool.{eqb-true}
use Rattle.art_schedules.proofs.alone.DifferLemmas.{heads}
use Rattle.art_rows.specs.Steps.{numbers}
use Rattle.art_rows.specs.Rows.{Row}
use Rattle.art_rows.specs.Scan.{can_lie}

-- an index word that holds a byte is one of the 32

numbers-below : (first n top : ℕ) → first + n ≤ top → Each (λ i. i < top) (numbers first n)
numbers-below first zero top h = tt
numbers-below first (suc n) top h = (omega (arith, h), numbers-below (first + 1) n top (omega (arith, h)))

filter-each : (p : ℕ → Bool) (Q : ℕ → Type 0) (ys : List ℕ) → Each Q ys → Each Q (filter p ys)
filter-each p Q [] h = tt
filter-each p Q (y ∷ ys) h = go (p y) (filter-each p Q ys h.1)
  where
    go : (b : Bool) → Each Q (filter p ys) → Each Q (if b then y ∷ filter p ys else filter p ys)
    go true rest = (h.0, rest)
    go false rest = rest

pub no-head : {x : ℕ} {xs : List ℕ} → [] ≡ x ∷ xs → ⊥
no-head e = cc

filter-head : (p : ℕ → Bool) (ys : List ℕ) (x : ℕ) (xs : List ℕ) → filter p ys ≡ x ∷ xs → p x ≡ true
filter-head p [] x xs e = absurd (no-head e)
filter-head p (y ∷ ys) x xs e = go (p y) refl e (filter-head p ys x xs)
  where
    go : (b : Bool) → p y ≡ b → (if b then y ∷ filter p ys else filter p ys) ≡ x ∷ xs → (filter p ys ≡ x ∷ xs → p x ≡ true) → p x ≡ true
    go true is f rest = ap p (sym (heads f)) ∙ is
    go false is f rest = rest f

first-each : (Q : ℕ → Type 0) (ys : List ℕ) (x : ℕ) (xs : List ℕ) → ys ≡ x ∷ xs → Each Q ys → Q x
first-each Q ys x xs e h = (subst (Each Q) e h).0

pub index-small : (lo hi : ℕ) (n : Row) (j x : ℕ) (xs : List ℕ) → filter (in_word j) (bytes_of lo hi n) ≡ x ∷ xs → j < 32
index-small lo hi n j x xs e =
    let byte = filter-head (in_word j) (bytes_of lo hi n) x xs e in
    let less = first-each (λ i. i < 256) (filter (in_word j) (bytes_of lo hi n)) x xs e
    (filter-each (in_word j) (λ i. i < 256) (bytes_of lo hi n)
    (filter-each (can_lie lo hi n) (λ i. i < 256) (numbers 0 256) (numbers-below 0 256 256 (omega arith)))) in
    omega (arith, eqb-true (x / 8) j byte, less)
