-- Events that are put by rising stamp: what a filter keeps of them, and what is counted of them.
use Rattle.events.proofs.Common.{◌≡◌, ℕ, ◌+◌, ◌≤◌, Bool, true, false, cond, List, [], ◌∷◌, filter, refl, sym, ap, ◌∙◌, arith, nat_le, if◌then◌else◌}
use Rattle.events.proofs.Common.{sum_by, list_all, leb-true, le-leb, and_parts, sum_by-cons, Stamped, placed, by_stamp}
use Rattle.events.proofs.SortLemmas.{rises, by_stamp_rises}

rises-lower : (low k : ℕ) (es : List Stamped) → low ≤ k → rises k es → rises low es
rises-lower low k [] le h = tt
rises-lower low k (e ∷ es) le h = (let first = h.0 in omega arith, h.1)

rises-filter : (f : Stamped → Bool) (low : ℕ) (es : List Stamped) → rises low es → rises low (filter f es)
rises-filter f low [] h = tt
rises-filter f low (e ∷ es) h = elim (f e) as (λ b. rises low (cond b (e ∷ filter f es) (filter f es))) [
  | true ↦ (h.0, rises-filter f e.0 es h.1)
  | false ↦ rises-filter f low es (rises-lower low e.0 es h.0 h.1)
]

placed-first : (e : Stamped) (es : List Stamped) → rises e.0 es → placed e es ≡ e ∷ es
placed-first e [] h = refl
placed-first e (f ∷ fs) h = let below : nat_le e.0 f.0 ≡ true = le-leb e.0 f.0 h.0 in rw below refl

-- events that rise are by rising stamp
pub by_stamp-rising : (low : ℕ) (es : List Stamped) → rises low es → by_stamp es ≡ es
by_stamp-rising low [] h = refl
by_stamp-rising low (e ∷ es) h = ap (placed e) (by_stamp-rising e.0 es h.1) ∙ placed-first e es h.1

module _ (f : Stamped → Bool) where
  passed-over : (a b : Bool) (e g : Stamped) (fs : List Stamped) → nat_le e.0 g.0 ≡ false
      → cond b (g ∷ cond a (placed e fs) fs) (cond a (placed e fs) fs) ≡ cond a (placed e (cond b (g ∷ fs) fs)) (cond b (g ∷ fs) fs)
  passed-over true true e g fs above = rw above refl
  passed-over true false e g fs above = refl
  passed-over false true e g fs above = refl
  passed-over false false e g fs above = refl

  filter-placed : (low : ℕ) (e : Stamped) (es : List Stamped) → rises low es
      → filter f (placed e es) ≡ cond (f e) (placed e (filter f es)) (filter f es)
  filter-placed low e [] h = refl
  filter-placed low e (g ∷ gs) h = go (nat_le e.0 g.0) refl (filter-placed g.0 e gs h.1)
    where
      go : (b : Bool) → nat_le e.0 g.0 ≡ b → filter f (placed e gs) ≡ cond (f e) (placed e (filter f gs)) (filter f gs)
          → filter f (if b then e ∷ g ∷ gs else g ∷ placed e gs) ≡ cond (f e) (placed e (filter f (g ∷ gs))) (filter f (g ∷ gs))
      go true is later =
          let first = placed-first e (filter f (g ∷ gs)) (rises-filter f e.0 (g ∷ gs) (leb-true e.0 g.0 is, h.1)) in
          ap (λ es. cond (f e) es (filter f (g ∷ gs))) (sym first)
      go false is later = ap (λ es. cond (f g) (g ∷ es) es) later ∙ passed-over (f e) (f g) e g (filter f gs) is

  -- what a filter keeps of the events by rising stamp is what it keeps of them, by rising stamp
  pub filter-by_stamp : (es : List Stamped) → filter f (by_stamp es) ≡ by_stamp (filter f es)
  filter-by_stamp [] = refl
  filter-by_stamp (e ∷ es) =
      filter-placed 0 e (by_stamp es) (by_stamp_rises es)
      ∙ (ap (λ fs. cond (f e) (placed e fs) fs) (filter-by_stamp es)
      ∙ elim (f e) as (λ b. cond b (placed e (by_stamp (filter f es))) (by_stamp (filter f es)) ≡ by_stamp
      (cond b (e ∷ filter f es) (filter f es))) [
        | true ↦ refl
        | false ↦ refl
      ])

  all-placed : (e : Stamped) (es : List Stamped) → f e ≡ true → list_all f es ≡ true → list_all f (placed e es) ≡ true
  all-placed e [] passes h = rw passes refl
  all-placed e (g ∷ gs) passes h = elim (nat_le e.0 g.0) as (λ b. list_all f (if b then e ∷ g ∷ gs else g ∷ placed e gs) ≡ true) [
    | true ↦ rw passes h
    | false ↦ let parts = and_parts (f g) (list_all f gs) h in rw parts.0 (all-placed e gs passes parts.1)
  ]

  -- what passes for all events passes for all of them by rising stamp
  pub all-by_stamp : (es : List Stamped) → list_all f es ≡ true → list_all f (by_stamp es) ≡ true
  all-by_stamp [] h = refl
  all-by_stamp (e ∷ es) h =
      let parts = and_parts (f e) (list_all f es) h in all-placed e (by_stamp es) parts.0 (all-by_stamp es parts.1)

module _ (f : Stamped → ℕ) where
  sum-placed : (e : Stamped) (es : List Stamped) → sum_by f (placed e es) ≡ f e + sum_by f es
  sum-placed e [] = sum_by-cons f e []
  sum-placed e (g ∷ gs) = elim (nat_le e.0 g.0) as (λ b. sum_by f (if b then e ∷ g ∷ gs else g ∷ placed e gs) ≡ f e + sum_by f (g ∷ gs)) [
    | true ↦ sum_by-cons f e (g ∷ gs)
    | false ↦ omega (arith, sum_by-cons f g (placed e gs), sum-placed e gs, sum_by-cons f g gs)
  ]

  -- a sum over events is the sum over them by rising stamp
  pub sum-by_stamp : (es : List Stamped) → sum_by f (by_stamp es) ≡ sum_by f es
  sum-by_stamp [] = refl
  sum-by_stamp (e ∷ es) = omega (arith, sum-placed e (by_stamp es), sum-by_stamp es, sum_by-cons f e es)
