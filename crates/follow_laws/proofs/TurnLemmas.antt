-- Calls, one after another, at a key: parts of them, and others in their places.
use Rattle.follow_laws.proofs.Common.{◌≡◌, ℕ, Bool, true, false, List, [], ◌∷◌, ◌++◌, Option, inl, inr, refl, sym, ap, ◌∙◌, subst, ⊎_elim, ◌≢◌, ◌⊎◌}
use Rattle.follow_laws.proofs.Common.{All, Contains, All-contains, AllPairs-cons, AllPairs-nil, AllPairs-head, AllPairs-tail, All-from_contains}
use Rattle.follow_laws.proofs.Common.{Contains-nil, Contains-first, Contains-later, Contains-cases, KeyedCall, IsNoEffect, ends_before, precedes}
use Rattle.follow_laws.proofs.Common.{FitInTurn, left_by, AreDistinct, KeepPrecedence}

-- what one call after others leaves
pub left_by-append : (key : ℕ) (value : Option ℕ) (xs ys : List KeyedCall)
    → left_by key value (xs ++ ys) ≡ left_by key (left_by key value xs) ys
left_by-append key value [] ys = refl
left_by-append key value (x ∷ xs) ys = left_by-append key ((x.effect key).leaves value) xs ys

-- if calls fit one after another, so do the first ones, and the others after them
pub fit-front : (key : ℕ) (value : Option ℕ) (xs ys : List KeyedCall) → FitInTurn key value (xs ++ ys) → FitInTurn key value xs
fit-front key value [] ys fit = tt
fit-front key value (x ∷ xs) ys fit = (fit.0, fit-front key ((x.effect key).leaves value) xs ys fit.1)

pub fit-back : (key : ℕ) (value : Option ℕ) (xs ys : List KeyedCall) → FitInTurn key value (xs ++ ys)
    → FitInTurn key (left_by key value xs) ys
fit-back key value [] ys fit = fit
fit-back key value (x ∷ xs) ys fit = fit-back key ((x.effect key).leaves value) xs ys fit.1

pub fit-append : (key : ℕ) (value : Option ℕ) (xs ys : List KeyedCall) → FitInTurn key value xs → FitInTurn key (left_by key value xs) ys
    → FitInTurn key value (xs ++ ys)
fit-append key value [] ys fit rest = rest
fit-append key value (x ∷ xs) ys fit rest = (fit.0, fit-append key ((x.effect key).leaves value) xs ys fit.1 rest)

-- a call may replace another in an order: it fits if that fits, and leaves the same there
pub record StandsFor (a b : KeyedCall) : Type 0 where
  pub inv : b.inv ≡ a.inv
  pub ends : (place : ℕ) → ends_before b.res place ≡ true → ends_before a.res place ≡ true
  pub fits : (key : ℕ) (value : Option ℕ) → (a.effect key).fits value ≡ true → (b.effect key).fits value ≡ true
  pub leaves : (key : ℕ) (value : Option ℕ) → (a.effect key).fits value ≡ true → (b.effect key).leaves value ≡ (a.effect key).leaves value

-- a call has no effect at any key
abbrev pub HasNone : KeyedCall → Type 0
HasNone a = (key : ℕ) → IsNoEffect (a.effect key)

-- some call may replace it, in a relation to it, or it is left out
abbrev pub GoesOver : (KeyedCall → KeyedCall → Type 0) → (KeyedCall → Type 0) → KeyedCall → Type 0
GoesOver Q D a = ((b : KeyedCall) × StandsFor a b × Q a b) ⊎ (HasNone a × D a)

-- one after another, each has one in its place or is left out
abbrev pub AreAligned : (KeyedCall → KeyedCall → Type 0) → (KeyedCall → Type 0) → List KeyedCall → List KeyedCall → Type 0
AreAligned Q D [] new = new ≡ []
AreAligned Q D (a ∷ old) new =
    ((b : KeyedCall) × (rest : List KeyedCall) × (new ≡ b ∷ rest) × StandsFor a b × Q a b × AreAligned Q D old rest)
    ⊎ (HasNone a × D a × AreAligned Q D old new)

-- calls, one after another, in the places of others, without some that have no effect
pub record AreOver (Q : KeyedCall → KeyedCall → Type 0) (D : KeyedCall → Type 0) (held : ℕ → Option ℕ) (old new : List KeyedCall)
    : Type 0 where
  pub from : (b : KeyedCall) → Contains new b → (a : KeyedCall) × Contains old a × StandsFor a b × Q a b
  pub to : (a : KeyedCall) → Contains old a → ((b : KeyedCall) × Contains new b × StandsFor a b × Q a b) ⊎ D a
  pub distinct : AreDistinct new
  pub precedence : KeepPrecedence new
  pub fit : (key : ℕ) → FitInTurn key (held key) new
  pub left : (key : ℕ) → left_by key (held key) new ≡ left_by key (held key) old
  pub aligned : AreAligned Q D old new

not_true : (b : Bool) → (b ≡ true → ⊥) → b ≡ false
not_true true h = absurd (h refl)
not_true false h = refl

-- precedence is kept
pub still_precedes : (a b x y : KeyedCall) → StandsFor a x → StandsFor b y → precedes b a ≡ false → precedes y x ≡ false
still_precedes a b x y xa yb h =
    not_true (precedes y x) (λ before.
    let here = subst (λ (place : ℕ). ends_before y.res place ≡ true) xa.inv before in
    let there = yb.ends a.inv here in cc)

over_cons : (Q : KeyedCall → KeyedCall → Type 0) (D : KeyedCall → Type 0) (held : ℕ → Option ℕ) (a b : KeyedCall) (old new : List KeyedCall)
    → StandsFor a b → Q a b → All (λ y. a.inv ≢ y.inv) old → All (λ y. precedes y a ≡ false) old
    → ((key : ℕ) → (a.effect key).fits (held key) ≡ true) → AreOver Q D (λ key. (a.effect key).leaves (held key)) old new
    → AreOver Q D held (a ∷ old) (b ∷ new)
over_cons Q D held a b old new stands q apart early fits over = record {
  from = λ y is.
      ⊎_elim (λ same. (a, Contains-first a old, subst (λ (z : KeyedCall). StandsFor a z) same stands, subst (λ (z : KeyedCall). Q a z) same q))
      (λ later. let (x, x_in, x_stands, x_q) = over.from y later in (x, Contains-later a old x x_in, x_stands, x_q))
      (Contains-cases b new y is);
  to = λ x is.
      ⊎_elim (λ same. inl (b, Contains-first b new, subst (λ (z : KeyedCall). StandsFor z b) same stands, subst (λ (z : KeyedCall). Q z b) same q))
      (λ later. ⊎_elim (λ found. inl (found.0, Contains-later b new found.0 found.1, found.2, found.3)) (λ out. inr out) (over.to x later))
      (Contains-cases a old x is);
  distinct = AllPairs-cons (λ x y. x.inv ≢ y.inv) b new
      (All-from_contains (λ y. b.inv ≢ y.inv) new (λ y is same.
      let (x, x_in, x_stands, x_q) = over.from y is in
      All-contains (λ z. a.inv ≢ z.inv) old x apart x_in (sym stands.inv ∙ same ∙ x_stands.inv)))
      over.distinct;
  precedence = AllPairs-cons (λ x y. precedes y x ≡ false) b new
      (All-from_contains (λ y. precedes y b ≡ false) new (λ y is.
      let (x, x_in, x_stands, x_q) = over.from y is in
      still_precedes a x b y stands x_stands (All-contains (λ z. precedes z a ≡ false) old x early x_in)))
      over.precedence;
  fit = λ key. (
    stands.fits key (held key) (fits key),
    subst (λ (value : Option ℕ). FitInTurn key value new) (sym (stands.leaves key (held key) (fits key))) (over.fit key),
  );
  left = λ key. ap (λ (value : Option ℕ). left_by key value new) (stands.leaves key (held key) (fits key)) ∙ over.left key;
  aligned = inl (b, new, refl, stands, q, over.aligned);
}

over_out : (Q : KeyedCall → KeyedCall → Type 0) (D : KeyedCall → Type 0) (held : ℕ → Option ℕ) (a : KeyedCall) (old new : List KeyedCall)
    → HasNone a → D a → AreOver Q D (λ key. (a.effect key).leaves (held key)) old new → AreOver Q D held (a ∷ old) new
over_out Q D held a old new none out over = record {
  from = λ y is. let (x, x_in, x_stands, x_q) = over.from y is in (x, Contains-later a old x x_in, x_stands, x_q);
  to = λ x is. ⊎_elim (λ same. inr (subst D same out)) (λ later. over.to x later) (Contains-cases a old x is);
  distinct = over.distinct;
  precedence = over.precedence;
  fit = λ key. subst (λ (value : Option ℕ). FitInTurn key value new) ((none key).leaves (held key)) (over.fit key);
  left = λ key. subst (λ (value : Option ℕ). left_by key value new ≡ left_by key ((a.effect key).leaves (held key)) old)
      ((none key).leaves (held key)) (over.left key);
  aligned = inr (none, out, over.aligned);
}

-- calls, one after another, become others
pub go_over : (Q : KeyedCall → KeyedCall → Type 0) (D : KeyedCall → Type 0) (old : List KeyedCall) (held : ℕ → Option ℕ)
    → ((a : KeyedCall) → Contains old a → GoesOver Q D a) → AreDistinct old → KeepPrecedence old
    → ((key : ℕ) → FitInTurn key (held key) old) → (new : List KeyedCall) × AreOver Q D held old new
go_over Q D [] held each distinct precedence fit = (
  [],
  record {
    from = λ b is. absurd (Contains-nil b is);
    to = λ a is. absurd (Contains-nil a is);
    distinct = AllPairs-nil (λ a b. a.inv ≢ b.inv);
    precedence = AllPairs-nil (λ a b. precedes b a ≡ false);
    fit = λ key. tt;
    left = λ key. refl;
    aligned = refl;
  },
)
go_over Q D (a ∷ old) held each distinct precedence fit =
    let (new, over) = go_over Q D old (λ key. (a.effect key).leaves (held key)) (λ x is. each x (Contains-later a old x is))
    (AllPairs-tail (λ x y. x.inv ≢ y.inv) a old distinct) (AllPairs-tail (λ x y. precedes y x ≡ false) a old precedence)
    (λ key. (fit key).1) in
    ⊎_elim
    (λ stands. (
      stands.0 ∷ new,
      over_cons Q D held a stands.0 old new stands.1 stands.2 (AllPairs-head (λ x y. x.inv ≢ y.inv) a old distinct)
          (AllPairs-head (λ x y. precedes y x ≡ false) a old precedence) (λ key. (fit key).0) over,
    ))
    (λ out. (new, over_out Q D held a old new out.0 out.1 over))
    (each a (Contains-first a old))
