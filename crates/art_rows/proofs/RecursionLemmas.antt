-- A recursive part is its own body: the lists of words got are long enough for the calls that it
-- makes of itself.
use Rattle.art_rows.proofs.Common.{◌≡◌, ℕ, zero, suc, ◌<◌, ◌≤◌, List, [], ◌∷◌, length, refl, ap, arith, Bool, true, false, if◌then◌else◌, Option}
use Rattle.art_rows.proofs.Common.{Access, Point, Rest, Part, ◌>>=◌, ◌>>◌, give, start_again, access, load, load_at, store, store_at, exchange, add}
use Rattle.art_rows.proofs.Common.{marked, first_at, calls_of, recursive, repeat, each, over}

-- two rests agree on all lists shorter than n
pub record Same (n : ℕ) (r r' : Rest) : Type 0 where
  pub at : (got : List ℕ) → length got < n → r got ≡ r' got

pub Same-refl : (n : ℕ) (r : Rest) → Same n r r
Same-refl n r = record { at = λ got h. refl }

pub Same-less : (k n : ℕ) {r r' : Rest} → k ≤ n → Same n r r' → Same k r r'
Same-less k n le s = record { at = λ got h. s.at got (omega arith) }

-- if what comes after agrees on lists shorter than n, so do the parts
pub record Keeps {A : Type 0} (n : ℕ) (m m' : Part A) : Type 0 where
  pub rest : (again again' : Rest) (after after' : A → Rest) → Same n again again' → ((a : A) → Same n (after a) (after' a))
      → Same n (m again after) (m' again' after')

-- The parts agree even on lists that are longer by one, since they begin with an access.
pub record Delays {A : Type 0} (n : ℕ) (m m' : Part A) : Type 0 where
  pub rest : (again again' : Rest) (after after' : A → Rest) → Same n again again' → ((a : A) → Same n (after a) (after' a))
      → Same (suc n) (m again after) (m' again' after')

pub Delays-keeps : {A : Type 0} {n : ℕ} {m m' : Part A} → Delays n m m' → Keeps n m m'
Delays-keeps {n = n} d = record {
  rest = λ again again' after after' s t. Same-less n (suc n) (omega arith)
      (d.rest again again' after after' s t);
}

pub Delays-more : {A : Type 0} {n : ℕ} {m m' : Part A} → Delays n m m' → Keeps (suc n) m m'
Delays-more {n = n} d =
    record {
      rest = λ again again' after after' s t. d.rest again again' after after' (Same-less n (suc n) (omega arith) s)
          (λ a. Same-less n (suc n) (omega arith) (t a));
    }

-- The body calls itself only after an access.
module _ {S A : Type 0} (body : (S → Part A) → S → Part A)
    (guarded : (n : ℕ) (f g : S → Part A) → ((s : S) → Keeps n (f s) (g s)) → (s : S) → Keeps (suc n) (body f s) (body g s)) where
  pub calls-agree : (n a b : ℕ) → n ≤ a → n ≤ b → (s : S) → Keeps n (calls_of a body s) (calls_of b body s)
  calls-agree zero a b la lb s = record { rest = λ again again' after after' sa sb. record { at = λ got h. absurd (omega (arith, h)) } }
  calls-agree (suc n) zero b la lb s = absurd (omega (arith, la))
  calls-agree (suc n) (suc a) zero la lb s = absurd (omega (arith, lb))
  calls-agree (suc n) (suc a) (suc b) la lb s = record {
    rest = λ again again' after after' sa sb. record {
      at = λ got h.
          ((guarded n (calls_of a body) (calls_of b body) (calls-agree n a b (omega arith) (omega arith)) s).rest again again' after
          after' sa sb).at got h;
    };
  }

  enough : (n : ℕ) (s : S) → Keeps n (calls_of n body s) (recursive body s)
  enough n s = record {
    rest = λ again again' after after' sa sb. record {
      at = λ got h.
          ((calls-agree (suc (length got)) n (suc (length got)) h (omega arith) s).rest again again' after after'
          (Same-less (suc (length got)) n h sa) (λ x. Same-less (suc (length got)) n h (sb x))).at got (omega arith);
    };
  }

  -- The law of a recursive part: it is its own body.
  pub recursive-body : (s : S) (again : Rest) (after : A → Rest) (got : List ℕ)
      → recursive body s again after got ≡ body (recursive body) s again after got
  recursive-body s again after got =
      ((guarded (length got) (calls_of (length got) body) (recursive body) (enough (length got)) s).rest again again after after
      (Same-refl (suc (length got)) again) (λ a. Same-refl (suc (length got)) (after a))).at got (omega arith)

  pub recursive-keeps : (n : ℕ) (s : S) → Keeps n (recursive body s) (recursive body s)
  recursive-keeps n s = record {
    rest = λ again again' after after' sa sb. record {
      at = λ got h.
          ((calls-agree (suc (length got)) (suc (length got)) (suc (length got)) (omega arith) (omega arith) s).rest again
          again' after after'
          (Same-less (suc (length got)) n h sa) (λ x. Same-less (suc (length got)) n h (sb x))).at got (omega arith);
    };
  }

-- If each body begins with an access, the recursive part does too.
module _ {S A : Type 0} (body : (S → Part A) → S → Part A)
    (guarded : (n : ℕ) (f g : S → Part A) → ((s : S) → Keeps n (f s) (g s)) → (s : S) → Delays n (body f s) (body g s)) where
  pub more_guarded : (n : ℕ) (f g : S → Part A) → ((s : S) → Keeps n (f s) (g s)) → (s : S) → Keeps (suc n) (body f s) (body g s)
  more_guarded n f g k s = Delays-more (guarded n f g k s)

  pub recursive-delays : (n : ℕ) (s : S) → Delays n (recursive body s) (recursive body s)
  recursive-delays n s = record {
    rest = λ again again' after after' sa sb. record {
      at = λ got h.
          ((guarded (length got) (calls_of (length got) body) (calls_of (length got) body)
          (calls-agree body more_guarded (length got) (length got) (length got) (omega arith) (omega arith)) s).rest
          again again' after after'
          (Same-less (length got) n (omega (arith, h)) sa) (λ x. Same-less (length got) n (omega (arith, h)) (sb x))).at got (omega arith);
    };
  }

-- How parts keep and delay.

pub give-keeps : {A : Type 0} (n : ℕ) (a : A) → Keeps n (give a) (give a)
give-keeps n a = record { rest = λ again again' after after' sa sb. sb a }

pub again-keeps : {A : Type 0} (n : ℕ) → Keeps {A = A} n start_again start_again
again-keeps n = record { rest = λ again again' after after' sa sb. sa }

pub bind-keeps : {A B : Type 0} {n : ℕ} {m m' : Part A} {f f' : A → Part B} → Keeps n m m' → ((a : A) → Keeps n (f a) (f' a))
    → Keeps n (m >>= f) (m' >>= f')
bind-keeps {f = f} {f' = f'} k l = record {
  rest = λ again again' after after' sa sb.
      k.rest again again' (λ a. f a again after) (λ a. f' a again' after') sa (λ a. (l a).rest again again' after after' sa sb);
}

pub bind-delays : {A B : Type 0} {n : ℕ} {m m' : Part A} {f f' : A → Part B} → Delays n m m' → ((a : A) → Keeps n (f a) (f' a))
    → Delays n (m >>= f) (m' >>= f')
bind-delays {f = f} {f' = f'} k l = record {
  rest = λ again again' after after' sa sb.
      k.rest again again' (λ a. f a again after) (λ a. f' a again' after') sa (λ a. (l a).rest again again' after after' sa sb);
}

pub then-keeps : {A B : Type 0} {n : ℕ} {m m' : Part A} {p p' : Part B} → Keeps n m m' → Keeps n p p' → Keeps n (m >> p) (m' >> p')
then-keeps {p = p} {p' = p'} k l = record {
  rest = λ again again' after after' sa sb.
      k.rest again again' (λ a. p again after) (λ a. p' again' after') sa (λ a. l.rest again again' after after' sa sb);
}

pub if-keeps : {A : Type 0} {n : ℕ} {m m' p p' : Part A} (b : Bool) → Keeps n m m' → Keeps n p p'
    → Keeps n (if b then m else p) (if b then m' else p')
if-keeps true k l = k
if-keeps false k l = l

pub if-delays : {A : Type 0} {n : ℕ} {m m' p p' : Part A} (b : Bool) → Delays n m m' → Delays n p p'
    → Delays n (if b then m else p) (if b then m' else p')
if-delays true k l = k
if-delays false k l = l

access-same : (a : Access) (p : Option Point) (n : ℕ) (after after' : ℕ → Rest) → ((w : ℕ) → Same n (after w) (after' w)) → (got : List ℕ)
    → length got < suc n
    → access a p after got ≡ access a p after' got
access-same a p n after after' s [] h = refl
access-same a p n after after' s (w ∷ got) h = (s w).at got (omega arith)

pub load-delays : (n word : ℕ) → Delays n (load word) (load word)
load-delays n word = record { rest = λ again again' after after' sa sb. record { at = access-same _ _ n after after' sb } }

pub load_at-delays : (p : Point) (n word : ℕ) → Delays n (load_at p word) (load_at p word)
load_at-delays p n word = record { rest = λ again again' after after' sa sb. record { at = access-same _ _ n after after' sb } }

pub exchange-delays : (n word from to : ℕ) → Delays n (exchange word from to) (exchange word from to)
exchange-delays n word from to = record { rest = λ again again' after after' sa sb. record { at = access-same _ _ n after after' sb } }

pub add-delays : (n word : ℕ) → Delays n (add word) (add word)
add-delays n word = record { rest = λ again again' after after' sa sb. record { at = access-same _ _ n after after' sb } }

pub store-delays : (n word value : ℕ) → Delays n (store word value) (store word value)
store-delays n word value = record {
  rest = λ again again' after after' sa sb. record {
    at = access-same _ _ n (λ _. after tt)
        (λ _. after' tt) (λ _. sb tt);
  };
}

pub store_at-delays : (p : Point) (n word value : ℕ) → Delays n (store_at p word value) (store_at p word value)
store_at-delays p n word value =
    record { rest = λ again again' after after' sa sb. record { at = access-same _ _ n (λ _. after tt) (λ _. after' tt) (λ _. sb tt) } }

first_at-same : {A : Type 0} (p : Point) (n : ℕ) {m m' : Part A} → Delays n m m'
    → (again again' : Rest) (after after' : A → Rest) → Same n again again' → ((a : A) → Same n (after a) (after' a))
    → (got : List ℕ) → length got < suc n → first_at p m again after got ≡ first_at p m' again' after' got
first_at-same p n d again again' after after' sa sb [] h = ap (marked p) ((d.rest again again' after after' sa sb).at [] h)
first_at-same p n d again again' after after' sa sb (w ∷ got) h = (d.rest again again' after after' sa sb).at (w ∷ got) h

pub first_at-delays : {A : Type 0} (p : Point) (n : ℕ) {m m' : Part A} → Delays n m m' → Delays n (first_at p m) (first_at p m')
first_at-delays p n d = record {
  rest = λ again again' after after' sa sb. record {
    at = first_at-same p n d again again'
        after after' sa sb;
  };
}

pub each-keeps : {A : Type 0} (n : ℕ) (f : A → Part (Unit {0})) → ((x : A) → Keeps n (f x) (f x)) → (xs : List A)
    → Keeps n (each xs f) (each xs f)
each-keeps n f k [] = give-keeps n tt
each-keeps n f k (x ∷ xs) = then-keeps (k x) (each-keeps n f k xs)

pub over-keeps : {A S : Type 0} (n : ℕ) (f f' : A → S → Part S) → ((x : A) (s : S) → Keeps n (f x s) (f' x s)) → (xs : List A) (s : S)
    → Keeps n (over xs f s) (over xs f' s)
over-keeps n f f' k [] s = give-keeps n s
over-keeps n f f' k (x ∷ xs) s = bind-keeps (k x s) (over-keeps n f f' k xs)

module _ {A : Type 0} (body : Part A → Part A)
    (guarded : (n : ℕ) (m m' : Part A) → Keeps n m m' → Delays n (body m) (body m')) where
  in_turn : (n : ℕ) (f g : Unit {0} → Part A) → ((s : Unit {0}) → Keeps n (f s) (g s)) → (s : Unit {0})
      → Delays n (body (f tt)) (body (g tt))
  in_turn n f g k s = guarded n (f tt) (g tt) (k tt)

  pub repeat-delays : (n : ℕ) → Delays n (repeat body) (repeat body)
  repeat-delays n = recursive-delays (λ self (u : Unit {0}). body (self tt)) in_turn n tt

  -- The law of a part that repeats itself.
  pub repeat-body : (again : Rest) (after : A → Rest) (got : List ℕ) → repeat body again after got ≡ body (repeat body) again after got
  repeat-body = recursive-body (λ self (u : Unit {0}). body (self tt)) (more_guarded (λ self (u : Unit {0}). body (self tt)) in_turn) tt
