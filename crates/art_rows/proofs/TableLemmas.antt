-- Every access is in the table, whatever words were got.
use Rattle.art_rows.proofs.Common.{◌≡◌, ℕ, zero, suc, ◌+◌, ◌-◌, ◌/◌, ◌%◌, ◌<◌, ◌≤◌, List, [], ◌∷◌, length, refl, ap, subst, arith, Bool, true, false}
use Rattle.art_rows.proofs.Common.{min, ◌==◌, Option, Some, None, if◌then◌else◌, Reply, pair_limit, Shape, Kind, Four, Sixteen, FortyEight, Full}
use Rattle.art_rows.proofs.Common.{Child, Empty, Leaf, row_words, rows_of, table_words, base_of, is_base_of, kind_at, child_of, row_child, Access}
use Rattle.art_rows.proofs.Common.{Point, Turn, Asks, Answers, Rest, Part, ◌>>=◌, ◌>>◌, give, start_again, answer, access, load, load_at, store}
use Rattle.art_rows.proofs.Common.{store_at, exchange, add, marked, first_at, calls_of, recursive, repeat, each, over, numbers, numbers_down, word_of}
use Rattle.events.specs.Histories.{pair_count}
use Rattle.art_rows.specs.declared.table.Child.TheVariants.{Row as ChildRow}
use Rattle.art_rows.proofs.KindLemmas.{kind_at-is_base}
use Rattle.art_rows.proofs.TurnLemmas.{asks-answers, answers-asks, asks-same, answers-same}

-- a word of the table that is not the clock
abbrev pub Inside : Shape → ℕ → Type 0
Inside s word = 0 < min word (table_words s - word)

-- a reply within the limit of pairs
abbrev pub IsSmall : Reply → Type 0
IsSmall r = pair_count r ≤ pair_limit

pub record Stays (s : Shape) (r : Rest) : Type 0 where
  pub at : (got : List ℕ) (a : Access) (p : Option Point) → r got ≡ Asks a p → Inside s (word_of a)
  pub says : (got : List ℕ) (reply : Reply) → r got ≡ Answers reply → IsSmall reply

-- the part stays in the table and gives values of P, where what comes after them stays
pub record Within {A : Type 0} (s : Shape) (P : A → Type 0) (m : Part A) : Type 0 where
  pub rest : (again : Rest) (after : A → Rest) → Stays s again → ((x : A) → P x → Stays s (after x)) → Stays s (m again after)

abbrev pub Any : {A : Type 0} → A → Type 0
Any x = Unit {0}

access-stays : (s : Shape) (a : Access) (p : Option Point) (after : ℕ → Rest) → Inside s (word_of a) → ((w : ℕ) → Stays s (after w))
    → Stays s (access a p after)
access-stays s a p after h k = record { at = go; says = said }
  where
    said : (got : List ℕ) (r : Reply) → access a p after got ≡ Answers r → IsSmall r
    said [] r e = absurd (asks-answers e)
    said (w ∷ got) r e = (k w).says got r e

    go : (got : List ℕ) (b : Access) (q : Option Point) → access a p after got ≡ Asks b q → Inside s (word_of b)
    go [] b q e = rw (asks-same e) at h
    go (w ∷ got) b q e = (k w).at got b q e

pub give-within : {A : Type 0} (s : Shape) (P : A → Type 0) (a : A) → P a → Within s P (give a)
give-within s P a h = record { rest = λ again after sa sb. sb a h }

pub again-within : {A : Type 0} (s : Shape) (P : A → Type 0) → Within s P start_again
again-within s P = record { rest = λ again after sa sb. sa }

pub answer-within : {A : Type 0} (s : Shape) (P : A → Type 0) (r : Reply) → IsSmall r → Within s P (answer r)
answer-within s P r small =
    record {
      rest = λ again after sa sb. record {
        at = λ got a p e. absurd (answers-asks e);
        says = λ got q e. subst IsSmall
            (answers-same e) small;
      };
    }

pub bind-within : {A B : Type 0} {s : Shape} {P : A → Type 0} {Q : B → Type 0} {m : Part A} {f : A → Part B} → Within s P m
    → ((x : A) → P x → Within s Q (f x)) → Within s Q (m >>= f)
bind-within {f = f} k l = record {
  rest = λ again after sa sb. k.rest again (λ a. f a again after) sa
      (λ a h. (l a h).rest again after sa sb);
}

pub then-within : {A B : Type 0} {s : Shape} {P : A → Type 0} {Q : B → Type 0} {m : Part A} {p : Part B} → Within s P m → Within s Q p
    → Within s Q (m >> p)
then-within {p = p} k l = record { rest = λ again after sa sb. k.rest again (λ a. p again after) sa (λ a h. l.rest again after sa sb) }

pub if-within : {A : Type 0} {s : Shape} {P : A → Type 0} {m p : Part A} (b : Bool) → (b ≡ true → Within s P m) → (b ≡ false → Within s P p)
    → Within s P (if b then m else p)
if-within true k l = k refl
if-within false k l = l refl

pub load-within : (s : Shape) (word : ℕ) → Inside s word → Within s Any (load word)
load-within s word h = record { rest = λ again after sa sb. access-stays s _ _ after h (λ w. sb w tt) }

pub load_at-within : (s : Shape) (p : Point) (word : ℕ) → Inside s word → Within s Any (load_at p word)
load_at-within s p word h = record { rest = λ again after sa sb. access-stays s _ _ after h (λ w. sb w tt) }

pub exchange-within : (s : Shape) (word from to : ℕ) → Inside s word → Within s Any (exchange word from to)
exchange-within s word from to h = record { rest = λ again after sa sb. access-stays s _ _ after h (λ w. sb w tt) }

pub add-within : (s : Shape) (word : ℕ) → Inside s word → Within s Any (add word)
add-within s word h = record { rest = λ again after sa sb. access-stays s _ _ after h (λ w. sb w tt) }

pub store-within : (s : Shape) (word value : ℕ) → Inside s word → Within s Any (store word value)
store-within s word value h = record { rest = λ again after sa sb. access-stays s _ _ (λ _. after tt) h (λ w. sb tt tt) }

pub store_at-within : (s : Shape) (p : Point) (word value : ℕ) → Inside s word → Within s Any (store_at p word value)
store_at-within s p word value h = record { rest = λ again after sa sb. access-stays s _ _ (λ _. after tt) h (λ w. sb tt tt) }

pub first_at-within : {A : Type 0} {s : Shape} {P : A → Type 0} {m : Part A} (p : Point) → Within s P m → Within s P (first_at p m)
first_at-within {A = A} {s = s} {m = m} p k =
    record {
      rest = λ again after sa sb. record {
        at = go again after (k.rest again after sa sb);
        says = said again after
            (k.rest again after sa sb);
      };
    }
  where
    unmark : (t : Turn) (a : Access) (q : Option Point) → marked p t ≡ Asks a q → (r : Option Point) × (t ≡ Asks a r)
    unmark (Asks b r) a q e = (r, ap (λ x. Asks x r) (asks-same e))
    unmark (Answers r) a q e = absurd (answers-asks e)

    unmark_reply : (t : Turn) (r : Reply) → marked p t ≡ Answers r → t ≡ Answers r
    unmark_reply (Asks b q) r e = absurd (asks-answers e)
    unmark_reply (Answers q) r e = e

    said : (again : Rest) (after : A → Rest) → Stays s (m again after) → (got : List ℕ) (r : Reply)
        → first_at p m again after got ≡ Answers r → IsSmall r
    said again after st [] r e = st.says [] r (unmark_reply (m again after []) r e)
    said again after st (w ∷ got) r e = st.says (w ∷ got) r e

    go : (again : Rest) (after : A → Rest) → Stays s (m again after) → (got : List ℕ) (a : Access) (q : Option Point)
        → first_at p m again after got ≡ Asks a q
        → Inside s (word_of a)
    go again after st [] a q e = let u = unmark (m again after []) a q e in st.at [] a u.0 u.1
    go again after st (w ∷ got) a q e = st.at (w ∷ got) a q e

pub recursive-within : {S A : Type 0} (s : Shape) (P : A → Type 0) (I : S → Type 0) (body : (S → Part A) → S → Part A)
    → ((f : S → Part A) → ((x : S) → I x → Within s P (f x)) → (x : S) → I x → Within s P (body f x)) → (x : S) → I x
    → Within s P (recursive body x)
recursive-within {S} {A} s P I body h x i =
    record {
      rest = λ again after sa sb. record {
        at = λ got a p e. ((all (suc (length got)) x i).rest again after sa sb).at got a p e;
        says = λ got r e. ((all (suc (length got)) x i).rest again after sa sb).says got r e;
      };
    }
  where
    all : (n : ℕ) (x : S) → I x → Within s P (calls_of n body x)
    all zero x i =
        record {
          rest = λ again after sa sb. record {
            at = λ got a p e. absurd (answers-asks e);
            says = λ got r e. subst IsSmall (answers-same e) (omega arith);
          };
        }
    all (suc n) x i =
        record {
          rest = λ again after sa sb. record {
            at = λ got a p e. ((h (calls_of n body) (all n) x i).rest again after sa sb).at got a p e;
            says = λ got r e. ((h (calls_of n body) (all n) x i).rest again after sa sb).says got r e;
          };
        }

pub repeat-within : {A : Type 0} (s : Shape) (P : A → Type 0) (body : Part A → Part A) → ((m : Part A) → Within s P m → Within s P (body m))
    → Within s P (repeat body)
repeat-within s P body h = recursive-within s P Any (λ self (u : Unit {0}). body (self tt)) (λ f k x i. h (f tt) (k tt tt)) tt tt

abbrev pub Each : {A : Type 0} → (A → Type 0) → List A → Type 0
Each P [] = Unit {0}
Each P (x ∷ xs) = P x × Each P xs

pub each-within : {A : Type 0} (s : Shape) (P : A → Type 0) (f : A → Part (Unit {0})) → ((x : A) → P x → Within s Any (f x))
    → (xs : List A) → Each P xs
    → Within s Any (each xs f)
each-within s P f k [] h = give-within s Any tt tt
each-within s P f k (x ∷ xs) h = then-within (k x h.0) (each-within s P f k xs h.1)

pub over-within : {A S : Type 0} (s : Shape) (P : A → Type 0) (I : S → Type 0) (f : A → S → Part S)
    → ((x : A) (v : S) → P x → I v → Within s I (f x v))
    → (xs : List A) → Each P xs → (v : S) → I v → Within s I (over xs f v)
over-within s P I f k [] h v i = give-within s I v i
over-within s P I f k (x ∷ xs) h v i = bind-within (k x v h.0 i) (λ w j. over-within s P I f k xs h.1 w j)

pub numbers-each : (first n : ℕ) → Each (λ i. i < first + n) (numbers first n)
numbers-each first zero = tt
numbers-each first (suc n) = (omega arith, each-more (first + 1) n (first + suc n) (omega arith) (numbers-each (first + 1) n))
  where
    each-more : (m n top : ℕ) → m + n ≤ top → Each (λ i. i < m + n) (numbers m n) → Each (λ i. i < top) (numbers m n)
    each-more m n top h e = each-weaker (λ i. i < m + n) (λ i. i < top) (λ i l. omega (arith, l, h)) (numbers m n) e
      where
        each-weaker : (P Q : ℕ → Type 0) → ((i : ℕ) → P i → Q i) → (xs : List ℕ) → Each P xs → Each Q xs
        each-weaker P Q w [] e = tt
        each-weaker P Q w (x ∷ xs) e = (w x e.0, each-weaker P Q w xs e.1)

pub numbers_down-each : (first n : ℕ) → Each (λ i. i < first + n) (numbers_down first n)
numbers_down-each first zero = tt
numbers_down-each first (suc n) = (
  omega arith,
  each-weaker (λ i. i < first + n) (λ i. i < first + suc n) (λ i l. omega (arith, l)) (numbers_down first n)
      (numbers_down-each first n),
)
  where
    each-weaker : (P Q : ℕ → Type 0) → ((i : ℕ) → P i → Q i) → (xs : List ℕ) → Each P xs → Each Q xs
    each-weaker P Q w [] e = tt
    each-weaker P Q w (x ∷ xs) e = (w x e.0, each-weaker P Q w xs e.1)

-- Rows lie in the table.

-- a row of the table
pub record IsIn (s : Shape) (base : ℕ) (kind : Kind) : Type 0 where
  pub begins : 5 ≤ base
  pub fits : base + row_words kind ≤ table_words s

pub is_base-fits : (s : Shape) (kind : Kind) (base : ℕ) → is_base_of s kind base ≡ true → IsIn s base kind
is_base-fits s Four base e = record { begins = grind arith; fits = grind arith }
is_base-fits s Sixteen base e = record { begins = grind arith; fits = grind arith }
is_base-fits s FortyEight base e = record { begins = grind arith; fits = grind arith }
is_base-fits s Full base e = record { begins = grind arith; fits = grind arith }

pub kind_at-fits : (s : Shape) (base : ℕ) (kind : Kind) → kind_at s base ≡ Some kind → IsIn s base kind
kind_at-fits s base kind e = is_base-fits s kind base (kind_at-is_base s base kind e)

abbrev pub IsGood : Shape → Child → Type 0
IsGood s Empty = Unit {0}
IsGood s (ChildRow base kind) = IsIn s base kind
IsGood s (Leaf key value) = Unit {0}

row_child-good : (s : Shape) (base : ℕ) (o : Option Kind) → kind_at s base ≡ o → IsGood s (row_child base o)
row_child-good s base None e = tt
row_child-good s base (Some kind) e = kind_at-fits s base kind e

pub child_of-good : (s : Shape) (w : ℕ) → IsGood s (child_of s w)
child_of-good s w = one (w % 4 == 1)
  where
    two : (b : Bool) → IsGood s (if b then Leaf (w / 4294967296) (w % 4294967296 / 4) else Empty)
    two true = tt
    two false = tt

    one : (b : Bool)
        → IsGood s (if b then row_child (w / 4)
        (kind_at s (w / 4)) else (if w % 4 == 2 then Leaf (w / 4294967296) (w % 4294967296 / 4) else Empty))
    one true = row_child-good s (w / 4) (kind_at s (w / 4)) refl
    one false = two (w % 4 == 2)

pub base_of-fits : (s : Shape) (kind : Kind) (number : ℕ) → number < rows_of s kind → IsIn s (base_of s kind number) kind
base_of-fits s Four number h = record { begins = grind arith; fits = grind arith }
base_of-fits s Sixteen number h = record { begins = grind arith; fits = grind arith }
base_of-fits s FortyEight number h = record { begins = grind arith; fits = grind arith }
base_of-fits s Full number h = record { begins = grind arith; fits = grind arith }
