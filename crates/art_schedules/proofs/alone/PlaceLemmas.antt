-- Rows of a table lie apart from one another and from the words before them.
use Rattle.art_schedules.proofs.Common.{◌≡◌, ℕ, ◌+◌, ◌-◌, ◌*◌, ◌/◌, ◌<◌, ◌≤◌, Bool, true, false, refl, sym, ap, ◌∙◌, subst, arith}
use Rattle.std.proofs.Common.{Some, None, if◌then◌else◌}
use Rattle.art_schedules.proofs.Common.{Shape, Kind, Four, Sixteen, FortyEight, Full, row_words, rows_of, table_words, base_of}
use Rattle.art_schedules.proofs.Common.{is_base_of, kind_at}
use Rattle.art_rows.proofs.KindLemmas.{kind_at-is_base}
use Rattle.art_schedules.proofs.words.TableLemmas.{is_base}

-- the base is that of a row of the kind, with this number
pub record Sits (s : Shape) (base : ℕ) (kind : Kind) : Type 0 where
  pub number : ℕ
  pub low : number < rows_of s kind
  pub is : base ≡ base_of s kind number

-- ---- a word is in one row only

-- two places are one
abbrev One : Kind → Kind → ℕ → ℕ → ℕ → ℕ → Type 0
One k l m n i j = (k ≡ l) × (m ≡ n) × (i ≡ j)

pub rows-part : (s : Shape) (k l : Kind) (m n i j : ℕ) → m < rows_of s k → n < rows_of s l → i < row_words k → j < row_words l
    → base_of s k m + i ≡ base_of s l n + j → One k l m n i j
rows-part s Four Four m n i j lm ln li lj e = (refl, omega (arith, lm, ln, li, lj, e), omega (arith, lm, ln, li, lj, e))
rows-part s Sixteen Sixteen m n i j lm ln li lj e = (refl, omega (arith, lm, ln, li, lj, e), omega (arith, lm, ln, li, lj, e))
rows-part s FortyEight FortyEight m n i j lm ln li lj e = (refl, omega (arith, lm, ln, li, lj, e), omega (arith, lm, ln, li, lj, e))
rows-part s Full Full m n i j lm ln li lj e = (refl, omega (arith, lm, ln, li, lj, e), omega (arith, lm, ln, li, lj, e))
rows-part s Four Sixteen m n i j lm ln li lj e = absurd (omega (arith, lm, ln, li, lj, e))
rows-part s Four FortyEight m n i j lm ln li lj e = absurd (omega (arith, lm, ln, li, lj, e))
rows-part s Four Full m n i j lm ln li lj e = absurd (omega (arith, lm, ln, li, lj, e))
rows-part s Sixteen Four m n i j lm ln li lj e = absurd (omega (arith, lm, ln, li, lj, e))
rows-part s Sixteen FortyEight m n i j lm ln li lj e = absurd (omega (arith, lm, ln, li, lj, e))
rows-part s Sixteen Full m n i j lm ln li lj e = absurd (omega (arith, lm, ln, li, lj, e))
rows-part s FortyEight Four m n i j lm ln li lj e = absurd (omega (arith, lm, ln, li, lj, e))
rows-part s FortyEight Sixteen m n i j lm ln li lj e = absurd (omega (arith, lm, ln, li, lj, e))
rows-part s FortyEight Full m n i j lm ln li lj e = absurd (omega (arith, lm, ln, li, lj, e))
rows-part s Full Four m n i j lm ln li lj e = absurd (omega (arith, lm, ln, li, lj, e))
rows-part s Full Sixteen m n i j lm ln li lj e = absurd (omega (arith, lm, ln, li, lj, e))
rows-part s Full FortyEight m n i j lm ln li lj e = absurd (omega (arith, lm, ln, li, lj, e))

-- if two words of rows are one, so are their rows and their places in them
pub sits-part : (s : Shape) (a b i j : ℕ) (k l : Kind) → (x : Sits s a k) → (y : Sits s b l) → i < row_words k
    → j < row_words l → a + i ≡ b + j
    → (k ≡ l) × (x.number ≡ y.number) × (a ≡ b) × (i ≡ j)
sits-part s a b i j k l x y li lj e =
    let (kinds, numbers, places) = rows-part s k l x.number y.number i j x.low y.low li lj (ap (λ n. n + i) (sym x.is)
    ∙ (e ∙ ap (λ n. n + j) y.is)) in
    (kinds, numbers, x.is ∙ (ap (λ n. base_of s k n) numbers ∙ (ap (λ q. base_of s q y.number) kinds ∙ sym y.is)), places)

-- ---- in the table, after the counts of claims

pub sits-inside : (s : Shape) (base i : ℕ) (kind : Kind) → Sits s base kind → i < row_words kind → (5 ≤ base) × (base + i < table_words s)
sits-inside s base i kind x li = subst (λ b. (5 ≤ b) × (b + i < table_words s)) (sym x.is) (go kind x.number x.low li)
  where
    go : (k : Kind) (n : ℕ) → n < rows_of s k → i < row_words k → (5 ≤ base_of s k n) × (base_of s k n + i < table_words s)
    go Four n ln l = (omega arith, omega (arith, ln, l))
    go Sixteen n ln l = (omega arith, omega (arith, ln, l))
    go FortyEight n ln l = (omega arith, omega (arith, ln, l))
    go Full n ln l = (omega arith, omega (arith, ln, l))

-- ---- a base with a kind is a row's

is_base-sits : (s : Shape) (kind : Kind) (base : ℕ) → is_base_of s kind base ≡ true → Sits s base kind
is_base-sits s Four base e = record { number = (base - 5) / 7; low = grind arith; is = grind arith }
is_base-sits s Sixteen base e = record { number = (base - (5 + 7 * s.rows4)) / 21; low = grind arith; is = grind arith }
is_base-sits s FortyEight base e = record { number = (base - (5 + 7 * s.rows4 + 21 * s.rows16)) / 83; low = grind arith; is = grind arith }
is_base-sits s Full base e =
    record { number = (base - (5 + 7 * s.rows4 + 21 * s.rows16 + 83 * s.rows48)) / 258; low = grind arith; is = grind arith }

pub kind_at-sits : (s : Shape) (base : ℕ) (kind : Kind) → kind_at s base ≡ Some kind → Sits s base kind
kind_at-sits s base kind e = is_base-sits s kind base (kind_at-is_base s base kind e)

-- ---- and a row's base has its kind

pub sits-kind_at : (s : Shape) (base : ℕ) (kind : Kind) → Sits s base kind → kind_at s base ≡ Some kind
sits-kind_at s base kind x = go kind x (ap (λ b. is_base_of s kind b) x.is ∙ is_base s kind x.number x.low)
  where
    other : (k l : Kind) → (k ≡ l → ⊥) → Sits s base l → (b : Bool) → is_base_of s k base ≡ b → is_base_of s k base ≡ false
    other k l apart y true e = absurd (apart (sits-part s base base 0 0 k l (is_base-sits s k base e) y (some_words k)
        (some_words l) refl).0)
      where
        some_words : (q : Kind) → 0 < row_words q
        some_words Four = omega arith
        some_words Sixteen = omega arith
        some_words FortyEight = omega arith
        some_words Full = omega arith
    other k l apart y false e = e

    four_sixteen : Four ≡ Sixteen → ⊥
    four_sixteen e = cc

    four_48 : Four ≡ FortyEight → ⊥
    four_48 e = cc

    four_full : Four ≡ Full → ⊥
    four_full e = cc

    sixteen_48 : Sixteen ≡ FortyEight → ⊥
    sixteen_48 e = cc

    sixteen_full : Sixteen ≡ Full → ⊥
    sixteen_full e = cc

    full_48 : FortyEight ≡ Full → ⊥
    full_48 e = cc

    go : (k : Kind) → Sits s base k → is_base_of s k base ≡ true → kind_at s base ≡ Some k
    go Four y e = ap (λ b. if b then Some Four else if is_base_of s Sixteen base then Some Sixteen else if is_base_of s FortyEight
        base then Some FortyEight
        else if is_base_of s Full base then Some Full else None) e
    go Sixteen y e = ap (λ b. if b then Some Four else if is_base_of s Sixteen base then Some Sixteen else if is_base_of s FortyEight
        base then Some FortyEight
        else if is_base_of s Full base then Some Full else None) (other Four Sixteen four_sixteen y (is_base_of s Four base) refl)
        ∙ ap (λ b. if b then Some Sixteen else if is_base_of s FortyEight base then Some FortyEight
        else if is_base_of s Full base then Some Full else None) e
    go FortyEight y e = ap (λ b. if b then Some Four else if is_base_of s Sixteen base then Some Sixteen
        else if is_base_of s FortyEight base then Some FortyEight
        else if is_base_of s Full base then Some Full else None) (other Four FortyEight four_48 y (is_base_of s Four base) refl)
        ∙ (ap (λ b. if b then Some Sixteen else if is_base_of s FortyEight base then Some FortyEight
        else if is_base_of s Full base then Some Full else None) (other Sixteen FortyEight sixteen_48 y (is_base_of s Sixteen base) refl)
        ∙ ap (λ b. if b then Some FortyEight else if is_base_of s Full base then Some Full else None) e)
    go Full y e = ap (λ b. if b then Some Four else if is_base_of s Sixteen base then Some Sixteen else if is_base_of s FortyEight
        base then Some FortyEight
        else if is_base_of s Full base then Some Full else None) (other Four Full four_full y (is_base_of s Four base) refl)
        ∙ (ap (λ b. if b then Some Sixteen else if is_base_of s FortyEight base then Some FortyEight
        else if is_base_of s Full base then Some Full else None) (other Sixteen Full sixteen_full y (is_base_of s Sixteen base) refl)
        ∙ (ap (λ b. if b then Some FortyEight else if is_base_of s Full base then Some Full else None)
        (other FortyEight Full full_48 y (is_base_of s FortyEight base) refl) ∙ ap (λ b. if b then Some Full else None) e))
