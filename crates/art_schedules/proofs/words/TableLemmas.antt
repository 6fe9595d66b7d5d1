-- Where rows are.
use Rattle.art_schedules.proofs.Common.{◌≡◌, ℕ, suc, ◌+◌, ◌-◌, ◌*◌, ◌/◌, ◌<◌, ◌≤◌, refl, ap, sym, subst, ◌∙◌, ⊎_elim, Bool, true, false, arith}
use Rattle.art_schedules.proofs.Common.{cases_lt, Shape, Kind, Four, Sixteen, FortyEight, Full, row_words, rows_of, table_words, first_base}
use Rattle.art_schedules.proofs.Common.{base_of, is_base_of, kind_at}
use Rattle.std.proofs.lemmas.Nat.{mul-le}
use Rattle.std.specs.Prelude.{Some, None, if◌then◌else◌}
use Rattle.art_rows.proofs.KindLemmas.{some-words}

-- a base is one of the rows of its kind
pub is_base : (s : Shape) (kind : Kind) (number : ℕ) → number < rows_of s kind → is_base_of s kind (base_of s kind number) ≡ true
is_base s Four number h = grind (arith, h)
is_base s Sixteen number h = grind (arith, h)
is_base s FortyEight number h = grind (arith, h)
is_base s Full number h = grind (arith, h)

-- a word after the rows of a kind is no base of that kind
behind : (s : Shape) (kind : Kind) (base : ℕ) → first_base s kind + row_words kind * rows_of s kind ≤ base → is_base_of s kind base ≡ false
behind s Four base h = grind (arith, h)
behind s Sixteen base h = grind (arith, h)
behind s FortyEight base h = grind (arith, h)
behind s Full base h = grind (arith, h)

-- the row of a kind at a base
pub kind_at-base_of : (s : Shape) (kind : Kind) (number : ℕ) → number < rows_of s kind → kind_at s (base_of s kind number) ≡ Some kind
kind_at-base_of s Four number h = rw (is_base s Four number h)
kind_at-base_of s Sixteen number h = rw (behind s Four (base_of s Sixteen number) (omega arith), is_base s Sixteen number h)
kind_at-base_of s FortyEight number h =
    rw (
      behind s Four (base_of s FortyEight number) (omega arith),
      behind s Sixteen (base_of s FortyEight number) (omega arith),
      is_base s
          FortyEight number h,
    )
kind_at-base_of s Full number h =
    rw (
      behind s Four (base_of s Full number) (omega arith),
      behind s Sixteen (base_of s Full number) (omega arith),
      behind s FortyEight (base_of s Full number) (omega arith),
      is_base s Full number h,
    )

abbrev chosen : Kind → Bool → Bool → Bool → Bool → Bool
chosen Four a b c d = a
chosen Sixteen a b c d = b
chosen FortyEight a b c d = c
chosen Full a b c d = d

choice : (a b c d : Bool) (kind : Kind)
    → (if a then Some Four else if b then Some Sixteen else if c then Some FortyEight else if d then Some Full else None) ≡ Some kind
    → chosen kind a b c d ≡ true
choice true b c d Four e = refl
choice true b c d Sixteen e = cc
choice true b c d FortyEight e = cc
choice true b c d Full e = cc
choice false true c d Sixteen e = refl
choice false true c d Four e = cc
choice false true c d FortyEight e = cc
choice false true c d Full e = cc
choice false false true d FortyEight e = refl
choice false false true d Four e = cc
choice false false true d Sixteen e = cc
choice false false true d Full e = cc
choice false false false true Full e = refl
choice false false false true Four e = cc
choice false false false true Sixteen e = cc
choice false false false true FortyEight e = cc
choice false false false false kind e = cc

-- a row of the table has a number
pub record IsNumbered (s : Shape) (base : ℕ) (kind : Kind) : Type 0 where
  pub number : ℕ
  pub below : number < rows_of s kind
  pub is : base ≡ base_of s kind number

is_base-numbered : (s : Shape) (kind : Kind) (base : ℕ) → is_base_of s kind base ≡ true → IsNumbered s base kind
is_base-numbered s Four base e =
    record { number = (base - first_base s Four) / 7; below = grind (arith, e); is = grind (arith, e) }
is_base-numbered s Sixteen base e =
    record { number = (base - first_base s Sixteen) / 21; below = grind (arith, e); is = grind (arith, e) }
is_base-numbered s FortyEight base e =
    record { number = (base - first_base s FortyEight) / 83; below = grind (arith, e); is = grind (arith, e) }
is_base-numbered s Full base e =
    record { number = (base - first_base s Full) / 258; below = grind (arith, e); is = grind (arith, e) }

pub numbered : (s : Shape) (base : ℕ) (kind : Kind) → kind_at s base ≡ Some kind → IsNumbered s base kind
numbered s base Four e = is_base-numbered s Four base (choice _ _ _ _ Four e)
numbered s base Sixteen e = is_base-numbered s Sixteen base (choice _ _ _ _ Sixteen e)
numbered s base FortyEight e = is_base-numbered s FortyEight base (choice _ _ _ _ FortyEight e)
numbered s base Full e = is_base-numbered s Full base (choice _ _ _ _ Full e)

-- rows lie after the claims, and in the table
pub row_begins : (s : Shape) (base : ℕ) (kind : Kind) → kind_at s base ≡ Some kind → 5 ≤ base
row_begins s base kind e = begins kind (numbered s base kind e)
  where
    begins : (kind : Kind) → IsNumbered s base kind → 5 ≤ base
    begins Four n = omega (arith, n.is)
    begins Sixteen n = omega (arith, n.is)
    begins FortyEight n = omega (arith, n.is)
    begins Full n = omega (arith, n.is)

pub row_ends : (s : Shape) (base : ℕ) (kind : Kind) → kind_at s base ≡ Some kind → base + row_words kind ≤ table_words s
row_ends s base kind e = ends kind (numbered s base kind e)
  where
    ends : (kind : Kind) → IsNumbered s base kind → base + row_words kind ≤ table_words s
    ends Four n = omega (arith, n.is, n.below)
    ends Sixteen n = omega (arith, n.is, n.below)
    ends FortyEight n = omega (arith, n.is, n.below)
    ends Full n = omega (arith, n.is, n.below)

-- A word is of one row only.

same_numbers : (w f m n word : ℕ) → 0 < w → f + w * m ≤ word → word < f + w * m + w → f + w * n ≤ word → word < f + w * n + w → m ≡ n
same_numbers w f m n word some a b c d = ⊎_elim (λ l. absurd (omega (arith, less m n l, b, c)))
    (λ h. ⊎_elim (λ l. absurd (omega (arith, less n m l, d, a))) (λ k. omega (arith, h, k)) (cases_lt n m)) (cases_lt m n)
  where
    less : (m n : ℕ) → m < n → w * m + w ≤ w * n
    less m n l = let more : w * suc m ≤ w * n = mul-le w (suc m) w n (omega arith) l in omega (arith, more)

abbrev IsIn : ℕ → Kind → ℕ → Type 0
IsIn base kind word = (base ≤ word) × (word < base + row_words kind)

within_kind : (s : Shape) (kind : Kind) (base word : ℕ) → IsNumbered s base kind → IsIn base kind word
    → (first_base s kind ≤ word) × (word < first_base s kind + row_words kind * rows_of s kind)
within_kind s Four base word n h = (omega (arith, n.is, n.below, h.0, h.1), omega (arith, n.is, n.below, h.0, h.1))
within_kind s Sixteen base word n h = (omega (arith, n.is, n.below, h.0, h.1), omega (arith, n.is, n.below, h.0, h.1))
within_kind s FortyEight base word n h = (omega (arith, n.is, n.below, h.0, h.1), omega (arith, n.is, n.below, h.0, h.1))
within_kind s Full base word n h = (omega (arith, n.is, n.below, h.0, h.1), omega (arith, n.is, n.below, h.0, h.1))

abbrev IsOfKind : Shape → Kind → ℕ → Type 0
IsOfKind s kind word = (first_base s kind ≤ word) × (word < first_base s kind + row_words kind * rows_of s kind)

same_kind : (s : Shape) (a b : Kind) (word : ℕ) → IsOfKind s a word → IsOfKind s b word → a ≡ b
same_kind s Four Four word h k = refl
same_kind s Four Sixteen word h k = absurd (omega (arith, h.0, h.1, k.0, k.1))
same_kind s Four FortyEight word h k = absurd (omega (arith, h.0, h.1, k.0, k.1))
same_kind s Four Full word h k = absurd (omega (arith, h.0, h.1, k.0, k.1))
same_kind s Sixteen Four word h k = absurd (omega (arith, h.0, h.1, k.0, k.1))
same_kind s Sixteen Sixteen word h k = refl
same_kind s Sixteen FortyEight word h k = absurd (omega (arith, h.0, h.1, k.0, k.1))
same_kind s Sixteen Full word h k = absurd (omega (arith, h.0, h.1, k.0, k.1))
same_kind s FortyEight Four word h k = absurd (omega (arith, h.0, h.1, k.0, k.1))
same_kind s FortyEight Sixteen word h k = absurd (omega (arith, h.0, h.1, k.0, k.1))
same_kind s FortyEight FortyEight word h k = refl
same_kind s FortyEight Full word h k = absurd (omega (arith, h.0, h.1, k.0, k.1))
same_kind s Full Four word h k = absurd (omega (arith, h.0, h.1, k.0, k.1))
same_kind s Full Sixteen word h k = absurd (omega (arith, h.0, h.1, k.0, k.1))
same_kind s Full FortyEight word h k = absurd (omega (arith, h.0, h.1, k.0, k.1))
same_kind s Full Full word h k = refl

same_row : (s : Shape) (a b : ℕ) (kind : Kind) (word : ℕ) → IsNumbered s a kind → IsNumbered s b kind → IsIn a kind word
    → IsIn b kind word → a ≡ b
same_row s a b kind word m n h k =
    let hm = subst (λ x. IsIn x kind word) m.is h in
    let hn = subst (λ x. IsIn x kind word) n.is k in
    m.is ∙ ap (base_of s kind) (same_numbers (row_words kind) (first_base s kind) m.number n.number word (some-words kind) hm.0 hm.1
    hn.0 hn.1) ∙ sym n.is

-- the row that has a word
pub rows_apart : (s : Shape) (a b : ℕ) (ka kb : Kind) (word : ℕ) → kind_at s a ≡ Some ka → kind_at s b ≡ Some kb
    → a ≤ word → word < a + row_words ka → b ≤ word → word < b + row_words kb → (a ≡ b) × (ka ≡ kb)
rows_apart s a b ka kb word ea eb la ha lb hb =
    let na = numbered s a ka ea in
    let nb = numbered s b kb eb in
    let kinds = same_kind s ka kb word (within_kind s ka a word na (la, ha)) (within_kind s kb b word nb (lb, hb)) in
    (same_row s a b kb word (subst (IsNumbered s a) kinds na) nb (subst (λ k. IsIn a k word) kinds (la, ha)) (lb, hb), kinds)

-- a base has one number
pub base_of-once : (s : Shape) (ka kb : Kind) (m n : ℕ) → m < rows_of s ka → n < rows_of s kb → base_of s ka m ≡ base_of s kb n
    → (ka ≡ kb) × (m ≡ n)
base_of-once s ka kb m n hm hn e =
    let same = rows_apart s (base_of s ka m) (base_of s kb n) ka kb (base_of s ka m) (kind_at-base_of s ka m hm) (kind_at-base_of s kb n hn)
    (omega arith) (omega (arith, some-words ka)) (omega (arith, e)) (omega (arith, e, some-words kb)) in
    (same.1, number ka kb same.1 e)
  where
    number : (ka kb : Kind) → ka ≡ kb → base_of s ka m ≡ base_of s kb n → m ≡ n
    number ka kb k e =
        let at = subst (λ x. base_of s x m ≡ base_of s kb n) k e in
        same_numbers (row_words kb) (first_base s kb) m n (base_of s kb n) (some-words kb)
        (omega (arith, at)) (omega (arith, at, some-words kb)) (omega arith) (omega (arith, some-words kb))
