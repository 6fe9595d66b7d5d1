-- GROW from kind 48 to kind 256: each child goes to its byte.
use Rattle.art_schedules.proofs.Common.{◌≡◌, ℕ, zero, suc, ◌+◌, ◌-◌, ◌*◌, ◌/◌, ◌%◌, ◌<◌, ◌≤◌, List, length, refl, ap, sym, subst, ◌∙◌, ⊎_elim, inl}
use Rattle.art_rows.specs.Rows.{Row}
use Rattle.art_schedules.proofs.Common.{inr, Bool, true, false, arith, cases_lt, eqb-false, All-get_or, FortyEight, Full, index_at, child_of}
use Rattle.art_schedules.proofs.Common.{child_word, entries_of, Part, each, numbers, give, Setting, new_leaf, store_child, copy_child}
use Rattle.art_schedules.proofs.Common.{spread_entry, spread_index, fill, child_in, child_on, Comes, IsStored, AreSmall, IsBeside, HasGrown}
use Rattle.std.specs.Prelude.{◌⊎◌, ◌==◌, if◌then◌else◌, slice_index, Some, None}
use Rattle.art_schedules.proofs.alone.AloneLemmas.{give-comes, then-comes, bind-comes, load-comes, each_none-comes, each-comes}
use Rattle.art_schedules.proofs.writes.StoreLemmas.{small-copy, small-child, stored-other, stored-long, with_child, child-stored, store_child-comes}
use Rattle.art_schedules.proofs.writes.StoreLemmas.{with_copy, child-copied, copy_child-comes}
use Rattle.art_schedules.proofs.writes.IndexLemmas.{length-entries, entries-most, entry_in}

module _ (c : Setting) (n : Row) (base : ℕ) (words : List ℕ) (fits : base + 258 ≤ length words)
    (apart : (n.base + 83 ≤ base) ⊎ (base + 258 ≤ n.base))
    (zeros : (z : ℕ) → z < 256 → slice_index words (base + 2 + z) ≡ 0) where
  -- the children of the bytes below y have been spread
  pub record IsSpread (now : List ℕ) (y : ℕ) : Type 0 where
    pub long : length now ≡ length words
    pub beside : (word : ℕ) → IsBeside base Full word → slice_index now word ≡ slice_index words word
    pub done : (z : ℕ) → z < y → child_of c.shape (slice_index now (base + 2 + z)) ≡ child_on c.shape words n.base FortyEight z
    pub todo : (z : ℕ) → y ≤ z → z < 256 → slice_index now (base + 2 + z) ≡ 0
    pub small : AreSmall words → AreSmall now

  -- a part that spreads the children up to y
  abbrev pub Spreads : Part (Unit {0}) → List ℕ → ℕ → Type 0
  Spreads part now y = (later : List ℕ) × Comes part now tt later × IsSpread later y

  old_stays : (now : List ℕ) (y word : ℕ) → IsSpread now y → n.base ≤ word → word < n.base + 83
      → slice_index now word ≡ slice_index words word
  old_stays now y word h low high = h.beside word (⊎_elim (λ l. inl (omega (arith, l, high))) (λ l. inr (omega (arith, l, low))) apart)

  is_absent : (y e : ℕ) → entry_in words n.base y ≡ e → (e == 0) ≡ true → (now : List ℕ) → IsSpread now y → y < 256 → IsSpread now (y + 1)
  is_absent y e is none now h small =
      record {
        long = h.long;
        beside = h.beside;
        done = λ z l. ⊎_elim (λ m. h.done z m) (λ m. here z (omega (arith, l, m))) (cases_lt z y);
        todo = λ z l m. h.todo z (omega (arith, l)) m;
        small = h.small;
      }
    where
      at : child_of c.shape (slice_index now (base + 2 + y)) ≡ child_on c.shape words n.base FortyEight y
      at =
          ap (child_of c.shape) (h.todo y (omega arith) small)
          ∙ sym (ap (λ b. child_in c.shape words (if b then None else Some (n.base + 35 + (entry_in words n.base y - 1))))
          (ap (λ k. k == 0) is ∙ none))

      here : (z : ℕ) → z ≡ y → child_of c.shape (slice_index now (base + 2 + z)) ≡ child_on c.shape words n.base FortyEight z
      here z e = subst (λ z. child_of c.shape (slice_index now (base + 2 + z)) ≡ child_on c.shape words n.base FortyEight z) (sym e) at

  is_copied : (y e : ℕ) → entry_in words n.base y ≡ e → (e == 0) ≡ false → e ≤ 48 → (now : List ℕ) → IsSpread now y → y < 256
      → IsSpread (with_copy c.shape now (n.base + 35 + (e - 1)) (base + 2 + y)) (y + 1)
  is_copied y e is some most now h small =
      record {
        long = stored-long now (base + 2 + y) _ ∙ h.long;
        beside = λ word b.
            stored-other now (base + 2 + y) word _ (⊎_elim (λ l e. omega (arith, l, e)) (λ l e. omega (arith, l, e, small)) b)
            ∙ h.beside word b;
        done = λ z l. ⊎_elim
            (λ m. ap (child_of c.shape) (stored-other now (base + 2 + y) (base + 2 + z) _ (λ e. omega (arith, e, m))) ∙ h.done z m)
            (λ m. here z (omega (arith, l, m))) (cases_lt z y);
        todo = λ z l m. stored-other now (base + 2 + y) (base + 2 + z) _ (λ e. omega (arith, e, l)) ∙ h.todo z (omega (arith, l)) m;
        small = λ k. small-copy c.shape now (n.base + 35 + (e - 1)) (base + 2 + y) (h.small k);
      }
    where
      at : child_of c.shape (slice_index (with_copy c.shape now (n.base + 35 + (e - 1)) (base + 2 + y)) (base + 2 + y))
          ≡ child_on c.shape words n.base FortyEight y
      at =
          child-copied c.shape now (n.base + 35 + (e - 1)) (base + 2 + y) (omega (arith, fits, small, h.long))
          ∙ ap (child_of c.shape) (old_stays now y (n.base + 35 + (e - 1)) h (omega arith) (omega (arith, most, eqb-false e 0 some)))
          ∙ sym (ap (λ b. child_in c.shape words (if b then None else Some (n.base + 35 + (entry_in words n.base y - 1))))
          (ap (λ k. k == 0) is ∙ some)
          ∙ ap (λ k. child_of c.shape (slice_index words (n.base + 35 + (k - 1)))) is)

      here : (z : ℕ) → z ≡ y
          → child_of c.shape (slice_index (with_copy c.shape now (n.base + 35 + (e - 1)) (base + 2 + y)) (base + 2 + z))
          ≡ child_on c.shape words n.base FortyEight z
      here z e' =
          subst (λ z. child_of c.shape (slice_index (with_copy c.shape now (n.base + 35 + (e - 1)) (base + 2 + y)) (base + 2 + z))
          ≡ child_on c.shape words n.base FortyEight z) (sym e') at

  -- one entry
  spread_one : (j i : ℕ) (es : List ℕ) → es ≡ entries_of (slice_index words (n.base + 2 + j)) → j < 32 → i < 8 → (now : List ℕ)
      → IsSpread now (8 * j + i)
      → Spreads (spread_entry c n base j es i) now (8 * j + i + 1)
  unfolding spread_entry
  spread_one j i es is few less now h = go (slice_index es i == 0) refl
    where
      row : (8 * j + i) / 8 ≡ j
      row = omega (arith, less)

      column : (8 * j + i) % 8 ≡ i
      column = omega (arith, less)

      entry : entry_in words n.base (8 * j + i) ≡ slice_index es i
      entry =
          ap (λ k. slice_index (entries_of (slice_index words (n.base + 2 + k))) ((8 * j + i) % 8)) row
          ∙ ap (λ k. slice_index (entries_of (slice_index words (n.base + 2 + j))) k) column
          ∙ ap (λ ds. slice_index ds i) (sym is)

      most : slice_index es i ≤ 48
      most =
          subst (λ ds. slice_index ds i ≤ 48) (sym is) (All-get_or (λ e. e ≤ 48) (entries_of (slice_index words (n.base + 2 + j))) i 0
          (omega (arith, less, length-entries (slice_index words (n.base + 2 + j)))) (entries-most (slice_index words (n.base + 2 + j))))

      go : (b : Bool) → (slice_index es i == 0) ≡ b
          → Spreads (if b then give tt else copy_child c (n.base + 35 + (slice_index es i - 1)) (base + 2 + (8 * j + i)))
          now (8 * j + i + 1)
      go true e =
          (now, give-comes tt now, is_absent (8 * j + i) (slice_index es i) entry e now h (omega (arith, few, less)))
      go false e = (
        with_copy c.shape now (n.base + 35 + (slice_index es i - 1)) (base + 2 + (8 * j + i)),
        copy_child-comes c (n.base + 35 + (slice_index es i - 1)) (base + 2 + (8 * j + i)) now,
        is_copied (8 * j + i) (slice_index es i) entry e most now h (omega (arith, few, less)),
      )

  -- the entries of an index word
  spread_word : (j i m : ℕ) (es : List ℕ) → es ≡ entries_of (slice_index words (n.base + 2 + j)) → j < 32 → i + m ≤ 8 → (now : List ℕ)
      → IsSpread now (8 * j + i) → Spreads (each (numbers i m) (spread_entry c n base j es)) now (8 * j + (i + m))
  spread_word j i zero es is few less now h =
      (now, each_none-comes (spread_entry c n base j es) now, subst (IsSpread now) same h)
    where
      same : 8 * j + i ≡ 8 * j + (i + 0)
      same = omega arith
  spread_word j i (suc m) es is few less now h =
      let one = spread_one j i es is few (omega (arith, less)) now h in
      let rest = spread_word j (i + 1) m es is few (omega (arith, less)) one.0 (subst (IsSpread one.0) next one.2) in
      (rest.0, each-comes i (numbers (i + 1) m) (spread_entry c n base j es) one.1 rest.1, subst (IsSpread rest.0) same rest.2)
    where
      next : 8 * j + i + 1 ≡ 8 * j + (i + 1)
      next = omega arith

      same : 8 * j + (i + 1 + m) ≡ 8 * j + (i + suc m)
      same = omega arith

  -- the index words
  spread_words : (j m : ℕ) → j + m ≤ 32 → (now : List ℕ) → IsSpread now (8 * j)
      → Spreads (each (numbers j m) (spread_index c n base)) now (8 * (j + m))
  unfolding spread_index
  spread_words j zero less now h = (now, each_none-comes (spread_index c n base) now, subst (IsSpread now) same h)
    where
      same : 8 * j ≡ 8 * (j + 0)
      same = omega arith
  spread_words j (suc m) less now h =
      let w : ℕ = slice_index now (index_at n.base (8 * j)) in
      let is : entries_of w ≡ entries_of (slice_index words (n.base + 2 + j)) = ap entries_of (ap (slice_index now) place
      ∙ old_stays now (8 * j) (n.base + 2 + j) h (omega arith) (omega (arith, less))) in
      let word = spread_word j 0 8 (entries_of w) is (omega (arith, less)) (omega arith) now (subst (IsSpread now) first h) in
      let rest = spread_words (j + 1) m (omega (arith, less)) word.0 (subst (IsSpread word.0) next word.2) in (
        rest.0,
        each-comes j (numbers (j + 1) m) (spread_index c n base) {later = rest.0}
            (bind-comes {f = λ w. each (numbers 0 8) (spread_entry c n base j (entries_of w))}
            (load-comes (index_at n.base (8 * j)) now) word.1) rest.1,
        subst (IsSpread rest.0) same rest.2,
      )
    where
      place : index_at n.base (8 * j) ≡ n.base + 2 + j
      place = omega arith

      first : 8 * j ≡ 8 * j + 0
      first = omega arith

      next : 8 * j + (0 + 8) ≡ 8 * (j + 1)
      next = omega arith

      same : 8 * (j + 1 + m) ≡ 8 * (j + suc m)
      same = omega arith

  -- none is spread at first
  none_spread : IsSpread words (8 * 0)
  none_spread = record {
    long = refl;
    beside = λ word b. refl;
    done = λ z l. absurd (omega (arith, l));
    todo = λ z l m. zeros z
        m;
    small = λ k. k;
  }

  pub all_spread : Spreads (each (numbers 0 32) (spread_index c n base)) words (8 * (0 + 32))
  all_spread = spread_words 0 32 (omega arith) words none_spread

-- the fresh row, with the new leaf
pub grow48 : (c : Setting) (n : Row) (base : ℕ) (words : List ℕ) (x : ℕ) (keys : List ℕ) (count : ℕ) → base + 258 ≤ length words
    → (n.base + 83 ≤ base) ⊎ (base + 258 ≤ n.base) → ((z : ℕ) → z < 256 → slice_index words (base + 2 + z) ≡ 0) → x < 256
    → IsStored c.shape (new_leaf c.call)
    → (later : List ℕ) × Comes (fill FortyEight c n base x keys count) words tt later
    × HasGrown c.shape words later n.base FortyEight base Full x (new_leaf c.call)
unfolding fill
grow48 c n base words x keys count fits apart zeros small stored =
    let spread = all_spread c n base words fits apart zeros in
    let now : List ℕ = spread.0 in
    let leaf = new_leaf c.call in (
      with_child now (base + 2 + x) leaf,
      then-comes {n = store_child (base + 2 + x) leaf} spread.1 (store_child-comes (base + 2 + x) leaf now),
      record {
        long = stored-long now (base + 2 + x) (child_word leaf) ∙ spread.2.long;
        beside = λ word b.
            stored-other now (base + 2 + x) word (child_word leaf)
            (⊎_elim (λ l e. omega (arith, l, e)) (λ l e. omega (arith, l, e, small)) b)
            ∙ spread.2.beside word b;
        form = tt;
        others = λ y b other.
            ap (child_of c.shape) (stored-other now (base + 2 + x) (base + 2 + y) (child_word leaf) (λ e. other (omega (arith, e))))
            ∙ spread.2.done y (omega (arith, b));
        put = child-stored c.shape now (base + 2 + x) leaf (omega (arith, fits, small, spread.2.long)) stored;
        small = λ k short. small-child now (base + 2 + x) leaf (spread.2.small k) short;
      },
    )
