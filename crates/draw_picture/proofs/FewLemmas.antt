-- A picture of a few calls has few columns: at most three of each call.
use Rattle.draw_picture.proofs.Common.{◌≡◌, ℕ, ◌*◌, ◌≤◌, ◌==◌, ◌&&◌, Bool, true, false, not, cond, List, [], ◌∷◌, ◌++◌, length, map, Some, None, Option}
use Rattle.draw_picture.proofs.Common.{if◌then◌else◌, refl, subst, ⊎_elim, arith, ◌≢◌, ◌||◌, filter, All, AllPairs, Contains, filter_map, cons_option}
use Rattle.draw_picture.proofs.Common.{and_parts, eqb-true, false≢true, or_cases, length-map, length-filter, Operation, AllPairs-map, Contains-from_map}
use Rattle.draw_picture.proofs.Common.{AllPairs-at, AllPairs-from_at, All-from_contains, Contains-first, Contains-from_filter, Contains-later}
use Rattle.draw_picture.proofs.Common.{length-distinct, Bar, Mark, is_of_named, named_bar, named_marks, stands_out, FewHaveFewColumns, AreMarksOf}
use Rattle.draw_picture.proofs.Common.{columns_of, end_of, start_of}
use Rattle.std.proofs.Common.{length-append}
use Rattle.std.proofs.lemmas.List.Kept.{AllPairs-filter}
use Rattle.events.specs.Lists.{has_number}

-- at most one column more, of a bar that is not pale
one_more : (named : Bool) (column : Option ℕ) (bar : Bar) (columns : List ℕ) (bars : List Bar) → length columns ≤ length bars
    → length (cons_option (if not named then None else column) columns) ≤ length (cond named (bar ∷ bars) bars)
one_more true None bar columns bars le = omega arith
one_more true (Some column) bar columns bars le = omega arith
one_more false column bar columns bars le = le

-- each bar that is not pale begins in one column, and ends in at most one
starts_le : (places : List ℕ) (bars : List Bar) → length (filter_map start_of (map (named_bar places) bars))
    ≤ length (filter (stands_out places) bars)
starts_le places [] = omega arith
starts_le places (bar ∷ bars) = one_more (has_number places bar.inv) (Some bar.from) bar _ _ (starts_le places bars)

ends_le : (places : List ℕ) (bars : List Bar) → length (filter_map end_of (map (named_bar places) bars))
    ≤ length (filter (stands_out places) bars)
ends_le places [] = omega arith
ends_le places (bar ∷ bars) = one_more (has_number places bar.inv) bar.to bar _ _ (ends_le places bars)

-- the numbers of the calls of some bars
abbrev numbers : List Bar → List ℕ
numbers bars = map (λ (b : Bar). b.number) bars

-- a number that is that of a bar which is not pale, or of one after it
there : (named : Bool) (bar : Bar) (n : ℕ) (bars : List Bar) (rest : Bool) → (((bar.number == n) && named) || rest) ≡ true
    → (rest ≡ true → Contains (numbers bars) n) → Contains (numbers (cond named (bar ∷ bars) bars)) n
there true bar n bars rest h later =
    ⊎_elim (λ is. subst (λ k. Contains (bar.number ∷ numbers bars) k) (eqb-true bar.number n (and_parts (bar.number == n) true is).0)
    (Contains-first bar.number (numbers bars)))
    (λ is. Contains-later bar.number (numbers bars) n (later is)) (or_cases ((bar.number == n) && true) rest h)
there false bar n bars rest h later =
    ⊎_elim (λ is. absurd (false≢true (and_parts (bar.number == n) false is).1)) (λ is. later is)
    (or_cases ((bar.number == n) && false) rest h)

-- a mark that is kept is of a bar that is not pale
bar_there : (places : List ℕ) (bars : List Bar) (mark : Mark) → is_of_named places bars mark ≡ true
    → Contains (numbers (filter (stands_out places) bars)) mark.number
bar_there places [] mark h = absurd (false≢true h)
bar_there places (bar ∷ bars) mark h =
    there (has_number places bar.inv) bar mark.number (filter (stands_out places) bars) (is_of_named places bars mark) h
    (λ later. bar_there places bars mark later)

-- marks of an order of distinct calls are of distinct calls
marks_distinct : (calls : List Operation) (order : List ℕ) (bars : List Bar) (marks : List Mark) → AllPairs (λ m n. m ≢ n) order
    → AreMarksOf calls order bars marks → AllPairs (λ (a b : Mark). a.number ≢ b.number) marks
marks_distinct calls order bars marks distinct are =
    AllPairs-from_at (λ (a b : Mark). a.number ≢ b.number) marks (λ i j a b before first second.
    AllPairs-at (λ m n. m ≢ n) order i j a.number b.number distinct before (are.each i a first).number (are.each j b second).number)

-- there are no more of them than bars that are not pale
marks_le : (places : List ℕ) (bars : List Bar) (marks : List Mark) → AllPairs (λ (a b : Mark). a.number ≢ b.number) marks
    → length (named_marks places bars marks) ≤ length (filter (stands_out places) bars)
marks_le places bars marks distinct =
    let kept = named_marks places bars marks in
    let apart = AllPairs-map (λ m n. m ≢ n) (λ (m : Mark). m.number) kept
    (AllPairs-filter (λ (a b : Mark). a.number ≢ b.number) (is_of_named places bars) marks distinct) in
    let within : All (Contains (numbers (filter (stands_out places) bars))) (map (λ (m : Mark). m.number) kept) =
    All-from_contains (Contains (numbers (filter (stands_out places) bars))) (map (λ (m : Mark). m.number) kept) (λ n h.
    let (mark, is_kept, is) = Contains-from_map (λ (m : Mark). m.number) kept n h in
    subst (λ k. Contains (numbers (filter (stands_out places) bars)) k) is
    (bar_there places bars mark (Contains-from_filter (is_of_named places bars) marks mark is_kept).1)) in
    let fewer = length-distinct (map (λ (m : Mark). m.number) kept) (numbers (filter (stands_out places) bars)) apart within in
    omega (arith, fewer, length-map kept (λ (m : Mark). m.number), length-map (filter (stands_out places) bars) (λ (b : Bar). b.number))

-- the columns of a picture in which only they are not pale
among_le : (places : List ℕ) (bars : List Bar) (marks : List Mark) → AllPairs (λ (a b : Mark). a.number ≢ b.number) marks
    → length (columns_of (map (named_bar places) bars) (named_marks places bars marks)) ≤ length (filter (stands_out places) bars) * 3
among_le places bars marks distinct =
    let starts = filter_map start_of (map (named_bar places) bars) in
    let ends = filter_map end_of (map (named_bar places) bars) in
    let places_marked = map (λ (m : Mark). m.column) (named_marks places bars marks) in
    omega (
      arith,
      starts_le places bars,
      ends_le places bars,
      marks_le places bars marks distinct,
      length-append (starts ++ ends) places_marked,
      length-append starts ends,
      length-map (named_marks places bars marks) (λ (m : Mark). m.column),
    )

pub few_columns : FewHaveFewColumns
few_columns calls order places wrong whole part distinct are few =
    let many = length-filter (stands_out places) whole.bars.items in
    let most = among_le places whole.bars.items whole.marks.items (marks_distinct calls order whole.bars.items whole.marks.items distinct are) in
    let same : length (columns_of few.narrowed.bars.items few.narrowed.marks.items)
    ≡ length (columns_of (map (named_bar places) whole.bars.items) (named_marks places whole.bars.items whole.marks.items)) =
    rw (few.named.bars, few.named.marks) refl in
    let columns = few.shown.columns in
    omega (arith, many, most, same, columns)
