-- Nodes that are taken out of a list by its links, and put back.
use Rattle.search.proofs.Common.{◌≡◌, ℕ, zero, suc, ◌+◌, ◌<◌, ◌≤◌, ◌==◌, Bool, true, false, not, ◌||◌, List, [], ◌∷◌, ◌++◌, length, set, refl, sym}
use Rattle.search.proofs.Common.{ap, ◌∙◌, subst, inl, inr, ⊎_elim, arith, ◌≢◌, ◌⊎◌, slice_index, filter, All, AllPairs, Contains, both_ways}
use Rattle.search.proofs.Common.{cases_Bool, false_from_ne_true, eq-eqb, get_or-set_same, get_or-set_other, set-get_or, length-set, All-head}
use Rattle.search.proofs.Common.{All-tail, All-contains, All-weaker, Contains-append_cases, Contains-append_left, Contains-append_right}
use Rattle.search.proofs.Common.{filter-append, has_number, AllPairs-head, AllPairs-tail, AllPairs-back, AllPairs-across, Contains-first}
use Rattle.search.proofs.Common.{Contains-later, Contains-nil, Contains-cases, Contains-split, Contains-filter, Contains-from_filter, Contains-range}
use Rattle.search.proofs.Common.{filter_all, All-from_contains, IsStrictlyIncreasing-range, range_with_len, AllPairs-cons, AllPairs-filter}
use Rattle.search.proofs.Common.{AllPairs-from_increasing, has_number-Contains, has_number-from_Contains, LinksView, AreWithin, unlinked, put_back}
use Rattle.search.proofs.Common.{linked_last, IsChain, without, AreLeft}
use Rattle.events.proofs.FilterLemmas.{filter_implied}
use Rattle.std.proofs.lemmas.List.FromFn.{length-range_with_len, get_or-range_with_len}

-- the numbers of a range are below its end
pub range_below : (size n : ℕ) → Contains (range_with_len 0 size) n → n < size
range_below size n h =
    omega (
      arith,
      h.1,
      h.2,
      length-range_with_len 0 size,
      get_or-range_with_len 0 size h.0 n
          (omega (arith, h.1, length-range_with_len 0 size)),
    )

-- links with the same parts are the same
same_links : (l m : LinksView) → l.after ≡ m.after → l.before ≡ m.before → l ≡ m
same_links l m after before = ap (λ xs. of xs l.before) after ∙ ap (λ xs. of m.after xs) before
  where
    of : List ℕ → List ℕ → LinksView
    of xs ys = record { after = xs; before = ys }

-- what was set twice at a place was set once
set_twice : (xs : List ℕ) (i a b : ℕ) → set (set xs i a) i b ≡ set xs i b
set_twice [] i a b = refl
set_twice (x ∷ xs) zero a b = refl
set_twice (x ∷ xs) (suc i) a b = ap (λ ys. x ∷ ys) (set_twice xs i a b)

-- what was set and set back is as it was
set_back : (xs : List ℕ) (i a b : ℕ) → slice_index xs i ≡ b → set (set xs i a) i b ≡ xs
set_back xs i a b is = set_twice xs i a b ∙ ap (set xs i) (sym is) ∙ set-get_or xs i 0

-- links that agree on the nodes of a chain have the chain
IsChain-same : (l m : LinksView) (from : ℕ) (nodes : List ℕ) (size : ℕ)
    → ((n : ℕ) → Contains (from ∷ nodes) n → slice_index m.after n ≡ slice_index l.after n)
    → ((n : ℕ) → Contains (size ∷ nodes) n → slice_index m.before n ≡ slice_index l.before n) → IsChain l from nodes size
    → IsChain m from nodes size
IsChain-same l m from [] size after before chain =
    (after from (Contains-first from []) ∙ chain.0, before size (Contains-first size []) ∙ chain.1)
IsChain-same l m from (y ∷ nodes) size after before chain = (
  after from (Contains-first from (y ∷ nodes)) ∙ chain.0,
  before y (Contains-later size (y ∷ nodes) y (Contains-first y nodes)) ∙ chain.1,
  IsChain-same l m y nodes size (λ n h. after n (Contains-later from (y ∷ nodes) n h))
      (λ n h. before n
      (⊎_elim (λ is. subst (Contains (size ∷ y ∷ nodes)) is (Contains-first size (y ∷ nodes)))
      (λ within. Contains-later size (y ∷ nodes) n (Contains-later y nodes n within)) (Contains-cases size nodes n h)))
      chain.2,
)

-- the neighbours of a node of a chain
record AreAround (l : LinksView) (from : ℕ) (front : List ℕ) (p : ℕ) (back : List ℕ) (size : ℕ) : Type 0 where
  last : Contains (from ∷ front) (slice_index l.before p)
  next : Contains (size ∷ back) (slice_index l.after p)
  last_after : slice_index l.after (slice_index l.before p) ≡ p
  next_before : slice_index l.before (slice_index l.after p) ≡ p

around : (l : LinksView) (from : ℕ) (front : List ℕ) (p : ℕ) (back : List ℕ) (size : ℕ) → IsChain l from (front ++ p ∷ back) size
    → AreAround l from front p back size
around l from [] p [] size chain = record {
  last = rw chain.1 (Contains-first from []);
  next = rw chain.2.0 (Contains-first size []);
  last_after = rw chain.1 chain.0;
  next_before = rw chain.2.0 chain.2.1;
}
around l from [] p (b ∷ back) size chain = record {
  last = rw chain.1 (Contains-first from []);
  next = rw chain.2.0 (Contains-later size (b ∷ back) b (Contains-first b back));
  last_after = rw chain.1 chain.0;
  next_before = rw chain.2.0 chain.2.1;
}
around l from (y ∷ front) p back size chain =
    let rest = around l y front p back size chain.2 in
    record {
      last = Contains-later from (y ∷ front) (slice_index l.before p) rest.last;
      next = rest.next;
      last_after = rest.last_after;
      next_before = rest.next_before;
    }

-- what is distinct from each element of a list is not in it
not_within : (x : ℕ) (xs : List ℕ) → All (λ n. x ≢ n) xs → Contains xs x → ⊥
not_within x xs apart h = All-contains (λ n. x ≢ n) xs x apart h refl

module _ (l : LinksView) (p size : ℕ) (within : AreWithin l) (p_within : p < size) (size_within : size < length l.after) where
  abbrev next : ℕ
  next = slice_index l.after p

  abbrev last : ℕ
  last = slice_index l.before p

  after_same : (from : ℕ) → from < length l.after → from ≡ last → slice_index (unlinked l p).after from ≡ next
  after_same from h is = ap (slice_index (unlinked l p).after) is
      ∙ get_or-set_same l.after last next 0 (subst (λ n. n < length l.after) is h)

  after_other : (n : ℕ) → n ≢ last → slice_index (unlinked l p).after n ≡ slice_index l.after n
  after_other n apart = get_or-set_other l.after last n next 0 apart

  before_same : (n : ℕ) → n < length l.after → n ≡ next → slice_index (unlinked l p).before n ≡ last
  before_same n h is =
      ap (slice_index (unlinked l p).before) is
      ∙ get_or-set_same l.before next last 0 (subst (λ k. k < length l.before) is (omega (arith, within.same)))

  before_other : (n : ℕ) → n ≢ next → slice_index (unlinked l p).before n ≡ slice_index l.before n
  before_other n apart = get_or-set_other l.before next n last 0 apart

  -- a chain without one of its nodes
  IsChain-unlink : (from : ℕ) (front back : List ℕ) → from < length l.after → All (λ n. n < size) (front ++ p ∷ back)
      → AllPairs (λ a b. a ≢ b) (from ∷ front ++ p ∷ back) → IsChain l from (front ++ p ∷ back) size
      → IsChain (unlinked l p) from (front ++ back) size
  IsChain-unlink from [] [] in_range below distinct chain =
      (after_same from in_range (sym chain.1) ∙ chain.2.0, before_same size size_within (sym chain.2.0) ∙ chain.1)
  IsChain-unlink from [] (b ∷ back) in_range below distinct chain =
      let b_next = sym chain.2.0 in
      let b_below = All-head (λ n. n < size) b back (All-tail (λ n. n < size) p (b ∷ back) below) in
      let from_apart = AllPairs-head (λ a b. a ≢ b) from (p ∷ b ∷ back) distinct in
      let b_apart =
      AllPairs-head (λ a b. a ≢ b) b back (AllPairs-tail (λ a b. a ≢ b) p (b ∷ back) (AllPairs-tail (λ a b. a ≢ b) from
      (p ∷ b ∷ back) distinct)) in (
        after_same from in_range (sym chain.1) ∙ chain.2.0,
        before_same b (omega arith) b_next ∙ chain.1,
        IsChain-same l (unlinked l p) b back size
            (λ n h. after_other n
            (λ is. not_within from (p ∷ b ∷ back) from_apart
            (Contains-later p (b ∷ back) from (subst (Contains (b ∷ back)) (is ∙ chain.1) h))))
            (λ n h. before_other n
            (λ is. ⊎_elim (λ size_is. absurd (omega (arith, size_is, is, chain.2.0)))
            (λ in_back. not_within b back b_apart (subst (Contains back) (is ∙ chain.2.0) in_back)) (Contains-cases size back n h)))
            chain.2.2,
      )
  IsChain-unlink from (y ∷ front) back in_range below distinct chain =
      let near = around l y front p back size chain.2 in
      let from_apart = AllPairs-head (λ a b. a ≢ b) from (y ∷ front ++ p ∷ back) distinct in
      let rest = AllPairs-tail (λ a b. a ≢ b) from (y ∷ front ++ p ∷ back) distinct in
      let y_apart = AllPairs-head (λ a b. a ≢ b) y (front ++ p ∷ back) rest in
      let y_below = All-head (λ n. n < size) y (front ++ p ∷ back) below in (
        after_other from
            (λ is. not_within from (y ∷ front ++ p ∷ back) from_apart
            (subst (Contains (y ∷ front ++ p ∷ back)) (sym is) (Contains-append_left (y ∷ front) (p ∷ back) last near.last))) ∙ chain.0,
        before_other y (λ is. ⊎_elim (λ size_is. absurd (omega (arith, size_is, is)))
            (λ in_back. not_within y (front ++ p ∷ back) y_apart
            (subst (Contains (front ++ p ∷ back)) (sym is)
            (Contains-append_right front (p ∷ back) next (Contains-later p back next in_back))))
            (Contains-cases size back next near.next)) ∙ chain.1,
        IsChain-unlink y front back (omega arith) (All-tail (λ n. n < size) y (front ++ p ∷ back) below) rest chain.2,
      )

  -- a node that was taken out is put back
  put_back-unlinked : (front back : List ℕ) → All (λ n. n < size) (front ++ p ∷ back) → AllPairs (λ a b. a ≢ b) (front ++ p ∷ back)
      → IsChain l size (front ++ p ∷ back) size → put_back (unlinked l p) p ≡ l
  put_back-unlinked front back below distinct chain =
      let near = around l size front p back size chain in
      let last_apart : p ≢ last = λ is. ⊎_elim (λ size_is. absurd (omega (arith, size_is, is)))
      (λ in_front. All-contains (λ x. All (λ k. x ≢ k) (p ∷ back)) front last
      (AllPairs-across (λ a b. a ≢ b) front (p ∷ back) distinct) in_front 0 p
      (omega arith) (sym is)) (Contains-cases size front last near.last) in
      let next_apart : p ≢ next = λ is. ⊎_elim (λ size_is. absurd (omega (arith, size_is, is)))
      (λ in_back. not_within p back (AllPairs-head (λ a b. a ≢ b) p back (AllPairs-back (λ a b. a ≢ b) front (p ∷ back) distinct))
      (subst (Contains back) (sym is) in_back)) (Contains-cases size back next near.next) in
      let own_next = after_other p last_apart in
      let own_last = before_other p next_apart in
      same_links (put_back (unlinked l p) p) l
      (ap (λ k. set (unlinked l p).after k p) own_last ∙ set_back l.after last next p near.last_after)
      (ap (λ k. set (unlinked l p).before k p) own_next ∙ set_back l.before next last p near.next_before)

-- a chain with one more node at the end
module _ (l : LinksView) (p size : ℕ) (within : AreWithin l) (p_within : p < size) (size_within : size < length l.after) where
  abbrev end : ℕ
  end = slice_index l.before size

  -- the last node of a chain
  last_of : (from : ℕ) (nodes : List ℕ) → IsChain l from nodes size → Contains (from ∷ nodes) end
  last_of from [] chain = rw chain.1 (Contains-first from [])
  last_of from (y ∷ nodes) chain = Contains-later from (y ∷ nodes) end (last_of y nodes chain.2)

  after_at_last : (n : ℕ) → n < length l.after → n ≢ p → n ≡ end → slice_index (linked_last l size p).after n ≡ p
  after_at_last n h apart is =
      get_or-set_other (set l.after end p) p n size 0 apart ∙ ap (slice_index (set l.after end p)) is
      ∙ get_or-set_same l.after end p 0 (subst (λ k. k < length l.after) is h)

  pub IsChain-push : (from : ℕ) (nodes : List ℕ) → from < length l.after → from ≢ p → All (λ n. n < size) nodes → All (λ n. n ≢ p) nodes
      → AllPairs (λ a b. a ≢ b) (from ∷ nodes) → IsChain l from nodes size → IsChain (linked_last l size p) from (nodes ++ p ∷ []) size
  IsChain-push from [] in_range apart below others distinct chain = (
    after_at_last from in_range apart (sym chain.1),
    get_or-set_other (set l.before p end) size p p 0 (λ is. absurd (omega arith))
        ∙ get_or-set_same l.before p end 0 (omega (arith, within.same)) ∙ chain.1,
    (
      get_or-set_same (set l.after end p) p size 0 (omega (arith, length-set l.after end p)),
      get_or-set_same (set l.before p end) size p 0 (omega (arith, length-set l.before p end, within.same)),
    ),
  )
  IsChain-push from (y ∷ nodes) in_range apart below others distinct chain =
      let at_end = last_of y nodes chain.2 in
      let y_below = All-head (λ n. n < size) y nodes below in
      let y_apart = All-head (λ n. n ≢ p) y nodes others in (
        get_or-set_other (set l.after end p) p from size 0 apart
            ∙ get_or-set_other l.after end from p 0
            (λ is. not_within from (y ∷ nodes) (AllPairs-head (λ a b. a ≢ b) from (y ∷ nodes) distinct)
            (subst (Contains (y ∷ nodes)) (sym is) at_end))
            ∙ chain.0,
        get_or-set_other (set l.before p end) size y p 0 (λ is. absurd (omega arith))
            ∙ get_or-set_other l.before p y end 0 y_apart ∙ chain.1,
        IsChain-push y nodes (omega arith) y_apart (All-tail (λ n. n < size) y nodes below) (All-tail (λ n. n ≢ p) y nodes others)
            (AllPairs-tail (λ a b. a ≢ b) from (y ∷ nodes) distinct) chain.2,
      )

-- ---- an order from which nodes are taken out

-- a node is left where it is in the order and not taken out
pub left-Contains : (order out : List ℕ) (n : ℕ) → Contains order n → (Contains out n → ⊥) → Contains (without order out) n
left-Contains order out n within new =
    let no : has_number out n ≡ false = false_from_ne_true (has_number out n) (λ e. new (has_number-Contains out n e)) in
    Contains-filter (λ k. not (has_number out k)) order n within (rw no refl)

pub left-from_Contains : (order out : List ℕ) (n : ℕ) → Contains (without order out) n → Contains order n × (Contains out n → ⊥)
left-from_Contains order out n h =
    let (within, passes) = Contains-from_filter (λ k. not (has_number out k)) order n h in
    (within, λ taken. both_ways (not (has_number out n)) (rw (has_number-from_Contains out n taken) refl) passes)

-- nodes that are all not taken out pass
all_left : (out xs : List ℕ) → ((n : ℕ) → Contains xs n → Contains out n → ⊥) → filter (λ n. not (has_number out n)) xs ≡ xs
all_left out xs none =
    filter_all (λ n. not (has_number out n)) xs
    (All-from_contains (λ n. not (has_number out n) ≡ true) xs
    (λ n h. rw (false_from_ne_true (has_number out n) (λ e. none n h (has_number-Contains out n e))) refl))

-- an order from which nothing is taken out
pub without-none : (order : List ℕ) → without order [] ≡ order
without-none order = all_left [] order (λ n h taken. Contains-nil n taken)

-- a node more is taken out
pub without-parts : (order out front back : List ℕ) (p : ℕ) → AllPairs (λ a b. a ≢ b) order → without order out ≡ front ++ p ∷ back
    → without order (p ∷ out) ≡ front ++ back
without-parts order out front back p distinct is =
    sym (filter_implied (λ n. not (has_number (p ∷ out) n)) (λ n. not (has_number out n)) order
    (λ n h. implied (p == n) (has_number out n) h))
    ∙ ap (filter (λ n. not (has_number (p ∷ out) n))) is
    ∙ filter-append (λ n. not (has_number (p ∷ out) n)) front (p ∷ back)
    ∙ ap (λ xs. xs ++ filter (λ n. not (has_number (p ∷ out) n)) (p ∷ back))
    (all_left (p ∷ out) front (λ n h. apart n (Contains-append_left front (p ∷ back) n h) (in_front n h)))
    ∙ ap (λ xs. front ++ xs)
    ((rw (eq-eqb p p refl) refl)
    ∙ all_left (p ∷ out) back (λ n h. apart n (Contains-append_right front (p ∷ back) n (Contains-later p back n h)) (in_back n h)))
  where
    implied : (same taken : Bool) → not (same || taken) ≡ true → not taken ≡ true
    implied true taken h = absurd (both_ways false refl h)
    implied false taken h = h

    parts : AllPairs (λ a b. a ≢ b) (front ++ p ∷ back)
    parts = subst (AllPairs (λ a b. a ≢ b)) is (AllPairs-filter (λ a b. a ≢ b) (λ n. not (has_number out n)) order distinct)

    in_front : (n : ℕ) → Contains front n → p ≡ n → ⊥
    in_front n h same =
        All-contains (λ x. All (λ k. x ≢ k) (p ∷ back)) front n (AllPairs-across (λ a b. a ≢ b) front (p ∷ back) parts) h 0 p
        (omega arith) (sym same)

    in_back : (n : ℕ) → Contains back n → p ≡ n → ⊥
    in_back n h same =
        not_within p back (AllPairs-head (λ a b. a ≢ b) p back (AllPairs-back (λ a b. a ≢ b) front (p ∷ back) parts))
        (subst (Contains back) (sym same) h)

    apart : (n : ℕ) → Contains (front ++ p ∷ back) n → (p ≡ n → ⊥) → Contains (p ∷ out) n → ⊥
    apart n within other taken =
        ⊎_elim other (λ old. (left-from_Contains order out n (subst (λ xs. Contains xs n) (sym is) within)).1 old)
        (Contains-cases p out n taken)

-- the links go through what is left
pub IsChain-left : (size : ℕ) (order out : List ℕ) (l : LinksView) → AreLeft size order out l → IsChain l size (without order out) size
IsChain-left size order [] l left = subst (λ xs. IsChain l size xs size) (sym (without-none order)) left
IsChain-left size order (p ∷ out) l left = left.0

-- a node that is left is taken out
pub AreLeft-take : (size : ℕ) (order out : List ℕ) (l : LinksView) (p : ℕ) → AreWithin l → size < length l.after → All (λ n. n < size) order
    → AllPairs (λ a b. a ≢ b) order → Contains order p → (Contains out p → ⊥) → AreLeft size order out l
    → AreLeft size order (p ∷ out) (unlinked l p)
AreLeft-take size order out l p within size_within below distinct in_order new left =
    let (front, back, is) = Contains-split (without order out) p (left-Contains order out p in_order new) in
    let chain = subst (λ xs. IsChain l size xs size) is (IsChain-left size order out l left) in
    let all_below =
    subst (All (λ n. n < size)) is
    (All-from_contains (λ n. n < size) (without order out)
    (λ n h. All-contains (λ n. n < size) order n below (left-from_Contains order out n h).0)) in
    let all_apart = subst (AllPairs (λ a b. a ≢ b)) is (AllPairs-filter (λ a b. a ≢ b) (λ n. not (has_number out n)) order distinct) in
    let p_below = All-contains (λ n. n < size) order p below in_order in
    let all_with_end =
    AllPairs-cons (λ a b. a ≢ b) size (front ++ p ∷ back)
    (All-weaker (λ n. n < size) (λ n. size ≢ n) (λ n lt same. absurd (omega arith)) (front ++ p ∷ back) all_below) all_apart in (
      subst (λ xs. IsChain (unlinked l p) size xs size) (sym (without-parts order out front back p distinct is))
          (IsChain-unlink l p size within p_below size_within size front back size_within all_below all_with_end chain),
      subst (AreLeft size order out) (sym (put_back-unlinked l p size within p_below size_within front back all_below
          all_apart chain)) left,
    )

-- the first of some nodes, or the end
abbrev pub first_or : List ℕ → ℕ → ℕ
first_or [] size = size
first_or (x ∷ xs) size = x

-- the link from a node of a chain leads to the next
pub after-chain : (l : LinksView) (from : ℕ) (front : List ℕ) (p : ℕ) (back : List ℕ) (size : ℕ) → IsChain l from (front ++ p ∷ back) size
    → slice_index l.after p ≡ first_or back size
after-chain l from [] p [] size chain = chain.2.0
after-chain l from [] p (b ∷ back) size chain = chain.2.0
after-chain l from (y ∷ front) p back size chain = after-chain l y front p back size chain.2

-- the link from the end leads to the first
pub after-end : (l : LinksView) (from : ℕ) (nodes : List ℕ) (size : ℕ) → IsChain l from nodes size
    → slice_index l.after from ≡ first_or nodes size
after-end l from [] size chain = chain.0
after-end l from (y ∷ nodes) size chain = chain.0

-- the next number from some number on that is not taken out, or the end
pub record IsNextLeft (size : ℕ) (out : List ℕ) (from next : ℕ) : Type 0 where
  pub later : from ≤ next
  pub within : next ≤ size
  pub new : next < size → Contains out next → ⊥
  pub between : (k : ℕ) → from ≤ k → k < next → Contains out k

module _ (size : ℕ) (out : List ℕ) (l : LinksView) (left : AreLeft size (range_with_len 0 size) out l) where
  abbrev remaining : List ℕ
  remaining = without (range_with_len 0 size) out

  rising : AllPairs (λ a b. a < b) remaining
  rising =
      AllPairs-filter (λ a b. a < b) (λ n. not (has_number out n)) (range_with_len 0 size)
      (AllPairs-from_increasing (range_with_len 0 size) (IsStrictlyIncreasing-range size))

  taken_or_left : (k : ℕ) → k < size → Contains out k ⊎ Contains remaining k
  taken_or_left k lt =
      ⊎_elim (λ e. inl (has_number-Contains out k e))
      (λ e. inr
      (left-Contains (range_with_len 0 size) out k (Contains-range size k lt)
      (λ h. both_ways (has_number out k) e (has_number-from_Contains out k h))))
      (cases_Bool (has_number out k))

  below : (n : ℕ) → Contains remaining n → n < size
  below n h = range_below size n (left-from_Contains (range_with_len 0 size) out n h).0

  -- the next one, where what is left from a number on is this
  of_rest : (from : ℕ) (rest : List ℕ) → from ≤ size → AllPairs (λ a b. a < b) rest
      → ((n : ℕ) → Contains rest n → Contains remaining n × (from ≤ n))
      → ((n : ℕ) → from ≤ n → Contains remaining n → Contains rest n) → IsNextLeft size out from (first_or rest size)
  of_rest from [] le up to back = record {
    later = le;
    within = omega arith;
    new = λ lt. absurd (omega arith);
    between = λ k from_le lt. ⊎_elim (λ taken. taken) (λ there. absurd (Contains-nil k (back k from_le there))) (taken_or_left k lt);
  }
  of_rest from (x ∷ rest) le up to back =
      let here = to x (Contains-first x rest) in
      let x_below = below x here.0 in
      record {
        later = here.1;
        within = omega arith;
        new = λ lt taken. (left-from_Contains (range_with_len 0 size) out x here.0).1 taken;
        between = λ k from_le lt. ⊎_elim (λ taken. taken)
            (λ there. ⊎_elim (λ is. absurd (omega (arith, is)))
            (λ later. absurd (omega (arith, All-contains (λ b. x < b) rest k (AllPairs-head (λ a b. a < b) x rest up) later)))
            (Contains-cases x rest k (back k from_le there)))
            (taken_or_left k (omega arith));
      }

  pub IsNextLeft-first : IsNextLeft size out 0 (slice_index l.after size)
  IsNextLeft-first = subst (IsNextLeft size out 0)
      (sym (after-end l size remaining size (IsChain-left size (range_with_len 0 size) out l left)))
      (of_rest 0 remaining (omega arith) rising (λ n h. (h, omega arith)) (λ n le h. h))

  pub IsNextLeft-after : (p : ℕ) → p < size → (Contains out p → ⊥) → IsNextLeft size out (p + 1) (slice_index l.after p)
  IsNextLeft-after p lt new =
      let (front, back, is) = Contains-split remaining p (left-Contains (range_with_len 0 size) out p (Contains-range size p lt) new) in
      let chain = subst (λ xs. IsChain l size xs size) is (IsChain-left size (range_with_len 0 size) out l left) in
      let parts = subst (AllPairs (λ a b. a < b)) is rising in
      let in_back = AllPairs-back (λ a b. a < b) front (p ∷ back) parts in
      let lower = AllPairs-across (λ a b. a < b) front (p ∷ back) parts in
      let higher = AllPairs-head (λ a b. a < b) p back in_back in
      subst (IsNextLeft size out (p + 1)) (sym (after-chain l size front p back size chain))
      (of_rest (p + 1) back (omega arith) (AllPairs-tail (λ a b. a < b) p back in_back)
      (λ n h. let up = All-contains (λ b. p < b) back n higher h in
      (subst (λ xs. Contains xs n) (sym is) (Contains-append_right front (p ∷ back) n (Contains-later p back n h)), omega arith))
      (λ n le h. ⊎_elim
      (λ in_front. let low = All-contains (λ x. All (λ k. x < k) (p ∷ back)) front n lower in_front 0 p
      (omega arith) in absurd (omega arith))
      (λ rest. ⊎_elim (λ same. absurd (omega (arith, same))) (λ later. later) (Contains-cases p back n rest))
      (Contains-append_cases front (p ∷ back) n (subst (λ xs. Contains xs n) is h))))
