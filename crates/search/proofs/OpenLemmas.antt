-- The links of a walk before its first call, and its state there.
use Rattle.search.proofs.Common.{◌≡◌, ℕ, zero, suc, ◌+◌, ◌-◌, ◌<◌, ◌≤◌, true, List, Some, [], ◌∷◌, ◌++◌, length, get_or, set, take, drop, replicate}
use Rattle.search.proofs.Common.{refl, sym, ap, ◌∙◌, subst, inl, inr, ⊎_elim, arith, ◌≢◌, ◌⊎◌, slice_get, slice_index, All, AllPairs, Contains}
use Rattle.search.proofs.Common.{range_with_len, cases_lt, length-set, length-replicate, get_or-replicate, take_more, take-append-drop, All-nil}
use Rattle.search.proofs.Common.{All-cons, All-weaker, All-contains, All-take, Contains-get_or, Contains-append_left, Contains-append_right}
use Rattle.search.proofs.Common.{Contains-append_cases, AllPairs-cons, none-some, Operation, is_before, NonePrecedesItself, Contents, Configuration}
use Rattle.search.proofs.Common.{AllPairs-nil, AllPairs-append, AllPairs-front, AllPairs-back, AllPairs-across, All-front, All-back, Contains-first}
use Rattle.search.proofs.Common.{Contains-later, Contains-cases, Contains-nil, All-from_contains, configuration_of, LeadsTo-nil, Level, LinksView}
use Rattle.search.proofs.Common.{AreWithin, no_links, linked_last, IsChain, IsNoLater, IsByAnswer, IsLinkedByAnswer, IsStateBut}
use Rattle.std.proofs.Math.Seq.{drop-cons}
use Rattle.search.proofs.LinkLemmas.{IsChain-push, IsNextLeft, IsNextLeft-first}
use Rattle.search.proofs.CursorLemmas.{StandsAtCursor-open, StandsAtCursor-pass}

-- one number more
range_more : (a n : ℕ) → range_with_len a (suc n) ≡ range_with_len a n ++ (a + n) ∷ []
range_more a zero = ap (λ k. k ∷ []) (omega arith)
range_more a (suc n) = ap (λ xs. a ∷ xs) (range_more (a + 1) n ∙ ap (λ k. range_with_len (a + 1) n ++ k ∷ []) (omega arith))

-- the numbers below n, and n
pub range_push : (n : ℕ) → range_with_len 0 (n + 1) ≡ range_with_len 0 n ++ n ∷ []
range_push n =
    let one : n + 1 ≡ suc n = omega arith in
    let same : 0 + n ≡ n = omega arith in
    ap (range_with_len 0) one ∙ range_more 0 n ∙ ap (λ k. range_with_len 0 n ++ k ∷ []) same

-- no node is in the list
pub IsChain-none : (size : ℕ) → (length (no_links size).after ≡ size + 1) × IsChain (no_links size) size [] size
IsChain-none size = (length-replicate (size + 1) size, (last, last))
  where
    last : slice_index (replicate (size + 1) size) size ≡ size
    last = get_or-replicate (size + 1) size size 0 (omega arith)

-- a chain from the end goes on with one more node
pub IsChain-more : (l : LinksView) (p size : ℕ) (nodes : List ℕ) → AreWithin l → length l.after ≡ size + 1 → p < size
    → All (λ n. n < size) nodes
    → All (λ n. n ≢ p) nodes → AllPairs (λ a b. a ≢ b) nodes → IsChain l size nodes size → (length (linked_last l size p).after ≡ size + 1)
    × IsChain (linked_last l size p) size (nodes ++ p ∷ []) size
IsChain-more l p size nodes within len lt below others distinct chain = (
  length-set (set l.after (slice_index l.before size) p) p size ∙ length-set l.after (slice_index l.before size) p ∙ len,
  IsChain-push l p size within lt (omega arith) size nodes (omega arith) (λ is. absurd (omega arith)) below others
      (AllPairs-cons (λ a b. a ≢ b) size nodes
      (All-weaker (λ n. n < size) (λ n. size ≢ n) (λ n lt same. absurd (omega arith)) nodes below) distinct) chain,
)

-- the next node of a list of distinct ones is none of those before it
pub not_before : (xs : List ℕ) (i d : ℕ) → i < length xs → AllPairs (λ a b. a ≢ b) xs → All (λ n. n ≢ get_or xs i d) (take i xs)
not_before xs i d lt distinct = All-from_contains (λ n. n ≢ get_or xs i d) (take i xs) (λ n h.
    let parts = subst (AllPairs (λ a b. a ≢ b)) (sym (take-append-drop i xs) ∙ ap (λ ys. take i xs ++ ys) (drop-cons xs i d lt)) distinct in
    All-contains (λ x. All (λ k. x ≢ k) (get_or xs i d ∷ drop (suc i) xs)) (take i xs) n
    (AllPairs-across (λ a b. a ≢ b) (take i xs) (get_or xs i d ∷ drop (suc i) xs) parts) h 0 d (omega arith))

-- a call that is sorted by its answer is a node
pub node_within : (calls : List Operation) (order : List ℕ) (i d size len : ℕ) → IsByAnswer calls size order → i < length order
    → len ≡ size + 1
    → get_or order i d < len
node_within calls order i d size len sorted lt is =
    omega (arith, is, All-contains (λ n. n < size) order (get_or order i d) sorted.below (Contains-get_or order i d lt))

-- the links of an order, one place further
pub IsChain-next : (calls : List Operation) (order : List ℕ) (l : LinksView) (i d size : ℕ) → IsByAnswer calls size order → AreWithin l
    → length l.after ≡ size + 1 → i < length order → IsChain l size (take i order) size
    → (length (linked_last l size (get_or order i d)).after ≡ size + 1)
    × IsChain (linked_last l size (get_or order i d)) size (take (i + 1) order) size
IsChain-next calls order l i d size sorted within len lt chain =
    let p_below = All-contains (λ n. n < size) order (get_or order i d) sorted.below (Contains-get_or order i d lt) in
    let distinct =
    AllPairs-front (λ a b. a ≢ b) (take i order) (drop i order)
    (subst (AllPairs (λ a b. a ≢ b)) (sym (take-append-drop i order)) sorted.distinct) in
    let more =
    IsChain-more l (get_or order i d) size (take i order) within len p_below (All-take (λ n. n < size) i order sorted.below)
    (not_before order i d lt sorted.distinct) distinct chain in
    (more.0, subst (λ xs. IsChain (linked_last l size (get_or order i d)) size xs size) (sym (take_more order i d lt)) more.1)

-- ---- the order of answers

-- no call is among none
pub IsByAnswer-nil : (calls : List Operation) → IsByAnswer calls 0 []
IsByAnswer-nil calls = record {
  below = All-nil (λ n. n < 0);
  distinct = AllPairs-nil (λ m n. m ≢ n);
  all = λ n lt. absurd (omega (arith, lt));
  sorted = AllPairs-nil (IsNoLater calls);
}

-- a call put among others that are sorted by their answers, after those answered no later and
-- before those answered no earlier
pub IsByAnswer-insert : (calls : List Operation) (n at : ℕ) (order : List ℕ) → IsByAnswer calls n order
    → All (λ m. IsNoLater calls m n) (take at order)
    → All (IsNoLater calls n) (drop at order) → IsByAnswer calls (n + 1) (take at order ++ n ∷ drop at order)
IsByAnswer-insert calls n at order sorted before behind = record {
  below = All-from_contains (λ m. m < n + 1) (take at order ++ n ∷ drop at order)
      (λ m h. ⊎_elim (λ is. omega (arith, is))
      (λ old. let lt = All-contains (λ m. m < n) order m sorted.below old in omega arith) (members m h));
  distinct = AllPairs-append (λ a b. a ≢ b) (take at order) (n ∷ drop at order)
      (AllPairs-front (λ a b. a ≢ b) (take at order) (drop at order) distinct)
      (AllPairs-cons (λ a b. a ≢ b) n (drop at order)
      (All-weaker (λ m. m < n) (λ m. n ≢ m) (λ m lt same. absurd (omega arith)) (drop at order)
      (All-back (λ m. m < n) (take at order) (drop at order) below))
      (AllPairs-back (λ a b. a ≢ b) (take at order) (drop at order) distinct))
      (All-from_contains (λ x. All (λ b. x ≢ b) (n ∷ drop at order)) (take at order) (λ x h. All-cons (λ b. x ≢ b) n (drop at order)
      (let lt = All-contains (λ m. m < n) (take at order) x (All-front (λ m. m < n) (take at order) (drop at order) below) h in λ same.
      absurd (omega arith))
      (All-contains (λ x. All (λ b. x ≢ b) (drop at order)) (take at order) x
      (AllPairs-across (λ a b. a ≢ b) (take at order) (drop at order) distinct) h)));
  all = λ m lt. ⊎_elim
      (λ old. put m (sorted.all m old))
      (λ le. let same : n ≡ m = omega arith in
      subst (Contains (take at order ++ n ∷ drop at order)) same
      (Contains-append_right (take at order) (n ∷ drop at order) n (Contains-first n (drop at order))))
      (cases_lt m n);
  sorted = AllPairs-append (IsNoLater calls) (take at order) (n ∷ drop at order)
      (AllPairs-front (IsNoLater calls) (take at order) (drop at order) pairs)
      (AllPairs-cons (IsNoLater calls) n (drop at order) behind (AllPairs-back (IsNoLater calls) (take at order) (drop at order) pairs))
      (All-from_contains (λ x. All (IsNoLater calls x) (n ∷ drop at order)) (take at order)
      (λ x h. All-cons (IsNoLater calls x) n (drop at order)
      (All-contains (λ m. IsNoLater calls m n) (take at order) x before h)
      (All-contains (λ x. All (IsNoLater calls x) (drop at order)) (take at order) x
      (AllPairs-across (IsNoLater calls) (take at order) (drop at order) pairs) h)));
}
  where
    whole : order ≡ take at order ++ drop at order
    whole = sym (take-append-drop at order)

    distinct : AllPairs (λ a b. a ≢ b) (take at order ++ drop at order)
    distinct = subst (AllPairs (λ a b. a ≢ b)) whole sorted.distinct

    pairs : AllPairs (IsNoLater calls) (take at order ++ drop at order)
    pairs = subst (AllPairs (IsNoLater calls)) whole sorted.sorted

    below : All (λ m. m < n) (take at order ++ drop at order)
    below = subst (All (λ m. m < n)) whole sorted.below

    members : (m : ℕ) → Contains (take at order ++ n ∷ drop at order) m → (n ≡ m) ⊎ Contains order m
    members m h = ⊎_elim (λ front. inr (subst (λ xs. Contains xs m) (sym whole) (Contains-append_left (take at order)
        (drop at order) m front)))
        (λ rest. ⊎_elim (λ is. inl is) (λ back. inr (subst (λ xs. Contains xs m) (sym whole) (Contains-append_right (take at order)
        (drop at order) m back)))
        (Contains-cases n (drop at order) m rest))
        (Contains-append_cases (take at order) (n ∷ drop at order) m h)

    put : (m : ℕ) → Contains order m → Contains (take at order ++ n ∷ drop at order) m
    put m h = ⊎_elim (λ front. Contains-append_left (take at order) (n ∷ drop at order) m front)
        (λ back. Contains-append_right (take at order) (n ∷ drop at order) m (Contains-later n (drop at order) m back))
        (Contains-append_cases (take at order) (drop at order) m (subst (λ xs. Contains xs m) whole h))

-- the first of two calls is answered no later, if the second's answer is no earlier
pub IsNoLater-from_read : (calls : List Operation) (m n : ℕ) (a b : Operation) → slice_get calls m ≡ Some a → slice_get calls n ≡ Some b
    → ((place : ℕ) → is_before b.response place ≡ true → is_before a.response place ≡ true) → IsNoLater calls m n
IsNoLater-from_read calls m n a b here there h = λ place answered. rw here (h place (rw there at answered))

-- one call more is passed from the back
pub passed_back : (calls : List Operation) (order : List ℕ) (at n d : ℕ) → 0 < at → at ≤ length order
    → IsNoLater calls n (get_or order (at - 1) d)
    → All (IsNoLater calls n) (drop at order) → All (IsNoLater calls n) (drop (at - 1) order)
passed_back calls order at n d some le here behind =
    let cut = drop-cons order (at - 1) d (omega arith) in
    let next : suc (at - 1) ≡ at = omega arith in
    subst (All (IsNoLater calls n)) (sym cut)
    (All-cons (IsNoLater calls n) (get_or order (at - 1) d) (drop (suc (at - 1)) order) here
    (subst (λ k. All (IsNoLater calls n) (drop k order)) (sym next) behind))

-- all calls before the one at which it stops are answered no later
pub stopped_back : (calls : List Operation) (count : ℕ) (order : List ℕ) (at n d : ℕ) → IsByAnswer calls count order → at ≤ length order
    → (0 < at → IsNoLater calls (get_or order (at - 1) d) n) → All (λ m. IsNoLater calls m n) (take at order)
stopped_back calls count order zero n d sorted le here = All-nil (λ m. IsNoLater calls m n)
stopped_back calls count order (suc at) n d sorted le here =
    let last = here (omega arith) in
    let at_is : suc at - 1 ≡ at = omega arith in
    let one : at + 1 ≡ suc at = omega arith in
    let taken = sym (ap (λ k. take k order) one) ∙ take_more order at d (omega arith) in
    let whole = subst (AllPairs (IsNoLater calls))
    (sym (take-append-drop (suc at) order) ∙ ap (λ xs. xs ++ drop (suc at) order) taken) sorted.sorted in
    let front = AllPairs-front (IsNoLater calls) (take at order ++ get_or order at d ∷ []) (drop (suc at) order) whole in
    let last_is = subst (λ k. IsNoLater calls (get_or order k d) n) at_is last in
    subst (All (λ m. IsNoLater calls m n)) (sym taken)
    (All-from_contains (λ m. IsNoLater calls m n) (take at order ++ get_or order at d ∷ []) (λ m h. ⊎_elim
    (λ earlier place answered. All-contains (λ x. All (IsNoLater calls x) (get_or order at d ∷ [])) (take at order) m
    (AllPairs-across (IsNoLater calls) (take at order) (get_or order at d ∷ []) front) earlier 0 d (omega arith) place
    (last_is place answered))
    (λ same. ⊎_elim (λ is. subst (λ k. IsNoLater calls k n) is last_is) (λ none. absurd (Contains-nil m none))
    (Contains-cases (get_or order at d) [] m same))
    (Contains-append_cases (take at order) (get_or order at d ∷ []) m h)))

-- ---- before the first call

pub IsStateBut-open : (start : Contents) (calls : List Operation) (levels : List Level) (next : ℕ) (pairs : Contents)
    (visited : List Configuration)
    (by_number by_answer : LinksView) → NonePrecedesItself calls → levels ≡ [] → pairs ≡ start → visited ≡ configuration_of [] start ∷ []
    → next ≡ slice_index by_number.after (length calls) → length by_number.after ≡ length calls + 1
    → IsChain by_number (length calls) (range_with_len 0 (length calls)) (length calls) → length by_answer.after ≡ length calls + 1
    → IsLinkedByAnswer calls by_answer → IsStateBut start calls levels next 0 pairs visited by_number by_answer
IsStateBut-open start calls levels next pairs visited by_number by_answer apart levels_is pairs_is visited_is next_is
    number_size chain answer_size
    (order, sorted, by) =
    rw (levels_is, pairs_is, visited_is, next_is) (record {
      cursor =
          StandsAtCursor-pass start calls [] 0 (configuration_of [] start ∷ []) (StandsAtCursor-open start calls) apart
          (slice_index by_number.after (length calls)) left.later
          (λ k from below is_front. absurd (Contains-nil k (left.between k from below)))
          (λ is_order k below. absurd (Contains-nil k (left.between k (omega arith) below)));
      within = left.within;
      left = λ within taken. Contains-nil (slice_index by_number.after (length calls)) taken;
      begins = refl;
      holds = refl;
      stands_at = (configuration_of [] start, refl, LeadsTo-nil start calls);
      remembers = λ i level is. absurd (none-some level is);
      links = record {
        number_size = number_size;
        answer_size = answer_size;
        calls_left = chain;
        order = order;
        sorted = sorted;
        answers_left = by;
      };
    })
  where
    left : IsNextLeft (length calls) [] 0 (slice_index by_number.after (length calls))
    left = IsNextLeft-first (length calls) [] by_number chain
