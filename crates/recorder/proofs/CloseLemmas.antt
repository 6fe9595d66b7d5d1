-- All passes of a recorder: they are of processes that differ, and all draws are with them.
use Rattle.recorder.proofs.Common.{◌≡◌, ◌≢◌, ℕ, zero, suc, ◌+◌, ◌*◌, ◌<◌, ◌≤◌, List, [], ◌∷◌, ◌++◌, length, map, take, drop, refl, sym, ap, ◌∙◌}
use Rattle.recorder.proofs.Common.{arith, subst, inl, inr, ⊎_elim, ◌⊎◌, Some, All, AllPairs, Contains, sum_by, slice_get, range_with_len}
use Rattle.recorder.proofs.Common.{mul-le-mul_right, cases_order, length-append, length-map, sum_by-cons, All-head, All-tail, All-weaker}
use Rattle.recorder.proofs.Common.{Contains-append_left, AllPairs-from_at, Contains-nil, Contains-take, Contains-around, length-distinct}
use Rattle.recorder.proofs.Common.{AllPairs-from_map, AreHistoryEvents, Pass, process_number, calls_of, draws_of, processes_of, calls_for_each}
use Rattle.recorder.proofs.Common.{IsPassOf, HasProcesses, AreAll, history_of, HasOwnEvents}
use Rattle.std.proofs.lemmas.Option.{get_or_from_slice_get, slice_get_within}
use Rattle.std.proofs.lemmas.List.FromFn.{length-range_with_len, get_or-range_with_len}
use Rattle.events.proofs.Places.{parts_at}
use Rattle.recorder.specs.declared.recorders.Recorder.{Recorder}
use Rattle.recorder.proofs.PassLemmas.{draws-are}
use Rattle.recorder.proofs.MergeLemmas.{AreApart, AreHistoryEvents-apart, AreHistoryEvents-nothing, own-apart, own-nothing}

-- n numbers, among which are all below n, are distinct

below-range : (n : ℕ) → All (λ k. k < n) (range_with_len 0 n)
below-range n i d within =
    let low : i < n = omega (arith, within, length-range_with_len 0 n) in
    let is = get_or-range_with_len 0 n i d low in
    omega arith

range-apart : (n : ℕ) → AllPairs (λ a b. a ≢ b) (range_with_len 0 n)
range-apart n i j d before within same =
    let low : j < n = omega (arith, within, length-range_with_len 0 n) in
    let first = get_or-range_with_len 0 n i d (omega arith) in
    let second = get_or-range_with_len 0 n j d low in
    omega arith

apart-numbers : (n : ℕ) (xs : List ℕ) → length xs ≡ n → ((k : ℕ) → k < n → Contains xs k) → AllPairs (λ a b. a ≢ b) xs
apart-numbers n xs many all = AllPairs-from_at (λ a b. a ≢ b) xs twice
  where
    twice : (i j x y : ℕ) → i < j → slice_get xs i ≡ Some x → slice_get xs j ≡ Some y → x ≢ y
    twice i j x y before here there same =
        let within = slice_get_within xs j y there in
        let parts = parts_at xs j y within (sym (get_or_from_slice_get xs j y y there)) in
        let kept : Contains (take j xs ++ drop (j + 1) xs) y =
        Contains-append_left (take j xs) (drop (j + 1) xs) y (subst (Contains (take j xs)) same (Contains-take xs j i x before here)) in
        let others : (k : ℕ) → k < n → Contains (take j xs ++ drop (j + 1) xs) k =
        λ k below. ⊎_elim (λ is. subst (Contains (take j xs ++ drop (j + 1) xs)) is kept) (λ around. around)
        (Contains-around (take j xs) y (drop (j + 1) xs) k (subst (λ l. Contains l k) parts (all k below))) in
        let fewer = length-distinct (range_with_len 0 n) (take j xs ++ drop (j + 1) xs) (range-apart n)
        (All-weaker (λ k. k < n) (Contains (take j xs ++ drop (j + 1) xs)) others (range_with_len 0 n) (below-range n)) in
        omega (
          arith,
          fewer,
          many,
          length-range_with_len 0 n,
          ap length parts,
          length-append (take j xs) (y ∷ drop (j + 1) xs),
          length-append (take j xs) (drop (j + 1) xs),
        )

-- Passes that have equally many calls.

sum-draws : (calls : ℕ) (passes : List Pass) → All (λ p. calls_of p ≡ calls) passes → sum_by draws_of passes ≡ length passes * (2 * calls)
sum-draws calls [] own = omega arith
sum-draws calls (p ∷ passes) own =
    let split = sum_by-cons draws_of p passes in
    let first = draws-are p in
    let its = All-head (λ p. calls_of p ≡ calls) p passes own in
    let rest = sum-draws calls passes (All-tail (λ p. calls_of p ≡ calls) p passes own) in
    omega arith

same-factor : (m n k : ℕ) → 0 < k → m * (2 * k) ≡ 2 * (n * k) → m ≡ n
same-factor m n k some same = ⊎_elim (λ e. e) (λ other. absurd (⊎_elim less more other)) (cases_order m n)
  where
    less : m < n → ⊥
    less h = let next : m + 1 ≤ n = omega arith in let below = mul-le-mul_right k next in omega (arith, below, same)

    more : n < m → ⊥
    more h = let next : n + 1 ≤ m = omega arith in let below = mul-le-mul_right k next in omega (arith, below, same)

-- All passes of a recorder are some, since it has a process.

pub some-pass : (r : Recorder) (passes : List Pass) → AreAll r passes → passes ≢ []
some-pass r passes all none = absurd (Contains-nil 0 (subst (λ l. Contains (map process_number l) 0) none (all.processes 0 first)))
  where
    first : 0 < processes_of r
    first = let some = r.some in omega arith

module _ (r : Recorder) (passes : List Pass) (own : All (IsPassOf r) passes) where
  all-draws : sum_by draws_of passes ≡ length passes * (2 * calls_for_each r)
  all-draws = sum-draws (calls_for_each r) passes (All-weaker (IsPassOf r) (λ p. calls_of p ≡ calls_for_each r) (λ p h. h.calls) passes own)

  -- with no calls, or with as many passes as processes, all draws are there
  pub all-idle : calls_for_each r ≡ 0 → HasProcesses (processes_of r) passes → AreAll r passes
  all-idle none there = record {
    processes = there;
    draws_are = all-draws ∙ (ap (λ c. length passes * (2 * c)) none ∙ (nothing ∙ sym (r.quota ∙ ap (λ c. 2 * (processes_of r * c)) none)));
  }
    where
      nothing : length passes * (2 * 0) ≡ 2 * (processes_of r * 0)
      nothing = omega arith

  pub all-there : length passes ≡ processes_of r → HasProcesses (processes_of r) passes → AreAll r passes
  all-there many there = record {
    processes = there;
    draws_are = all-draws ∙ (ap (λ n. n * (2 * calls_for_each r)) many ∙ (swap ∙ sym r.quota));
  }
    where
      swap : processes_of r * (2 * calls_for_each r) ≡ 2 * (processes_of r * calls_for_each r)
      swap = omega arith

  -- else some draws are not there
  pub as-many : 0 < calls_for_each r → AreAll r passes → length passes ≡ processes_of r
  as-many some all = same-factor (length passes) (processes_of r) (calls_for_each r) some (sym all-draws ∙ (all.draws_are ∙ r.quota))

  pub are-apart : 0 < calls_for_each r → AreAll r passes → AreApart passes
  are-apart some all =
      AllPairs-from_map (λ a b. a ≢ b) process_number passes
      (apart-numbers (processes_of r) (map process_number passes) (length-map passes process_number ∙ as-many some all) all.processes)

  none-or-some : (c : ℕ) → (c ≡ 0) ⊎ (0 < c)
  none-or-some zero = inl refl
  none-or-some (suc c) = inr (omega arith)

  no-draws : calls_for_each r ≡ 0 → sum_by draws_of passes ≡ 0
  no-draws none = all-draws ∙ (ap (λ c. length passes * (2 * c)) none ∙ omega arith)

  -- the events of all passes are a history
  pub all-history : AreAll r passes → AreHistoryEvents (history_of passes)
  all-history all = ⊎_elim
      (λ none. AreHistoryEvents-nothing passes (no-draws none))
      (λ some. AreHistoryEvents-apart passes (are-apart some all)
      (let a = all.draws_are in let b = r.quota in let c = r.few in omega arith))
      (none-or-some (calls_for_each r))

  -- in which each process has the events of its pass
  pub all-own : AreAll r passes → HasOwnEvents passes
  all-own all = ⊎_elim (λ none. own-nothing passes (no-draws none)) (λ some. own-apart passes (are-apart some all))
      (none-or-some (calls_for_each r))
