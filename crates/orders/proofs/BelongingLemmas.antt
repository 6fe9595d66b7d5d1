-- The calls of a history that belong to a segment, found one after another.
use Rattle.orders.proofs.Common.{◌≡◌, ℕ, ◌+◌, ◌<◌, true, false, List, [], ◌∷◌, ◌++◌, length, get_or, Some, sym, subst, ⊎_elim, arith, ◌↔◌, ◌⊎◌}
use Rattle.orders.proofs.Common.{slice_get, IsTrue, IsSomeAnd, AllPairs, Contains, both_ways, Contains-append_left, Contains-push}
use Rattle.orders.proofs.Common.{Contains-push_cases, Contains-get_or, slice_get_within, Operation, belongs, some_at}
use Rattle.std.proofs.lemmas.List.Quantifiers.{all_pairs_push}
use Rattle.orders.specs.Cuts.{BelongsAt}

-- the numbers of the calls below a place that belong, by rising number
pub record BelongBelow (calls : List Operation) (place : ℕ) (numbers : List ℕ) : Type 0 where
  pub rising : AllPairs (λ m n. m < n) numbers
  pub members : (n : ℕ) → Contains numbers n ↔ ((n < place) × BelongsAt calls n)

-- a call that belongs to a segment, by its number
pub call_of-BelongsAt : (calls : List Operation) (n : ℕ) → BelongsAt calls n → (a : Operation) × (slice_get calls n ≡ Some a)
    × (belongs a ≡ true)
call_of-BelongsAt calls n h = some_at (slice_get calls n) (λ a. IsTrue (belongs a)) h

-- a call that belongs has a number below the count of calls
pub BelongsAt-below : (calls : List Operation) (n : ℕ) → BelongsAt calls n → n < length calls
BelongsAt-below calls n h = let a = call_of-BelongsAt calls n h in slice_get_within calls n a.0 a.1

belongs_at : (calls : List Operation) (n : ℕ) (a : Operation) → slice_get calls n ≡ Some a → belongs a ≡ true → BelongsAt calls n
belongs_at calls n a here h = rw here h

-- one more, where the call at the place belongs
pub BelongBelow-take : (calls : List Operation) (place : ℕ) (numbers : List ℕ) (a : Operation) → BelongBelow calls place numbers
    → slice_get calls place ≡ Some a → belongs a ≡ true → BelongBelow calls (place + 1) (numbers ++ place ∷ [])
BelongBelow-take calls place numbers a h here belongs = record {
  rising = all_pairs_push (λ m n. m < n) numbers place h.rising
      (λ k d within. ((h.members (get_or numbers k d)).0 (Contains-get_or numbers k d within)).0);
  members = λ n. (
    λ pushed. ⊎_elim (λ earlier. let m = (h.members n).0 earlier in (omega (arith, m.0), m.1))
        (λ is. subst (λ m. (m < place + 1) × BelongsAt calls m) is (omega arith, belongs_at calls place a here belongs))
        (Contains-push_cases numbers place n pushed),
    λ m. ⊎_elim (λ earlier. Contains-append_left numbers (place ∷ []) n ((h.members n).1 (earlier, m.1)))
        (λ is. subst (λ k. Contains (numbers ++ place ∷ []) k) is (Contains-push numbers place)) (below_more place n m.0),
  );
}
  where
    below_more : (i n : ℕ) → n < i + 1 → (n < i) ⊎ (i ≡ n)
    below_more i n h = grind arith

-- the call at the place does not belong, so no number is added
pub BelongBelow-skip : (calls : List Operation) (place : ℕ) (numbers : List ℕ) (a : Operation) → BelongBelow calls place numbers
    → slice_get calls place ≡ Some a → belongs a ≡ false → BelongBelow calls (place + 1) numbers
BelongBelow-skip calls place numbers a h here not_belongs = record {
  rising = h.rising;
  members = λ n. (
    λ in_numbers. let m = (h.members n).0 in_numbers in (omega (arith, m.0), m.1),
    λ m. ⊎_elim (λ earlier. (h.members n).1 (earlier, m.1)) (λ is. absurd (not_here n is m.1)) (below_more place n m.0),
  );
}
  where
    below_more : (i n : ℕ) → n < i + 1 → (n < i) ⊎ (i ≡ n)
    below_more i n h = grind arith

    not_here : (n : ℕ) → place ≡ n → BelongsAt calls n → ⊥
    not_here n is m = both_ways (belongs a) not_belongs (subst (λ o. IsSomeAnd o (λ b. IsTrue (belongs b))) here
        (subst (λ k. BelongsAt calls k) (sym is) m))

-- after the last call these are all that belong
pub BelongBelow-all : (calls : List Operation) (numbers : List ℕ) → BelongBelow calls (length calls) numbers → (n : ℕ)
    → Contains numbers n ↔ BelongsAt calls n
BelongBelow-all calls numbers h n = (λ m. ((h.members n).0 m).1, λ m. (h.members n).1 (BelongsAt-below calls n m, m))
