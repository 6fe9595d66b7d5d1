-- Pairs by rising key, one after another.
use Rattle.follow_monitor.proofs.Common.{AllPairs-across, All-back, ArePairsOf, Contents, ℕ, ◌<◌, ◌≤◌, [], ◌∷◌, ◌++◌, All-append, All-cons, All-head}
use Rattle.follow_monitor.proofs.Common.{All-nil, All-weaker, All}
use Rattle.std.proofs.lemmas.List.Quantifiers.{all_pairs_push}

-- pairs of a scan, with one more after them
pub pairs_push : (low high : ℕ) (before : Contents) (pair : ℕ × ℕ) → ArePairsOf low high before → low ≤ pair.0 → pair.0 ≤ high
    → All (λ p. p.0 < pair.0) before → ArePairsOf low high (before ++ pair ∷ [])
pairs_push low high before pair h from to above = record {
  rising = all_pairs_push (λ (a b : ℕ × ℕ). a.0 < b.0) before pair h.rising above;
  within = All-append (λ p. (low ≤ p.0) × (p.0 ≤ high)) before (pair ∷ []) h.within
      (All-cons (λ p. (low ≤ p.0) × (p.0 ≤ high)) pair [] (from, to) (All-nil (λ p. (low ≤ p.0) × (p.0 ≤ high))));
}

-- each of them is of the range, and above those before it
pub pairs_next : (low high : ℕ) (before rest : Contents) (pair : ℕ × ℕ) → ArePairsOf low high (before ++ pair ∷ rest)
    → (low ≤ pair.0) × (pair.0 ≤ high) × All (λ p. p.0 < pair.0) before
pairs_next low high before rest pair h =
    let R : ℕ × ℕ → ℕ × ℕ → Type 0 = λ a b. a.0 < b.0 in
    let P : ℕ × ℕ → Type 0 = λ p. (low ≤ p.0) × (p.0 ≤ high) in
    let here = All-head P pair rest (All-back P before (pair ∷ rest) h.within) in (
      here.0,
      here.1,
      All-weaker (λ a. All (R a) (pair ∷ rest)) (λ a. a.0 < pair.0) (λ a all. All-head (R a) pair rest all) before
          (AllPairs-across R before (pair ∷ rest) h.rising),
    )
