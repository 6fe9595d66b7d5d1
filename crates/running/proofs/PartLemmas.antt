-- The processes of a group that gives its last away.
use Rattle.running.proofs.Common.{◌≡◌, ℕ, ◌+◌, ◌-◌, List, [], ◌∷◌, ◌++◌, length, map, take, drop, refl, sym, ap, ◌∙◌, arith, range_with_len}
use Rattle.running.proofs.Common.{length-map-range_with_len, take-map-range_with_len, map-range_with_len_more, idle, Setup, View, Numbered, view}
use Rattle.running.proofs.Common.{without_last, last_alone, alone}
use Rattle.running.proofs.FitLemmas.{first_process}

-- the first processes of all, before the first step
abbrev pub first_idle : ℕ → List Numbered
first_idle n = map (λ p. (p, idle)) (range_with_len 0 n)

pub length-idle : (n : ℕ) → length (first_idle n) ≡ n
length-idle n = length-map-range_with_len first_process 0 n

drop-last : (xs : List Numbered) (x : Numbered) (n : ℕ) → n ≡ length xs → drop n (xs ++ x ∷ []) ≡ x ∷ []
drop-last [] x n e = ap (λ k. drop k (x ∷ [])) e
drop-last (y ∷ xs) x n e = ap (λ k. drop k (y ∷ xs ++ x ∷ [])) e ∙ drop-last xs x (length xs) refl

module _ (setup : Setup) (n m : ℕ) (more : m ≡ n + 1) (v : View) (shown : v ≡ view setup (first_idle m)) where
  one-less : length v.processes - 1 ≡ n
  one-less = let long = ap (λ z. length z.processes) shown in let all = length-idle m in omega arith

  -- without the last, one process less
  pub kept-idle : without_last v ≡ view setup (first_idle n)
  kept-idle =
      ap (λ k. view v.setup (take k v.processes)) one-less
      ∙ (ap (λ z. view z.setup (take n z.processes)) shown ∙ ap (view setup) (take-map-range_with_len first_process 0 m n (omega arith)))

  -- the last one alone is the greatest
  pub given-idle : last_alone v ≡ alone setup n idle
  given-idle =
      ap (λ k. view v.setup (drop k v.processes)) one-less
      ∙ (ap (λ z. view z.setup (drop n z.processes)) shown
      ∙ ap (view setup)
      (ap (drop n) (ap first_idle more ∙ map-range_with_len_more first_process 0 n n (omega arith))
      ∙ drop-last (first_idle n) (n, idle) n (sym (length-idle n))))
