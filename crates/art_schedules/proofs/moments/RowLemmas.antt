-- The words of rows: lists that agree from one place to another have the same part there, and no row begins within another.
use Rattle.art_schedules.proofs.Common.{◌≡◌, ℕ, zero, suc, ◌+◌, ◌<◌, ◌≤◌, List, [], ◌∷◌, length, take, refl, ap, ◌∙◌, inl, inr, arith}
use Rattle.art_schedules.proofs.words.TableLemmas.{rows_apart}
use Rattle.art_schedules.proofs.Common.{slice_index, Option, Some, None, cases_lt, take-length, Kind, Shape, row_words, kind_at}
use Rattle.art_schedules.proofs.Common.{some-words}
use Rattle.std.proofs.Common.{drop}
use Rattle.art_rows.proofs.WriterLemmas.{take_whole}

take-same : (n : ℕ) (xs ys : List ℕ) → length xs ≡ length ys → ((k : ℕ) → k < n → slice_index xs k ≡ slice_index ys k)
    → take n xs ≡ take n ys
take-same zero xs ys long same = refl
take-same (suc n) [] [] long same = refl
take-same (suc n) [] (y ∷ ys) long same = absurd (omega (arith, long))
take-same (suc n) (x ∷ xs) [] long same = absurd (omega (arith, long))
take-same (suc n) (x ∷ xs) (y ∷ ys) long same =
    ap (λ z. z ∷ take n xs) (same 0 (omega arith))
    ∙ ap (λ zs. y ∷ zs) (take-same n xs ys (omega (arith, long)) (λ k less. same (suc k) (omega (arith, less))))

pub part-same : (base n : ℕ) (xs ys : List ℕ) → length xs ≡ length ys
    → ((k : ℕ) → base ≤ k → k < base + n → slice_index xs k ≡ slice_index ys k) → take n (drop base xs) ≡ take n (drop base ys)
part-same zero n xs ys long same = take-same n xs ys long (λ k less. same k (omega arith) (omega (arith, less)))
part-same (suc base) n [] [] long same = refl
part-same (suc base) n [] (y ∷ ys) long same = absurd (omega (arith, long))
part-same (suc base) n (x ∷ xs) [] long same = absurd (omega (arith, long))
part-same (suc base) n (x ∷ xs) (y ∷ ys) long same =
    part-same base n xs ys (omega (arith, long)) (λ k low high. same (suc k) (omega (arith, low)) (omega (arith, high)))

pub record Within (n : ℕ) (xs : List ℕ) : Type 0 where
  pub length' : ℕ
  pub most : length' ≤ length xs
  pub same : take n xs ≡ take length' xs

pub taken-within : (n : ℕ) (xs : List ℕ) → Within n xs
taken-within n xs = elim (cases_lt n (length xs)) [
  | inl less ↦ record { length' = n; most = omega (arith, less); same = refl }
  | inr more ↦ record {
    length' = length xs;
    most = omega arith;
    same = take_whole n xs more ∙ Rattle.std.proofs.Common.sym
        (take-length xs);
  }
]

pub row-within : (s : Shape) (base word : ℕ) (kind : Kind) → kind_at s base ≡ Some kind → base < word → word < base + row_words kind
    → kind_at s word ≡ None
row-within s base word kind row low high = go (kind_at s word) refl
  where
    go : (o : Option Kind) → kind_at s word ≡ o → o ≡ None
    go None e = refl
    go (Some other) e =
        let same = rows_apart s base word kind other word row e (omega (arith, low)) high (omega arith) (omega (arith, some-words other)) in
        absurd (omega (arith, low, same.0))
