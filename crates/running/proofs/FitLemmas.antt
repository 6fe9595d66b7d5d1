-- Processes that fit: the calls left to the first one, and lists of them, made one or cut in two.
use Rattle.running.proofs.Common.{◌≡◌, ℕ, suc, ◌+◌, Bool, true, false, List, [], ◌∷◌, ◌++◌, length, map, take, drop, refl, sym, ap, subst, ◌∙◌, arith}
use Rattle.running.proofs.Common.{None, if◌then◌else◌, nat_lt, range_with_len, Idle, FitsDoing, begun, idle, Setup, View, Numbered, left_of_first}
use Rattle.running.proofs.Common.{calls_left, placed, merge, Runner, Run, FitsProcess, Fit, IsFirst}
use Rattle.std.proofs.lemmas.List.FromFn.{map-range_with_len_more}

pub left-is : (v : View) (n : ℕ) (r : Runner) → IsFirst v n r → calls_left v ≡ r.left
left-is v n r first =
    ap (left_of_first v.setup.calls_each) first.is ∙ (let left = first.fits.left in omega arith)

pub fit-length : (setup : Setup) (xs : List Numbered) (rs : List Run) → Fit setup xs rs → length xs ≡ length rs
fit-length setup [] [] fit = refl
fit-length setup [] (r ∷ rs) fit = absurd fit
fit-length setup (x ∷ xs) [] fit = absurd fit
fit-length setup (x ∷ xs) (r ∷ rs) fit = ap suc (fit-length setup xs rs fit.1)

pub fit-push : (setup : Setup) (xs : List Numbered) (rs : List Run) (x : Numbered) (r : Run) → Fit setup xs rs → FitsProcess setup x r
    → Fit setup (xs ++ x ∷ []) (rs ++ r ∷ [])
fit-push setup [] [] x r fit f = (f, tt)
fit-push setup [] (s ∷ rs) x r fit f = absurd fit
fit-push setup (y ∷ xs) [] x r fit f = absurd fit
fit-push setup (y ∷ xs) (s ∷ rs) x r fit f = (fit.0, fit-push setup xs rs x r fit.1 f)

fit-placed : (setup : Setup) (x : Numbered) (r : Run) (xs : List Numbered) (rs : List Run) → FitsProcess setup x r → Fit setup xs rs
    → Fit setup (placed x xs) (placed r rs)
fit-placed setup x r [] [] f fit = (f, tt)
fit-placed setup x r [] (s ∷ rs) f fit = absurd fit
fit-placed setup x r (y ∷ xs) [] f fit = absurd fit
fit-placed setup x r (y ∷ xs) (s ∷ rs) f fit =
    subst (λ b. Fit setup (if nat_lt x.0 y.0 then x ∷ y ∷ xs else y ∷ placed x xs) (if b then r ∷ s ∷ rs else s ∷ placed r rs))
    (ap (λ n. nat_lt n y.0) f.number ∙ ap (nat_lt r.0) fit.0.number) (by-case (nat_lt x.0 y.0) (fit-placed setup x r xs rs f fit.1))
  where
    by-case : (b : Bool) → Fit setup (placed x xs) (placed r rs)
        → Fit setup (if b then x ∷ y ∷ xs else y ∷ placed x xs) (if b then r ∷ s ∷ rs else s ∷ placed r rs)
    by-case true rest = (f, (fit.0, fit.1))
    by-case false rest = (fit.0, rest)

pub fit-merge : (setup : Setup) (xs : List Numbered) (rs : List Run) (ys : List Numbered) (ss : List Run)
    → Fit setup xs rs → Fit setup ys ss
    → Fit setup (merge xs ys) (merge rs ss)
fit-merge setup xs rs [] [] fit more = fit
fit-merge setup xs rs [] (s ∷ ss) fit more = absurd more
fit-merge setup xs rs (y ∷ ys) [] fit more = absurd more
fit-merge setup xs rs (y ∷ ys) (s ∷ ss) fit more =
    fit-placed setup y s (merge xs ys) (merge rs ss) more.0 (fit-merge setup xs rs ys ss fit more.1)

-- a list cut in two
pub fit-cut : (setup : Setup) (xs : List Numbered) (kept given : List Run) → Fit setup xs (kept ++ given)
    → Fit setup (take (length kept) xs) kept × Fit setup (drop (length kept) xs) given
fit-cut setup xs [] given fit = (tt, fit)
fit-cut setup [] (r ∷ rs) given fit = absurd fit
fit-cut setup (x ∷ xs) (r ∷ rs) given fit = let rest = fit-cut setup xs rs given fit.1 in ((fit.0, rest.0), rest.1)

-- All processes, before the first step.

abbrev pub first_process : ℕ → Numbered
first_process p = (p, idle)

pub fits-idle : (setup : Setup) (n : ℕ) (r : Runner) → r.left ≡ setup.calls_each → r.doing ≡ Idle → r.log.items ≡ []
    → FitsProcess setup (n, idle) (n, r)
fits-idle setup n r left is log = record {
  number = refl;
  doing = subst (λ d. FitsDoing setup.shape setup.variant d None []) (sym is) refl;
  left = let none : length (begun idle) ≡ 0 = refl in omega (arith, none, left);
  log = sym log;
}

pub fit-idle-more : (setup : Setup) (n : ℕ) (rs : List Run) (r : Run) → Fit setup (map first_process (range_with_len 0 n)) rs
    → FitsProcess setup (n, idle) r
    → Fit setup (map first_process (range_with_len 0 (n + 1))) (rs ++ r ∷ [])
fit-idle-more setup n rs r fit f =
    subst (λ xs. Fit setup xs (rs ++ r ∷ [])) (sym (map-range_with_len_more first_process 0 n n (omega arith)))
    (fit-push setup (map first_process (range_with_len 0 n)) rs (n, idle) r fit f)
