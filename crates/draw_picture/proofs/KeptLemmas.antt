-- The bars that are kept one by one are those that are kept in turn.
use Rattle.draw_picture.proofs.Common.{◌≡◌, ℕ, Bool, true, false, not, List, [], ◌∷◌, map, Some, None, if◌then◌else◌, refl, ap, filter, filter_map}
use Rattle.draw_picture.proofs.Common.{cons_option, Bar, bar_in, bars_in, meets, ranked_bar}
use Rattle.std.specs.Prelude.{cond}

-- a bar that is kept comes before the others
first : (kept : Bool) (bar : Bar) (xs ys : List Bar) → xs ≡ ys
    → cons_option (if kept then Some bar else None) xs ≡ cond kept (bar ∷ ys) ys
first true bar xs ys h = ap (λ bars. bar ∷ bars) h
first false bar xs ys h = h

-- a bar that is not pale comes before the others, once it is changed
first-changed : (change : Bar → Bar) (test : Bar → Bool) (pale : Bool) (bar : Bar) (rest xs : List Bar) → xs ≡ filter test (map change rest)
    → cons_option (if pale then None else (if test (change bar) then Some (change bar) else None)) xs
    ≡ filter test (map change (cond (not pale) (bar ∷ rest) rest))
first-changed change test true bar rest xs h = h
first-changed change test false bar rest xs h = first (test (change bar)) (change bar) xs (filter test (map change rest)) h

pub bars-kept : (columns : List ℕ) (from to : ℕ) (bars : List Bar) → filter_map (bar_in columns from to) bars ≡ bars_in columns from to bars
bars-kept columns from to [] = refl
bars-kept columns from to (bar ∷ bars) =
    first-changed (ranked_bar columns) (meets from to) bar.is_pale bar (filter (λ b. not b.is_pale) bars) _ (bars-kept columns from to bars)
