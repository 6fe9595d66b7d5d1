-- Keys in ranges.
use Rattle.follow_pasts.proofs.Common.{◌≡◌, ℕ, ◌≤◌, ◌+◌, Bool, true, false, List, [], ◌∷◌, ◌++◌, length, get_or, take, refl, sym, ap, ◌∙◌, arith, ◌&&◌}
use Rattle.follow_pasts.proofs.Common.{nat_le, max, set, length-set, nat_tests, take_all, take_more, take_more_set, list_any-append, covered, Range}
use Rattle.std.specs.Prelude.{◌||◌}

-- whether a key is in a range
abbrev pub is_in : ℕ → Range → Bool
is_in key range = nat_le range.low key && nat_le key range.high

-- the test of two ranges that are one
both_in : (low middle high most key : ℕ) → low ≤ middle → middle ≤ high
    → (nat_le low key && nat_le key (max high most)) ≡ ((nat_le low key && nat_le key high) || (nat_le middle key && nat_le key most))
both_in low middle high most key least next = grind (arith, nat_tests)

joined : (a l r y : Bool) → y ≡ (l || r) → (a || (y || false)) ≡ ((a || (l || false)) || (r || false))
joined true l r y same = refl
joined false true r y same = ap (λ b. b || false) same
joined false false r y same = ap (λ b. b || false) same

-- the last range is wider by one that begins in it
pub covered_wider : (xs : List Range) (n : ℕ) (last range : Range) (most : ℕ) → n + 1 ≡ length xs → last ≡ get_or xs n last
    → last.low ≤ range.low → range.low ≤ last.high → most ≡ max last.high range.high → (key : ℕ)
    → covered (set xs n (record { low = last.low; high = most })) key ≡ covered (xs ++ range ∷ []) key
covered_wider xs n last range most size is least next high key =
    let wide : Range = record { low = last.low; high = most } in
    let front = take n xs in
    let new : set xs n wide ≡ front ++ wide ∷ [] =
    sym (take_all (n + 1) (set xs n wide) (omega (arith, length-set xs n wide))) ∙ take_more_set xs n wide (omega arith) in
    let old : xs ≡ front ++ last ∷ [] =
    sym (take_all (n + 1) xs (omega arith)) ∙ (take_more xs n last (omega arith) ∙ ap (λ (r : Range). front ++ r ∷ []) (sym is)) in
    let both : is_in key wide ≡ (is_in key last || is_in key range) =
    ap (λ (m : ℕ). nat_le last.low key && nat_le key m) high ∙ both_in last.low range.low last.high range.high key least next in
    ap (λ (rs : List Range). covered rs key) new ∙ list_any-append (is_in key) front (wide ∷ [])
    ∙ joined (covered front key) (is_in key last) (is_in key range) (is_in key wide) both
    ∙ ap (λ (b : Bool). b || (is_in key range || false)) (sym (list_any-append (is_in key) front (last ∷ [])))
    ∙ ap (λ (rs : List Range). covered rs key || (is_in key range || false)) (sym old)
    ∙ sym (list_any-append (is_in key) xs (range ∷ []))
