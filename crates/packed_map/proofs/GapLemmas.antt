-- A place at which a key would be.
use Rattle.packed_map.proofs.Common.{◌≡◌, ℕ, ◌-◌, ◌<◌, ◌≤◌, List, get_or, ap, ◌∙◌, ⊎_elim, arith, IsNonDecreasingBy, IsPartitionPoint, nat_cmp}
use Rattle.packed_map.proofs.Common.{ordering_index, Less, Greater, cases_lt, cases_order, nat_tests}
use Rattle.packed_map.specs.Searching.{IsGap}

itself : (k : ℕ) → ordering_index (nat_cmp k k) ≡ 1
itself k = grind (arith, nat_tests)

less_is : (a key : ℕ) → a < key → nat_cmp a key ≡ Less
less_is a key less = grind (arith, nat_tests)

greater_is : (a key : ℕ) → key < a → nat_cmp a key ≡ Greater
greater_is a key more = grind (arith, nat_tests)

less_below : (a b key : ℕ) → ordering_index (nat_cmp a key) ≤ ordering_index (nat_cmp b key) → b < key → nat_cmp a key ≡ Less
less_below a b key le less =
    let low : ordering_index (nat_cmp b key) ≡ 0 = ap ordering_index (less_is b key less) in
    ⊎_elim (λ below. less_is a key below) (λ above. absurd (beyond le low above)) (cases_lt a key)
  where
    beyond : ordering_index (nat_cmp a key) ≤ ordering_index (nat_cmp b key) → ordering_index (nat_cmp b key) ≡ 0 → key ≤ a → ⊥
    beyond le low above = ⊎_elim
        (λ equal. let one : ordering_index (nat_cmp a key) ≡ 1 = ap (λ (k : ℕ). ordering_index (nat_cmp k key)) equal ∙ itself key in omega (arith, one, le, low))
        (λ other. ⊎_elim (λ less. omega (arith, less, above))
        (λ more. let two : ordering_index (nat_cmp a key) ≡ 2 = ap ordering_index (greater_is a key more) in omega (arith, two, le, low)) other)
        (cases_order a key)

greater_above : (a b key : ℕ) → ordering_index (nat_cmp a key) ≤ ordering_index (nat_cmp b key) → key < a → nat_cmp b key ≡ Greater
greater_above a b key le more =
    let high : ordering_index (nat_cmp a key) ≡ 2 = ap ordering_index (greater_is a key more) in
    ⊎_elim (λ below. let none : ordering_index (nat_cmp b key) ≡ 0 = ap ordering_index (less_is b key below) in absurd (omega (arith, none, le, high)))
    (λ above. ⊎_elim
    (λ equal. let one : ordering_index (nat_cmp b key) ≡ 1 = ap (λ (k : ℕ). ordering_index (nat_cmp k key)) equal ∙ itself key in absurd (omega (arith, one, le, high)))
    (λ other. ⊎_elim (λ less. absurd (omega (arith, less, above))) (λ more. greater_is b key more) other)
    (cases_order b key))
    (cases_lt b key)

-- a place between lower and higher keys is what a search finds
pub gap_parts : {V : Type 0} (key i : ℕ) (es : List (ℕ × V)) → IsGap key es i
    → IsNonDecreasingBy (λ e. ordering_index (nat_cmp e.0 key)) es
    → IsPartitionPoint (λ e. nat_cmp e.0 key ≡ Less) (λ e. nat_cmp e.0 key ≡ Greater) es i
gap_parts key i es gap rise = (
  λ k d from to.
      let fits = gap.within in
      let low : (get_or es (i - 1) d).0 < key = gap.lower (i - 1) (omega (arith, to)) d in
      less_below (get_or es k d).0 (get_or es (i - 1) d).0 key (rise k (i - 1) d (omega (arith, to)) (omega (arith, to, fits))) low,
  λ k d from to.
      let high : key < (get_or es i d).0 = gap.higher (omega (arith, from, to)) d in
      greater_above (get_or es i d).0 (get_or es k d).0 key (rise i k d from to) high,
)
