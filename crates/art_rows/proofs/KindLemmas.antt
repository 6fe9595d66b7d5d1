-- Numbers of the kinds of rows: how many words a row has, where its children begin, which word counts its claims; the kind at a base.
use Rattle.art_rows.proofs.Common.{◌≡◌, ℕ, ◌<◌, ◌≤◌, Bool, true, false, refl, sym, ap, ◌∙◌, arith, none-some, same_Some, Shape, Kind, Four, Sixteen}
use Rattle.art_rows.proofs.Common.{FortyEight, Full, row_words, claims_of, first_child, is_base_of, kind_at, kind_code}
use Rattle.std.proofs.Common.{Option, Some, if◌then◌else◌}

pub some-words : (kind : Kind) → 0 < row_words kind
some-words Four = omega arith
some-words Sixteen = omega arith
some-words FortyEight = omega arith
some-words Full = omega arith

pub two-words : (kind : Kind) → 1 < row_words kind
two-words Four = omega arith
two-words Sixteen = omega arith
two-words FortyEight = omega arith
two-words Full = omega arith

pub seven-words : (kind : Kind) → 7 ≤ row_words kind
seven-words Four = omega arith
seven-words Sixteen = omega arith
seven-words FortyEight = omega arith
seven-words Full = omega arith

-- the children are after the version and the info
pub first-two : (kind : Kind) → 2 ≤ first_child kind
first-two Four = omega arith
first-two Sixteen = omega arith
first-two FortyEight = omega arith
first-two Full = omega arith

pub first-some : (kind : Kind) → 1 ≤ first_child kind
first-some kind = omega (arith, first-two kind)

pub first-within : (kind : Kind) → first_child kind ≤ row_words kind
first-within Four = omega arith
first-within Sixteen = omega arith
first-within FortyEight = omega arith
first-within Full = omega arith

pub keys-within : (kind : Kind) (j : ℕ) → j < first_child kind → j < row_words kind
keys-within kind j h = omega (arith, h, first-within kind)

pub claims-some : (kind : Kind) → 0 < claims_of kind
claims-some Four = omega arith
claims-some Sixteen = omega arith
claims-some FortyEight = omega arith
claims-some Full = omega arith

pub claims-few : (kind : Kind) → claims_of kind < 5
claims-few Four = omega arith
claims-few Sixteen = omega arith
claims-few FortyEight = omega arith
claims-few Full = omega arith

-- no two kinds have one word of claims
pub claims-once : (k l : Kind) → claims_of k ≡ claims_of l → k ≡ l
claims-once Four Four e = refl
claims-once Four Sixteen e = absurd (omega (arith, e))
claims-once Four FortyEight e = absurd (omega (arith, e))
claims-once Four Full e = absurd (omega (arith, e))
claims-once Sixteen Four e = absurd (omega (arith, e))
claims-once Sixteen Sixteen e = refl
claims-once Sixteen FortyEight e = absurd (omega (arith, e))
claims-once Sixteen Full e = absurd (omega (arith, e))
claims-once FortyEight Four e = absurd (omega (arith, e))
claims-once FortyEight Sixteen e = absurd (omega (arith, e))
claims-once FortyEight FortyEight e = refl
claims-once FortyEight Full e = absurd (omega (arith, e))
claims-once Full Four e = absurd (omega (arith, e))
claims-once Full Sixteen e = absurd (omega (arith, e))
claims-once Full FortyEight e = absurd (omega (arith, e))
claims-once Full Full e = refl

pub code-few : (kind : Kind) → kind_code kind < 4
code-few Four = omega arith
code-few Sixteen = omega arith
code-few FortyEight = omega arith
code-few Full = omega arith

-- if a row of some kind begins, its kind has a base
pub kind_at-is_base : (s : Shape) (base : ℕ) (kind : Kind) → kind_at s base ≡ Some kind → is_base_of s kind base ≡ true
kind_at-is_base s base kind e =
    one Four (is_base_of s Four base) refl e λ f. one Sixteen (is_base_of s Sixteen base) refl f λ g.
    one FortyEight (is_base_of s FortyEight base) refl g λ h. one Full (is_base_of s Full base) refl h λ none. absurd (none-some _ none)
  where
    one : (k : Kind) (b : Bool) {rest : Option Kind} → is_base_of s k base ≡ b → (if b then Some k else rest) ≡ Some kind
        → (rest ≡ Some kind → is_base_of s kind base ≡ true) → is_base_of s kind base ≡ true
    one k true is h go = ap (λ q. is_base_of s q base) (sym (same_Some _ _ h)) ∙ is
    one k false is h go = go h
