-- Choices that are above the calls, or below.
use Rattle.follow_laws.proofs.Common.{◌≡◌, ℕ, List, [], ◌∷◌, map, Option, refl, sym, ap, subst, KeyedCall, HasKeyedOrder, Choice, at_first, rest_of}
use Rattle.follow_laws.proofs.Common.{GoesOn, ChoicesBegin, ChoicesStay, ChoicesJudge}
use Rattle.follow_laws.proofs.GrowthLemmas.{growth_on}

pub choices_on : ChoicesStay
choices_on held place next calls more choices less grown = (
  λ above most grows order. above most (growth_on place next calls more most less grown grows) order,
  λ below most grows some. below most (growth_on place next calls more most less grown grows) some,
)

pub judge_now : ChoicesJudge
judge_now held place calls choices now =
    (λ above none order. none (above calls now order), λ below some. below calls now some)

pub map_same : (xs : List KeyedCall) (held : ℕ → Option ℕ) → map (rest_of (at_first held)) xs ≡ xs
map_same [] held = refl
map_same (x ∷ xs) held = ap (λ (ys : List KeyedCall). x ∷ ys) (map_same xs held)

pub begin : ChoicesBegin
begin held = (
  λ more grown order. (
    at_first held,
    refl,
    (
      λ k d within. record { accepted = λ key taken. cc; fits = λ key taken. cc },
      subst (λ (calls : List KeyedCall). HasKeyedOrder held calls) (sym (map_same more held)) order,
    ),
  ),
  λ more grown some.
      let (w, is, goes_on) = some in
      let first : GoesOn (at_first held) more = subst (λ (v : Choice). GoesOn v more) is goes_on in
      subst (λ (calls : List KeyedCall). HasKeyedOrder held calls) (map_same more held) first.1,
)
