-- The reports have no float, so that their texts are the compact ones.
use Rattle.cli_follow.proofs.Common.{◌≡◌, ℕ, List, [], ◌∷◌, map, false, Option, Some, None, refl, items_of, has_float, items_have_float}
use Rattle.cli_follow.proofs.Common.{number_data, value_data, KeyViolation, key_data, lost_data, spent_data}
use Rattle.follow_violations.specs.declared.lost_keys.Origin.{Origin}

items_have_float-numbers : (numbers : List ℕ) → items_have_float (items_of (map number_data numbers)) ≡ false
items_have_float-numbers [] = refl
items_have_float-numbers (n ∷ numbers) = items_have_float-numbers numbers

has_float-value : (value : Option ℕ) → has_float (value_data value) ≡ false
has_float-value None = refl
has_float-value (Some value) = refl

items_have_float-values : (from : List Origin) → items_have_float (items_of (map (λ origin. value_data origin.value) from)) ≡ false
items_have_float-values [] = refl
items_have_float-values (origin ∷ from) = rw (has_float-value origin.value) (items_have_float-values from)

items_have_float-puts : (from : List Origin) → items_have_float (items_of (map (λ origin. value_data origin.put) from)) ≡ false
items_have_float-puts [] = refl
items_have_float-puts (origin ∷ from) = rw (has_float-value origin.put) (items_have_float-puts from)

has_float-key : (loss : KeyViolation) → has_float (key_data loss) ≡ false
has_float-key loss =
    rw (
      items_have_float-numbers loss.invoked.items,
      items_have_float-puts loss.from.items,
      items_have_float-values loss.from.items,
    ) refl

items_have_float-keys : (losses : List KeyViolation) → items_have_float (items_of (map key_data losses)) ≡ false
items_have_float-keys [] = refl
items_have_float-keys (loss ∷ losses) = rw (has_float-key loss) (items_have_float-keys losses)

pub has_float-lost : (event number : ℕ) (losses : List KeyViolation) → has_float (lost_data event number losses) ≡ false
has_float-lost event number losses = rw (items_have_float-keys losses) refl

pub has_float-spent : (event number : ℕ) (losses : List KeyViolation) → has_float (spent_data event number losses) ≡ false
has_float-spent event number losses = rw (items_have_float-keys losses) refl
