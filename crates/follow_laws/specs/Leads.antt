-- Pasts that may replace others, wherever a part of their keys is among others.
use Rattle.std.specs.Prelude.{◌≡◌, ◌⊎◌, ℕ, List, ◌∷◌, Option, None, All, Contains}
use Rattle.events.specs.declared.operation.Operation.{Operation}
use Rattle.follow_laws.specs.KeyedCalls.{KeyedCall}
use Rattle.follow_laws.specs.Growth.{HaveGrown}
use Rattle.follow_laws.specs.Choices.{Choice}
use Rattle.follow_laws.specs.Cuts.{Keys}
use Rattle.follow_laws.specs.Parts.{Part, Represent}
use Rattle.follow_laws.specs.Pasts.{FoundAt, KeptPast, ArePasts, OpenReadsBeganAfter, IsLeftOrFound}

-- a part among others, after some calls
pub record Setting : Type 0 where
  pub held : ℕ → Option ℕ
  pub place : ℕ
  pub calls : List KeyedCall
  pub keys : Keys
  pub rest : List Part

abbrev pub IsSetting : Setting → Type 0
IsSetting s = HaveGrown s.place s.calls s.calls

-- the part may have these pasts, and pending reads of its keys began no earlier than a moment
abbrev pub Stand : ℕ → Setting → List KeptPast → Type 0
Stand moment s kept =
    (pasts : List Choice) × ArePasts s.keys s.calls kept pasts
    × Represent s.held s.place s.calls (record { keys = s.keys; pasts = pasts } ∷ s.rest)
    × All (OpenReadsBeganAfter s.keys moment s.calls) kept

-- some pasts may be replaced by others
abbrev pub Leads : ℕ → List KeptPast → List KeptPast → Type 0
Leads moment kept nexts = (s : Setting) → IsSetting s → Stand moment s kept → Stand moment s nexts

-- A past that is made of another by calls that took effect. What is left was left. What is found was found before, or by a pending call that
-- was left. What was found is still found. A pending call that was left is left, or the past has what it found.
pub record IsMadeOf (past next : KeptPast) : Type 0 where
  pub left : (o : Operation) → Contains next.left o → Contains past.left o
  pub found : All (λ f. Contains past.found f ⊎ ((o : Operation) × Contains past.left o × (o.inv ≡ f.inv) × (o.response ≡ None))) next.found
  pub stay : (f : FoundAt) → Contains past.found f → Contains next.found f
  pub whole : (o : Operation) → Contains past.left o → o.response ≡ None → IsLeftOrFound next o
