-- Laws of parts that become one, and of one that is split.
use Rattle.std.specs.Prelude.{◌≡◌, ◌≢◌, ◌⊎◌, ◌↔◌, ℕ, ◌<◌, true, ◌||◌, List, [], ◌∷◌, ◌++◌, Option, All, AllPairs, Contains}
use Rattle.std.specs.List.{AllZip}
use Rattle.events.specs.declared.operation.Operation.{Operation}
use Rattle.follow_laws.specs.KeyedCalls.{KeyedCall}
use Rattle.follow_laws.specs.Growth.{HaveGrown}
use Rattle.follow_laws.specs.Choices.{Choice}
use Rattle.follow_laws.specs.Cuts.{Keys}
use Rattle.follow_laws.specs.Apart.{AreApart}
use Rattle.follow_laws.specs.Parts.{Part, Represent}
use Rattle.follow_laws.specs.Left.{HasKeysIn, AreTogether, pairs_at}
use Rattle.follow_laws.specs.Pasts.{KeptPast, FoundAt, IsPast, ArePasts}

-- the keys of two parts
abbrev pub both_keys : Keys → Keys → Keys
both_keys keys others key = keys key || others key

-- two pasts of two parts together
pub record IsTogether (keys : Keys) (a b c : KeptPast) : Type 0 where
  pub together : AreTogether keys a.pairs b.pairs c.pairs a.left b.left c.left
  pub found : (f : FoundAt) → Contains c.found f ↔ (Contains a.found f ⊎ Contains b.found f)

-- all pairs of two lists of pasts, one after another
abbrev pub ArePairs : Keys → List KeptPast → List KeptPast → List KeptPast → Type 0
ArePairs keys [] others all = all ≡ []
ArePairs keys (a ∷ kept) others all =
    (front : List KeptPast) × (back : List KeptPast) × (all ≡ front ++ back) × AllZip (λ b c. IsTogether keys a b c) others front
    × ArePairs keys kept others back

-- two parts become one of all pairs of their pasts
abbrev pub PastsUnite : Type 0
PastsUnite =
    (held : ℕ → Option ℕ) (place : ℕ) (calls : List KeyedCall) (keys others : Keys) (kept other_kept all : List KeptPast)
    (pasts other_pasts : List Choice) (rest : List Part) → HaveGrown place calls calls → AreApart keys others
    → ArePairs keys kept other_kept all → ArePasts keys calls kept pasts → ArePasts others calls other_kept other_pasts
    → Represent held place calls (record { keys = keys; pasts = pasts } ∷ record { keys = others; pasts = other_pasts } ∷ rest)
    → (both : List Choice) × ArePasts (both_keys keys others) calls all both
    × Represent held place calls (record { keys = both_keys keys others; pasts = both } ∷ rest)

-- a past is split: each call that is left has keys of only one of both sets
pub record FallsApart (keys others : Keys) (c a b : KeptPast) : Type 0 where
  pub pairs : a.pairs ≡ pairs_at keys c.pairs
  pub other_pairs : b.pairs ≡ pairs_at others c.pairs
  pub rising : AllPairs (λ o p. o.inv < p.inv) a.left
  pub other_rising : AllPairs (λ o p. o.inv < p.inv) b.left
  pub each : All (λ o. HasKeysIn keys o ⊎ HasKeysIn others o) c.left
  pub left : (o : Operation) → Contains a.left o ↔ (Contains c.left o × HasKeysIn keys o)
  pub other_left : (o : Operation) → Contains b.left o ↔ (Contains c.left o × HasKeysIn others o)
  pub found : (f : FoundAt) → Contains a.found f ↔ (Contains c.found f × (keys f.key ≡ true))
  pub other_found : (f : FoundAt) → Contains b.found f ↔ (Contains c.found f × (others f.key ≡ true))

-- a part may be split if all its pasts have the same at some of its keys
abbrev pub PastsFallApart : Type 0
PastsFallApart =
    (held : ℕ → Option ℕ) (place : ℕ) (calls : List KeyedCall) (keys others : Keys) (a : KeptPast) (all other_kept : List KeptPast)
    (both : List Choice) (rest : List Part) → HaveGrown place calls calls → AreApart keys others → all ≢ []
    → AllZip (λ c b. FallsApart keys others c a b) all other_kept → ArePasts (both_keys keys others) calls all both
    → Represent held place calls (record { keys = both_keys keys others; pasts = both } ∷ rest)
    → (past : Choice) × (other_pasts : List Choice) × IsPast keys calls a past × ArePasts others calls other_kept other_pasts
    × Represent held place calls (record { keys = keys; pasts = past ∷ [] } ∷ record { keys = others; pasts = other_pasts } ∷ rest)
