-- How a memo stores a configuration: by its differences from the start of the search.
use Rattle.std.specs.Prelude.{◌≡◌, ℕ, Bool, true, ◌==◌, ◌&&◌, List}
use Rattle.std.specs.Bool.{Decides}
use Rattle.std.specs.Cmp.{IsEquivalence, decided, unsigned_Decides}
use Rattle.std.specs.Cmp.Lexicographic.{pointwise, pointwise_decides}
use Rattle.std.proofs.Common.{ap, ◌∙◌}
use Rattle.std.proofs.lemmas.Bool.Decides.{Decides-and, Decides-like}
use Rattle.map_object.specs.MapObject.{Contents}
use Rattle.memo.specs.Configurations.{Configuration}
use Rattle.memo.specs.Digest.{HasDigest}
use Rattle.memo.specs.Differences.{IsDifference, pairs_from}
use Rattle.memo.specs.Equality.{is_same_pair, Decides-is_same_pair}

-- the calls taken, the pairs that are not among those at the start, the pairs at the start whose
-- keys have no value now, and the digest
pub record Kept : Type 0 where
  pub taken : List ℕ
  pub put : Contents
  pub gone : Contents
  pub digest : ℕ

-- the configuration that is stored so
abbrev pub configuration_from : Contents → Kept → Configuration
configuration_from start kept = record { taken = kept.taken; pairs = pairs_from start kept.put kept.gone }

-- a configuration is stored in its only form
pub record IsKept (start : Contents) (kept : Kept) : Type 0 where
  pub difference : IsDifference start (pairs_from start kept.put kept.gone) kept.put kept.gone
  pub digest : HasDigest kept.taken (pairs_from start kept.put kept.gone) kept.digest

-- whether two stored forms are the same
abbrev pub is_kept_same : Kept → Kept → Bool
is_kept_same a b =
    a.digest == b.digest && (pointwise ◌==◌ a.taken b.taken && (pointwise is_same_pair a.put b.put && pointwise is_same_pair a.gone b.gone))

-- a stored form, by its parts
abbrev pub kept_of : List ℕ → Contents → Contents → ℕ → Kept
kept_of taken put gone digest = record { taken = taken; put = put; gone = gone; digest = digest }

-- stored forms with the same parts are the same
pub same_kept : (a b : Kept) → (a.digest ≡ b.digest) × ((a.taken ≡ b.taken) × ((a.put ≡ b.put) × (a.gone ≡ b.gone))) → a ≡ b
same_kept a b h =
    ap (λ t. kept_of t a.put a.gone a.digest) h.1.0 ∙ ap (λ p. kept_of b.taken p a.gone a.digest) h.1.1.0
    ∙ ap (λ g. kept_of b.taken b.put g a.digest) h.1.1.1 ∙ ap (λ d. kept_of b.taken b.put b.gone d) h.0

-- the test decides exactly that
pub Decides-is_kept_same : (a b : Kept) → Decides (is_kept_same a b) (a ≡ b)
Decides-is_kept_same a b =
    Decides-like (is_kept_same a b) (same_kept a b)
    (λ e. (ap (λ (k : Kept). k.digest) e, (ap (λ (k : Kept). k.taken) e, (ap (λ (k : Kept). k.put) e, ap (λ (k : Kept). k.gone) e))))
    (Decides-and (a.digest == b.digest)
    (pointwise ◌==◌ a.taken b.taken && (pointwise is_same_pair a.put b.put && pointwise is_same_pair a.gone b.gone))
    (unsigned_Decides a.digest b.digest)
    (Decides-and (pointwise ◌==◌ a.taken b.taken) (pointwise is_same_pair a.put b.put && pointwise is_same_pair a.gone b.gone)
    (pointwise_decides unsigned_Decides a.taken b.taken)
    (Decides-and (pointwise is_same_pair a.put b.put) (pointwise is_same_pair a.gone b.gone)
    (pointwise_decides Decides-is_same_pair a.put b.put) (pointwise_decides Decides-is_same_pair a.gone b.gone))))

-- the test is an equivalence
pub is_kept_same-equivalence : IsEquivalence is_kept_same
is_kept_same-equivalence = decided is_kept_same Decides-is_kept_same

-- stored forms that are the same have the same digest, so a hasher is fed the same
pub same_kept_digest : {X : Type 0} (f : ℕ → X) (a b : Kept) → is_kept_same a b ≡ true → f a.digest ≡ f b.digest
same_kept_digest f a b same = ap (λ (k : Kept). f k.digest) ((Decides-is_kept_same a b).0 same)
