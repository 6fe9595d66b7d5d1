-- A test whether two configurations are the same, with the proof that it decides exactly that.
use Rattle.std.specs.Prelude.{◌≡◌, ℕ, Bool, true, ◌==◌, ◌&&◌, List}
use Rattle.std.specs.Bool.{Decides}
use Rattle.std.specs.Cmp.{IsEquivalence, decided, unsigned_Decides}
use Rattle.std.specs.Cmp.Lexicographic.{pointwise, pointwise_decides}
use Rattle.std.proofs.Common.{ap, ap₂}
use Rattle.std.proofs.lemmas.Bool.Decides.{Decides-and, Decides-like}
use Rattle.map_object.specs.MapObject.{Contents}
use Rattle.memo.specs.Configurations.{Configuration}
use Rattle.memo.specs.Digest.{digest_of}

-- two pairs have the same key and the same value
abbrev pub is_same_pair : ℕ × ℕ → ℕ × ℕ → Bool
is_same_pair a b = a.0 == b.0 && a.1 == b.1

-- whether two configurations have the same calls taken and hold the same pairs
abbrev pub is_same : Configuration → Configuration → Bool
is_same a b = pointwise ◌==◌ a.taken b.taken && pointwise is_same_pair a.pairs b.pairs

-- a pair by its parts
abbrev pair_of : ℕ → ℕ → ℕ × ℕ
pair_of key value = (key, value)

-- two pairs are the same if their keys and their values are
pub Decides-is_same_pair : (a b : ℕ × ℕ) → Decides (is_same_pair a b) (a ≡ b)
Decides-is_same_pair a b =
    Decides-like (is_same_pair a b) (λ e. ap₂ pair_of e.0 e.1) (λ e. (ap (λ (p : ℕ × ℕ). p.0) e, ap (λ (p : ℕ × ℕ). p.1) e))
    (Decides-and (a.0 == b.0) (a.1 == b.1) (unsigned_Decides a.0 b.0) (unsigned_Decides a.1 b.1))

-- a configuration by its parts
abbrev configuration_of : List ℕ → Contents → Configuration
configuration_of taken pairs = record { taken = taken; pairs = pairs }

-- configurations with the same parts are the same
pub same_configuration : (c d : Configuration) → c.taken ≡ d.taken → c.pairs ≡ d.pairs → c ≡ d
same_configuration c d taken pairs = ap₂ configuration_of taken pairs

-- two configurations are the same if their calls taken and their pairs are
pub Decides-is_same : (a b : Configuration) → Decides (is_same a b) (a ≡ b)
Decides-is_same a b =
    Decides-like (is_same a b) (λ e. same_configuration a b e.0 e.1)
    (λ e. (ap (λ (c : Configuration). c.taken) e, ap (λ (c : Configuration). c.pairs) e))
    (Decides-and (pointwise ◌==◌ a.taken b.taken) (pointwise is_same_pair a.pairs b.pairs)
    (pointwise_decides unsigned_Decides a.taken b.taken)
    (pointwise_decides Decides-is_same_pair a.pairs b.pairs))

-- the test is an equivalence
pub is_same-equivalence : IsEquivalence is_same
is_same-equivalence = decided is_same Decides-is_same

-- configurations that are the same have the same digest, so a hasher is fed the same
pub same_digest : {X : Type 0} (f : ℕ → X) (a b : Configuration) → is_same a b ≡ true → f (digest_of a) ≡ f (digest_of b)
same_digest f a b same = ap (λ (c : Configuration). f (digest_of c)) ((Decides-is_same a b).0 same)
