-- The pairs that calls report from outside of them.
use Rattle.std.proofs.Common.{◌≡◌, ℕ, Bool, true, false, not, List, refl, ap, sym, subst, filter, true≢false}
use Rattle.std.specs.Prelude.{◌↔◌, AllPairs, Contains}
use Rattle.std.proofs.lemmas.List.Kept.{AllPairs-filter}
use Rattle.events.specs.declared.operation.Operation.{Operation}
use Rattle.events.proofs.Lists.{Contains-filter, Contains-from_filter}
use Rattle.map_object.specs.MapObject.{Contents}
use Rattle.explain_reads_from.specs.Reported.{all_reported}
use Rattle.explain_reads_from.specs.External.{is_internal, IsBelow, AreExternal}

fails_from : (b : Bool) → not b ≡ true → b ≡ false
fails_from true h = absurd (true≢false (sym h))
fails_from false h = refl

-- the pairs reported, by rising key and value, that are not the calls' own
pub external_from : (start : Contents) (calls : List Operation) (told sorted pairs : List (ℕ × ℕ)) → told ≡ all_reported calls
    → AllPairs IsBelow sorted → ((pair : ℕ × ℕ) → Contains sorted pair ↔ Contains told pair)
    → pairs ≡ filter (λ pair. not (is_internal start calls pair)) sorted → AreExternal start calls pairs
external_from start calls told sorted pairs told_is rising same pairs_are =
    let outside = λ (pair : ℕ × ℕ). not (is_internal start calls pair) in
    record {
      rising = subst (AllPairs IsBelow) (sym pairs_are) (AllPairs-filter IsBelow outside sorted rising);
      each = λ pair. (
        λ is.
            let (there, passes) = Contains-from_filter outside sorted pair (subst (λ (l : List (ℕ × ℕ)). Contains l pair) pairs_are is) in
            (subst (λ (l : List (ℕ × ℕ)). Contains l pair) told_is ((same pair).0 there), fails_from (is_internal start calls pair) passes),
        λ is.
            subst (λ (l : List (ℕ × ℕ)). Contains l pair) (sym pairs_are)
            (Contains-filter outside sorted pair ((same pair).1 (subst (λ (l : List (ℕ × ℕ)). Contains l pair) (sym told_is) is.0))
            (ap not is.1)),
      );
    }
