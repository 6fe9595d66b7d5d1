-- Laws of configurations: which fronts lead to them, and what comes next.
use Rattle.std.proofs.Common.{◌≡◌, ℕ, ◌<◌, List, Some, [], ◌∷◌, ◌++◌, length, refl, sym, ap, ◌∙◌, subst, inl, inr, ⊎_elim, arith}
use Rattle.std.specs.Prelude.{◌↔◌, ◌⊎◌, slice_get, All, Contains, filter}
use Rattle.std.specs.List.{range_with_len}
use Rattle.std.specs.List.Sorted.{IsStrictlyIncreasing}
use Rattle.std.proofs.lemmas.List.Kept.{IsStrictlyIncreasing-filter}
use Rattle.std.proofs.lemmas.List.Elements.{All-contains, Contains-append_left, Contains-push, Contains-push_cases}
use Rattle.events.specs.declared.operation.Operation.{Operation}
use Rattle.events.specs.Lists.{has_number}
use Rattle.map_object.specs.MapObject.{Contents}
use Rattle.orders.specs.Orders.{after_call, after_calls, calls_at}
use Rattle.memo.specs.Configurations.{Configuration, LeadsTo}
use Rattle.memo.specs.Equality.{same_configuration}
use Rattle.events.proofs.Lists.{Contains-filter, Contains-from_filter, Contains-range}
use Rattle.orders.proofs.OrderLemmas.{after_calls-push}
use Rattle.events.proofs.NumberLemmas.{has_number-Contains, has_number-from_Contains}
use Rattle.events.proofs.RisingLemmas.{rising_unique, IsStrictlyIncreasing-range}

-- a configuration by its parts
abbrev pub configuration_of : List ℕ → Contents → Configuration
configuration_of taken pairs = record { taken = taken; pairs = pairs }

-- a front leads to one configuration
pub configuration_unique : (start : Contents) (calls : List Operation) (front : List ℕ) (c d : Configuration) → LeadsTo start calls front c
    → LeadsTo start calls front d → c ≡ d
configuration_unique start calls front c d by_c by_d =
    same_configuration c d
    (rising_unique c.taken d.taken by_c.rising by_d.rising
    (λ n. (λ h. (by_d.taken n).1 ((by_c.taken n).0 h), λ h. (by_c.taken n).1 ((by_d.taken n).0 h))))
    (by_c.pairs ∙ sym by_d.pairs)

-- no calls lead to the configuration of the start
pub LeadsTo-nil : (start : Contents) (calls : List Operation) → LeadsTo start calls [] (configuration_of [] start)
LeadsTo-nil start calls = record { rising = λ k within. absurd (omega arith); taken = λ n. (λ h. h, λ h. h); pairs = refl }

-- a configuration after one more call
pub LeadsTo-push : (start : Contents) (calls : List Operation) (front : List ℕ) (n : ℕ) (a : Operation) (c d : Configuration)
    → LeadsTo start calls front c
    → slice_get calls n ≡ Some a → IsStrictlyIncreasing d.taken → ((m : ℕ) → Contains d.taken m ↔ (Contains c.taken m ⊎ (m ≡ n)))
    → d.pairs ≡ after_call c.pairs a.call a.response → LeadsTo start calls (front ++ n ∷ []) d
LeadsTo-push start calls front n a c d by here rising taken pairs = record {
  rising = rising;
  taken = λ m. (
    λ h. ⊎_elim (λ old. Contains-append_left front (n ∷ []) m ((by.taken m).0 old))
        (λ new. subst (λ k. Contains (front ++ n ∷ []) k) (sym new) (Contains-push front n)) ((taken m).0 h),
    λ h. (taken m).1 (⊎_elim (λ old. inl ((by.taken m).1 old)) (λ new. inr (sym new)) (Contains-push_cases front n m h)),
  );
  pairs = pairs ∙ ap (λ m. after_call m a.call a.response) by.pairs ∙ sym (after_calls-push start calls front n a here);
}

-- each list of known numbers leads to a configuration
pub LeadsTo-exists : (start : Contents) (calls : List Operation) (front : List ℕ) → All (λ n. n < length calls) front → (c : Configuration)
    × LeadsTo start calls front c
LeadsTo-exists start calls front known =
    let numbers = range_with_len 0 (length calls) in
    let taken = filter (has_number front) numbers in (
      configuration_of taken (after_calls start (calls_at calls front)),
      record {
        rising = IsStrictlyIncreasing-filter (has_number front) numbers (IsStrictlyIncreasing-range (length calls));
        taken = λ n. (
          λ h. has_number-Contains front n (Contains-from_filter (has_number front) numbers n h).1,
          λ h. Contains-filter (has_number front) numbers n
              (Contains-range (length calls) n (All-contains (λ n. n < length calls) front n known h))
              (has_number-from_Contains front n h),
        );
        pairs = refl;
      },
    )
