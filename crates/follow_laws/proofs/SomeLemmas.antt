-- Some of the calls, and what is left of them: `some_decide`, if the others have no effect.
use Rattle.follow_laws.proofs.Common.{◌≡◌, ℕ, ◌<◌, Bool, true, false, List, map, Option, inl, inr, ⊎_elim, ◌≢◌, ◌⊎◌, ◌↔◌, AllPairs, Contains, filter}
use Rattle.follow_laws.proofs.Common.{All-contains, All-map, AllPairs-filter, AllPairs-map, All-from_contains, Contains-filter, Contains-from_filter}
use Rattle.follow_laws.proofs.Common.{KeyedCall, IsNoEffect, precedes, AreKeyedCalls, HasKeyedOrder, Choice, Keys, left_at}
use Rattle.follow_laws.proofs.NoneLemmas.{effects_decide}

pub keyed_left : (keys : Keys) (w : Choice) (calls : List KeyedCall) → AreKeyedCalls calls → AreKeyedCalls (map (left_at keys w) calls)
keyed_left keys w calls apart = record {
  distinct = AllPairs-map (λ a b. a.inv ≢ b.inv) (left_at keys w) calls apart.distinct;
  last = All-map (λ a. precedes a a ≡ false) (left_at keys w) calls apart.last;
}

pub keyed_some : (p : KeyedCall → Bool) (calls : List KeyedCall) → AreKeyedCalls calls → AreKeyedCalls (filter p calls)
keyed_some p calls apart = record {
  distinct = AllPairs-filter (λ a b. a.inv ≢ b.inv) p calls apart.distinct;
  last = All-from_contains (λ a. precedes a a ≡ false) (filter p calls) (λ a a_in.
      All-contains (λ b. precedes b b ≡ false) calls a apart.last (Contains-from_filter p calls a a_in).0);
}

pub some_decide : (held : ℕ → Option ℕ) (p : KeyedCall → Bool) (calls : List KeyedCall) → AreKeyedCalls calls
    → AllPairs (λ a b. a.inv < b.inv) calls → ((a : KeyedCall) → Contains calls a → ((key : ℕ) → IsNoEffect (a.effect key)) ⊎ (p a ≡ true))
    → HasKeyedOrder held calls ↔ HasKeyedOrder held (filter p calls)
some_decide held p calls apart rising each = (
  effects_decide held calls (filter p calls) (keyed_some p calls apart) (AllPairs-filter (λ a b. a.inv < b.inv) p calls rising) there back,
  effects_decide held (filter p calls) calls apart rising back there,
)
  where
    there : (a : KeyedCall) → Contains calls a → ((key : ℕ) → IsNoEffect (a.effect key)) ⊎ Contains (filter p calls) a
    there a a_in = ⊎_elim (λ none. inl none) (λ is. inr (Contains-filter p calls a a_in is)) (each a a_in)

    back : (a : KeyedCall) → Contains (filter p calls) a → ((key : ℕ) → IsNoEffect (a.effect key)) ⊎ Contains calls a
    back a a_in = inr (Contains-from_filter p calls a a_in).0
