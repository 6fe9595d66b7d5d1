-- The keys of the entries of the leaves.
use Rattle.packed_map.proofs.Common.{◌<◌, ◌≡◌, ℕ, List, map, subst, sym, ◌↔◌, AllPairs, Contains, IsSome, value_at, entries_of}
use Rattle.packed_map.proofs.RangeLemmas.{all_each, all_rise, if_ok}
use Rattle.packed_map.proofs.packed.PackedMap.keys.Goals as goal

pub returns-clause-rising : goal.returns-clause-rising
returns-clause-rising g c =
    let es = entries_of c.self.inside.leaves.items in
    if_ok c.all_keys.result (λ keys. keys.items ≡ map (λ e. e.0) es) (λ keys. AllPairs (λ k l. k < l) keys.items)
    (λ keys is. subst (λ (ks : List ℕ). AllPairs (λ k l. k < l) ks) (sym is) (all_rise es c.self.invariant.rising))
    (rw c.deref.ensures.value at c.all_keys.ensures)

pub returns-clause-each : goal.returns-clause-each
returns-clause-each g c =
    let es = entries_of c.self.inside.leaves.items in
    rw (← c.self.view_is)
    (if_ok c.all_keys.result (λ keys. keys.items ≡ map (λ e. e.0) es) (λ keys. (key : ℕ) → Contains keys.items key ↔ IsSome (value_at es key))
    (λ keys is key. subst (λ (ks : List ℕ). Contains ks key ↔ IsSome (value_at es key)) (sym is) (all_each es key))
    (rw c.deref.ensures.value at c.all_keys.ensures))
