-- The keys of the entries of the leaves.
use Rattle.packed_map.proofs.Common.{◌≤◌, ◌<◌, ℕ, List, subst, sym, ◌↔◌, AllPairs, Contains, IsSome, value_at, entries_of, keys_between}
use Rattle.std.specs.Prelude.{◌≡◌}
use Rattle.packed_map.proofs.RangeLemmas.{between_each, between_rise, if_ok}
use Rattle.packed_map.proofs.packed.PackedMap.keys_within.Goals as goal

pub returns-clause-rising : goal.returns-clause-rising
returns-clause-rising g c =
    let low = c.args.low in
    let high = c.args.high in
    let es = entries_of c.self.inside.leaves.items in
    if_ok c.keys_of.result (λ keys. keys.items ≡ keys_between low high es) (λ keys. AllPairs (λ k l. k < l) keys.items)
    (λ keys is. subst (λ (ks : List ℕ). AllPairs (λ k l. k < l) ks) (sym is) (between_rise low high es c.self.invariant.rising))
    (rw c.deref.ensures.value at c.keys_of.ensures)

pub returns-clause-each : goal.returns-clause-each
returns-clause-each g c =
    let low = c.args.low in
    let high = c.args.high in
    let es = entries_of c.self.inside.leaves.items in
    rw (← c.self.view_is)
    (if_ok c.keys_of.result (λ keys. keys.items ≡ keys_between low high es)
    (λ keys. (key : ℕ) → Contains keys.items key ↔ ((low ≤ key) × (key ≤ high) × IsSome (value_at es key)))
    (λ keys is key. subst (λ (ks : List ℕ). Contains ks key ↔ ((low ≤ key) × (key ≤ high) × IsSome (value_at es key))) (sym is)
    (between_each low high es key)) (rw c.deref.ensures.value at c.keys_of.ensures))
