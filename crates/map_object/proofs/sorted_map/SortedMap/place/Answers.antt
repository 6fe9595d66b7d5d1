use Rattle.std.proofs.Common.{rules}
use Rattle.std.proofs.lemmas.List.Sorted.{answers_always}
use Rattle.map_object.proofs.PlaceLemmas.{searched}
use Rattle.map_object.proofs.sorted_map.SortedMap.place.Goals as goal

-- the closure gives a pair's key, and the slice is the map's pairs
pub returns : goal.returns
returns c =
    let facts = c.binary_search_by_key.ensures in
    let by_key = facts.position (λ pair. pair.0) (answers_always _ _ _ (λ f a r g called. search rules)) in
    rw (← c.self.view_is, ← c.deref.ensures.value)
    (searched c.deref.result.now (rw c.deref.ensures.value c.self.invariant) c.args.key c.binary_search_by_key.result facts.bound by_key)
