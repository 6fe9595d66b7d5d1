use Rattle.std.proofs.Common.{rules}
use Rattle.std.proofs.lemmas.List.Sorted.{answers_always}
use Rattle.map_object.proofs.PlaceLemmas.{searched}
use Rattle.memo.proofs.differences.place.Goals as goal

-- the closure gives a pair's key
pub returns : goal.returns
returns c =
    let facts = c.binary_search_by_key.ensures in
    let by_key = facts.position (λ pair. pair.0) (answers_always _ _ _ (λ f a r g called. search rules)) in
    searched c.args.pairs.now c.requires c.args.key c.binary_search_by_key.result facts.bound by_key
