-- The closure gives an entry's key.
use Rattle.std.proofs.Common.{rules}
use Rattle.std.proofs.lemmas.List.Sorted.{answers_always}
use Rattle.packed_map.proofs.searching.search_by_halves.Goals as goal

pub returns-clause-position : goal.returns-clause-position
returns-clause-position g c =
    c.binary_search_by_key.ensures.position (λ entry. entry.0) (answers_always _ _ _ (λ f a r h called. search rules))
