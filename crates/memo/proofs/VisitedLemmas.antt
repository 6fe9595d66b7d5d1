-- A form is among those visited exactly if the test of two forms finds it there.
use Rattle.memo.proofs.Common.{List, Contains, list_any, Decides, Kept, is_kept_same, Decides-is_kept_same, is_kept_same-equivalence}
use Rattle.std.proofs.lemmas.Map.Views.{Contains-from_any, list_any-from_Contains}

-- the test decides whether a form is among those that were stored
pub Decides-visited : (visited : List Kept) (kept : Kept) → Decides (list_any (is_kept_same kept) visited) (Contains visited kept)
Decides-visited visited kept =
    (Contains-from_any (λ a b. (Decides-is_kept_same a b).0) kept visited, list_any-from_Contains is_kept_same-equivalence kept visited)
