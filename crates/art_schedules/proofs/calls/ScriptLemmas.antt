-- Each call of a plan's scripts is one of a tree.
use Rattle.art_schedules.proofs.Common.{◌≡◌, ℕ, true, List, length, refl, slice_get, IsTrue, All, Option, Some, None, none-some, All-at, Call}
use Rattle.art_schedules.proofs.Common.{is_tree_call, Process, Plan, begun, next_call}
use Rattle.art_core.specs.Core.{next_in}

abbrev pub AreTreeCalls : List (List Call) → Type 0
AreTreeCalls scripts = All (λ script. All (λ call. IsTrue (is_tree_call call)) script) scripts

-- the next call is one of the script
pub next-tree : (plan : Plan) → AreTreeCalls plan.scripts → (p : ℕ) (q : Process) (call : Call) → next_call plan p q ≡ Some call
    → is_tree_call call ≡ true
next-tree plan calls p q call e = go (slice_get plan.scripts p) refl e
  where
    go : (o : Option (List Call)) → slice_get plan.scripts p ≡ o → next_in o (length (begun q)) ≡ Some call → is_tree_call call ≡ true
    go None f g = absurd (none-some call g)
    go (Some script) f g = (All-at (λ call. IsTrue (is_tree_call call)) script (length (begun q)) call
        (All-at (λ script. All (λ call. IsTrue (is_tree_call call)) script) plan.scripts p script calls f) g)
