use Rattle.std.proofs.Common.{ℕ, List, refl, subst}
use Rattle.follow_cuts.proofs.EndLemmas.{NotTied, are_branch_keys}
use Rattle.follow_cuts.proofs.branching.branch_keys.Goals as goal

pub returns-in_default-tying_call : goal.returns-in_default-tying_call
returns-in_default-tying_call c =
    are_branch_keys c.args.calls.now c.args.position.now c.args.answered c.args.ended.now c.in-Some.first c.loop.keys.items
    c.in-Some.ensures c.loop.invariant
    (subst (λ (l : List ℕ). NotTied c.args.calls.now c.args.position.now c.args.answered l) c.deref.ensures.value
    (c.in_default-tying_call.ensures.none refl))
