use Rattle.explain_shrink.proofs.Common.{ℕ, subst, All, IsUnshown, sizes_tried}
use Rattle.explain_shrink.proofs.losing.explanation_at.Goals as goal

pub returns : goal.returns
returns c =
    subst (λ (few : ℕ). All (IsUnshown c.args.map.now few c.args.calls.now) sizes_tried) c.few_configurations-few.ensures
    (rw c.in-None.is at c.in_ok-shown.ensures)
