use Rattle.cli_follow.proofs.Common.{◌≡◌, List, ℕ, [], ◌∷◌, ◌++◌, ◌∙◌, subst, IfOk, string_bytes, HasTaken}
use Rattle.cli_follow.proofs.line_follower.LineFollower.take_written.Goals as goal

pub returns-in-Ok-clause-added : goal.returns-in-Ok-clause-added
returns-in-Ok-clause-added c = λ budget lines next same added.
    let is : string_bytes c.in-Ok.line ≡ next = subst (λ r. IfOk r (λ text. string_bytes text ≡ next)) c.in-Ok.is same in
    subst (λ (line : List ℕ). HasTaken budget (lines ++ line ∷ []) c.take_line.result) (c.as_bytes.ensures.value ∙ is)
    (c.take_line.ensures.added budget lines added)

pub returns-in-Err-clause-added : goal.returns-in-Err-clause-added
returns-in-Err-clause-added c = λ budget lines next same added. c.out_of_memory.ensures.added budget lines next added
