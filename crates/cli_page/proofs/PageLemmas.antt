-- An answer to the text that was read is one to the whole.
use Rattle.std.proofs.Common.{ℕ, ◌+◌, List, take, subst}
use Rattle.history_text.specs.Limits.{text_limit}
use Rattle.cli_outcome.specs.declared.outcome.Answer.{Answer}
use Rattle.cli_outcome.proofs.WholeText.{same_text}
use Rattle.cli_page.specs.Answers.{IsPageAnswer}

pub IsPageAnswer-whole : (budget : ℕ) (text : List ℕ) (answer : Answer) (bytes : List ℕ)
    → IsPageAnswer budget (take (text_limit + 1) text) answer bytes → IsPageAnswer budget text answer bytes
IsPageAnswer-whole budget text answer bytes h =
    subst (λ (t : List ℕ). IsPageAnswer budget t answer bytes) (same_text text_limit text h.is_judged.judged.spelled.json.fits) h
