-- An explanation is an outcome of the text, and an answer to the text that was read is one to the whole.
use Rattle.cli_explain.proofs.Common.{ℕ, ◌+◌, List, take, text_limit, IsTextOf-whole, IsExplainAnswer, Answer}

pub IsExplainAnswer-whole : (budget : ℕ) (text : List ℕ) (answer : Answer) (bytes : List ℕ)
    → IsExplainAnswer budget (take (text_limit + 1) text) answer bytes
    → IsExplainAnswer budget text answer bytes
IsExplainAnswer-whole budget text answer bytes h = record {
  history = h.history;
  is_text = IsTextOf-whole text h.history h.is_text;
  explains = h.explains;
}
