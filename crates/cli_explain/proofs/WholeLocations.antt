-- An answer of `locate` to the text that was read is one to the whole text, with an order or without.
use Rattle.cli_explain.proofs.Common.{ℕ, ◌+◌, Bool, true, false, List, take, subst, text_limit, Answer, IsTextOf, IsLocateAnswer, IsLocateAnswerWith}
use Rattle.cli_explain.proofs.Common.{IsLocateOrderAnswer}
use Rattle.cli_outcome.proofs.WholeText.{same_text}

pub IsLocateAnswer-whole : (budget : ℕ) (text : List ℕ) (answer : Answer) (bytes : List ℕ)
    → IsLocateAnswer budget (take (text_limit + 1) text) answer bytes
    → IsLocateAnswer budget text answer bytes
IsLocateAnswer-whole budget text answer bytes h = record {
  history = h.history;
  location = h.location;
  is_text = subst (λ (t : List ℕ). IsTextOf t h.history) (same_text text_limit text h.is_text.spelled.json.fits) h.is_text;
  located = h.located;
  answer_is = h.answer_is;
  bytes_are = h.bytes_are;
}

pub IsLocateOrderAnswer-whole : (budget : ℕ) (text : List ℕ) (answer : Answer) (bytes : List ℕ)
    → IsLocateOrderAnswer budget (take (text_limit + 1) text) answer bytes
    → IsLocateOrderAnswer budget text answer bytes
IsLocateOrderAnswer-whole budget text answer bytes (order, h) = (
  order,
  record {
    history = h.history;
    location = h.location;
    is_text = subst (λ (t : List ℕ). IsTextOf t h.history) (same_text text_limit text h.is_text.spelled.json.fits) h.is_text;
    ordered = h.ordered;
    answer_is = h.answer_is;
    bytes_are = h.bytes_are;
  },
)

pub IsLocateAnswerWith-whole : (order : Bool) (budget : ℕ) (text : List ℕ) (answer : Answer) (bytes : List ℕ)
    → IsLocateAnswerWith order budget (take (text_limit + 1) text) answer bytes
    → IsLocateAnswerWith order budget text answer bytes
IsLocateAnswerWith-whole false = IsLocateAnswer-whole
IsLocateAnswerWith-whole true = IsLocateOrderAnswer-whole
