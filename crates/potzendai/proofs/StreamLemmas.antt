-- What the status of a stream says of its lines.
use Rattle.potzendai.proofs.Common.{◌≡◌, ℕ, List, [], ◌∷◌, ◌++◌, Some, sym, ◌∙◌, subst, append_assoc, with_event, operations, IsLinearizable, Yes, No}
use Rattle.potzendai.proofs.Common.{Undecided, CommandOutcome, Answered, Noted, Refused, Memory, Words, Failed, lines_of, status_of, SpellLinearizable}
use Rattle.potzendai.proofs.Common.{BeginUnlinearizable}
use Rattle.events.specs.declared.event.Event.{Event}
use Rattle.follow_violations.specs.declared.loss.Violation.{Violation}
use Rattle.cli_follow.specs.Answers.{GoesWrongHere}
use Rattle.cli_follow.specs.Outcomes.{IsStreamOutcome}
use Rattle.cli_follow.proofs.StreamLemmas.{SpellStream-push}
use Rattle.events.specs.declared.event.Event.TheVariants as events

-- the events before the wrong answer, with it, have no order
wrong_lines : (lines : List (List ℕ)) (loss : Violation) → GoesWrongHere lines loss → BeginUnlinearizable lines
wrong_lines lines loss at =
    let answer = events.Answer at.process at.reply in
    record {
      stream = with_event at.stream answer;
      version = at.version;
      first = at.read ++ at.next ∷ [];
      rest = at.rest;
      parts = at.parts ∙ sym (append_assoc at.read (at.next ∷ []) at.rest);
      spelled = SpellStream-push at.version at.read at.stream at.next answer at.spelled at.answer;
      refuted = λ more has_order. (at.judged.wrong more).0
          (subst (λ (all : List Event). IsLinearizable at.stream.start (operations all))
          (append_assoc at.stream.events (answer ∷ []) more) has_order);
    }

-- the status of yes is that of lines with an order
pub yes_has_order : (budget : ℕ) (text : List ℕ) (outcome : CommandOutcome) → IsStreamOutcome budget (Some text) outcome
    → status_of outcome ≡ 0 → SpellLinearizable (lines_of text)
yes_has_order budget text (Answered Yes bytes) comes is = record {
  stream = comes.stream;
  version = comes.version;
  spelled = comes.spelled;
  well_formed = comes.well_formed;
  linearizable = comes.linearizable;
}
yes_has_order budget text (Answered No bytes) comes is = cc
yes_has_order budget text (Answered Undecided bytes) comes is = cc
yes_has_order budget text (Noted Yes bytes note) comes is = record {
  stream = comes.stream;
  version = comes.version;
  spelled = comes.spelled;
  well_formed = comes.well_formed;
  linearizable = comes.linearizable;
}
yes_has_order budget text (Noted No bytes note) comes is = cc
yes_has_order budget text (Noted Undecided bytes note) comes is = cc
yes_has_order budget text (Refused bytes hint) comes is = cc
yes_has_order budget text Memory comes is = cc
yes_has_order budget text (Words bytes) comes is = cc
yes_has_order budget text Failed comes is = cc

-- the status of no is that of lines without
pub no_has_none : (budget : ℕ) (text : List ℕ) (outcome : CommandOutcome) → IsStreamOutcome budget (Some text) outcome
    → status_of outcome ≡ 1 → BeginUnlinearizable (lines_of text)
no_has_none budget text (Answered Yes bytes) comes is = cc
no_has_none budget text (Answered No bytes) comes is = wrong_lines (lines_of text) comes.0 comes.1
no_has_none budget text (Answered Undecided bytes) comes is = cc
no_has_none budget text (Noted Yes bytes note) comes is = cc
no_has_none budget text (Noted No bytes note) comes is = wrong_lines (lines_of text) comes.0 comes.1
no_has_none budget text (Noted Undecided bytes note) comes is = cc
no_has_none budget text (Refused bytes hint) comes is = cc
no_has_none budget text Memory comes is = cc
no_has_none budget text (Words bytes) comes is = cc
no_has_none budget text Failed comes is = cc
