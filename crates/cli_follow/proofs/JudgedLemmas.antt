-- The outcomes of an answer that was judged, and of the end of the lines.
use Rattle.cli_follow.proofs.Common.{◌≡◌, ℕ, List, [], ◌∷◌, ◌++◌, length, Option, Some, None, refl, sym, subst, string_bytes, Reply, Answer}
use Rattle.cli_follow.proofs.Common.{lines_of, SpellsEvent, Violation, IsLost, IsSpent, CommandOutcome, Answered, Noted, Refused, Memory, Words, Failed}
use Rattle.cli_follow.proofs.Common.{Followed, IsFollowed, SpellStream, BeginsWith, yes_line, AreLinesOf, IsAnsweredWith, IsYesOutcome}
use Rattle.cli_follow.proofs.Common.{IsLostOutcome, IsSpentOutcome, IsWholeAnswer, Judgement, IsJudgedAnswer, IsLostText, IsSpentText}
use Rattle.cli_follow.proofs.Common.{IsFollowAnswer, IsStreamOutcome}
use Rattle.events.specs.Operations.{operations}
use Rattle.cli_outcome.specs.declared.outcome.Answer.TheVariants.{Yes, No, Undecided}
use Rattle.cli_outcome.specs.Overlaps.{overlap_of}
use Rattle.cli_outcome.specs.Hints.{yes_hint}
use Rattle.cli_follow.proofs.RefusalLemmas.{next_of}
use Rattle.cli_outcome.specs.declared.outcome.Answer as answers

-- the answer of the next line, as it was judged
judged_of : (text : List ℕ) (read rest : List (List ℕ)) (next : List ℕ) (f : Followed) (process : ℕ) (reply : Reply)
    (IsWhat : Judgement) (followed : IsFollowed read f) → SpellsEvent f.version next (Answer process reply)
    → lines_of text ≡ (read ++ next ∷ []) ++ rest → IsWhat followed.stream.start followed.stream.events process reply
    → IsJudgedAnswer (lines_of text) IsWhat
judged_of text read rest next f process reply IsWhat followed spelled parts judged = record {
  stream = followed.stream;
  version = f.version;
  read = read;
  next = next;
  rest = rest;
  parts = next_of text read rest next parts;
  spelled = followed.spelled;
  well_formed = followed.follows.well_formed;
  linearizable = followed.follows.linearizable;
  process = process;
  reply = reply;
  answer = spelled;
  judged = judged;
}

-- this answer with such bytes, to any text that begins with these lines
answered_with : (budget : ℕ) (known : Option (List ℕ)) (lines : List (List ℕ)) (answer : answers.Answer) (IsText : List ℕ → Type 0)
    (outcome : CommandOutcome) → BeginsWith known lines → IsAnsweredWith answer IsText outcome
    → ((text bytes : List ℕ) → BeginsWith (Some text) lines → IsText bytes → IsFollowAnswer budget text answer bytes [])
    → IsStreamOutcome budget known outcome
answered_with budget known lines answer IsText Memory begins is made = tt
answered_with budget known lines answer IsText (Refused bytes hint) begins is made = absurd is
answered_with budget known lines answer IsText (Noted given bytes note) begins is made = absurd is
answered_with budget known lines answer IsText (Words bytes) begins is made = absurd is
answered_with budget known lines answer IsText Failed begins is made = absurd is
answered_with budget None lines answer IsText (Answered given bytes) begins is made = tt
answered_with budget (Some text) lines answer IsText (Answered given bytes) begins is made =
    subst (λ (a : answers.Answer). IsFollowAnswer budget text a (string_bytes bytes) []) (sym is.0)
    (made text (string_bytes bytes) begins is.1)

pub lost_at : (budget : ℕ) (known : Option (List ℕ)) (read : List (List ℕ)) (next : List ℕ) (f : Followed) (process : ℕ)
    (reply : Reply) (loss : Violation) (outcome : CommandOutcome) (followed : IsFollowed read f) → SpellsEvent f.version next (Answer process reply)
    → BeginsWith known (read ++ next ∷ [])
    → IsLost followed.stream.start followed.stream.events process reply loss
    → IsLostOutcome loss outcome → IsStreamOutcome budget known outcome
lost_at budget known read next f process reply loss outcome followed spelled begins judged is =
    answered_with budget known (read ++ next ∷ []) No (IsLostText loss) outcome begins is (λ text bytes begins is. (
      loss,
      judged_of text read begins.0 next f process reply (λ start events process reply. IsLost start events process reply loss)
          followed spelled begins.1 judged,
      is,
      refl,
    ))

pub spent_at : (budget : ℕ) (known : Option (List ℕ)) (read : List (List ℕ)) (next : List ℕ) (f : Followed) (process : ℕ)
    (reply : Reply) (loss : Violation) (outcome : CommandOutcome) (followed : IsFollowed read f)
    → SpellsEvent f.version next (Answer process reply) → BeginsWith known (read ++ next ∷ [])
    → IsSpent followed.stream.start followed.stream.events process reply budget loss
    → IsSpentOutcome loss outcome → IsStreamOutcome budget known outcome
spent_at budget known read next f process reply loss outcome followed spelled begins judged is =
    answered_with budget known (read ++ next ∷ []) Undecided (IsSpentText loss) outcome begins is (λ text bytes begins is. (
      loss,
      judged_of text read begins.0 next f process reply (λ start events process reply. IsSpent start events process reply budget loss)
          followed spelled begins.1 judged,
      is,
      refl,
    ))

-- what is said of a yes, by its calls and how much they overlap
abbrev IsSaid : ℕ → ℕ → List ℕ → List ℕ → Type 0
IsSaid calls overlap bytes hint = (bytes ≡ yes_line calls overlap) × (hint ≡ yes_hint calls overlap)

-- all lines were read
whole_of : (text : List ℕ) (read : List (List ℕ)) (f : Followed) (bytes note : List ℕ) (followed : IsFollowed read f)
    → lines_of text ≡ read → IsSaid (length (operations followed.stream.events)) (overlap_of followed.stream.events) bytes note
    → IsWholeAnswer (lines_of text) bytes note
whole_of text read f bytes note followed lines is = record {
  stream = followed.stream;
  version = f.version;
  spelled = subst (λ (ls : List (List ℕ)). SpellStream f.version ls followed.stream) (sym lines) followed.spelled;
  well_formed = followed.follows.well_formed;
  linearizable = followed.follows.linearizable;
  bytes_are = is.0;
  hint_is = is.1;
}

-- a yes that was given
yes_of : (budget : ℕ) (text : List ℕ) (read : List (List ℕ)) (f : Followed) (calls overlap : ℕ) (answer : answers.Answer)
    (bytes note : List ℕ) (followed : IsFollowed read f) → lines_of text ≡ read
    → calls ≡ length (operations followed.stream.events) → overlap ≡ overlap_of followed.stream.events → answer ≡ Yes
    → IsSaid calls overlap bytes note → IsFollowAnswer budget text answer bytes note
yes_of budget text read f calls overlap answer bytes note followed lines count many says is =
    subst (λ (a : answers.Answer). IsFollowAnswer budget text a bytes note) (sym says)
    (whole_of text read f bytes note followed lines
    (subst (λ (n : ℕ). IsSaid (length (operations followed.stream.events)) n bytes note) many
    (subst (λ (n : ℕ). IsSaid n overlap bytes note) count is)))

pub whole_at : (budget : ℕ) (known : Option (List ℕ)) (read : List (List ℕ)) (f : Followed) (calls overlap : ℕ) (outcome : CommandOutcome)
    (followed : IsFollowed read f) → AreLinesOf known read → calls ≡ length (operations followed.stream.events)
    → overlap ≡ overlap_of followed.stream.events → IsYesOutcome calls overlap outcome → IsStreamOutcome budget known outcome
whole_at budget known read f calls overlap Memory followed lines count many is = tt
whole_at budget known read f calls overlap (Refused bytes hint) followed lines count many is = absurd is
whole_at budget known read f calls overlap (Words bytes) followed lines count many is = absurd is
whole_at budget known read f calls overlap Failed followed lines count many is = absurd is
whole_at budget None read f calls overlap (Answered answer bytes) followed lines count many is = tt
whole_at budget None read f calls overlap (Noted answer bytes note) followed lines count many is = tt
whole_at budget (Some text) read f calls overlap (Answered answer bytes) followed lines count many is =
    yes_of budget text read f calls overlap answer (string_bytes bytes) [] followed lines count many is.0 (is.1, sym is.2)
whole_at budget (Some text) read f calls overlap (Noted answer bytes note) followed lines count many is =
    yes_of budget text read f calls overlap answer (string_bytes bytes) (string_bytes note) followed lines count many is.0 (is.1, is.2)
