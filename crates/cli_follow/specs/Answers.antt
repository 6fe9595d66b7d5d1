-- What the program answers to the lines of a stream.
use Rattle.std.specs.Prelude.{◌≡◌, ◌⊎◌, ℕ, ◌+◌, ◌<◌, List, [], ◌∷◌, ◌++◌, length, Some, MatchOption}
use Rattle.serde_json.specs.Written.{compact_text}
use Rattle.events.specs.HistoryView.{HistoryView}
use Rattle.events.specs.declared.event.Reply.{Reply}
use Rattle.events.specs.declared.event.Event.{Event}
use Rattle.events.specs.declared.event.Event.TheVariants.{Answer}
use Rattle.events.specs.declared.operation.Operation.{Operation}
use Rattle.events.specs.Events.{IsWellFormed}
use Rattle.events.specs.Operations.{operations}
use Rattle.orders.specs.Orders.{IsLinearizable}
use Rattle.map_object.specs.MapObject.{Contents}
use Rattle.history_text.specs.declared.version.TextVersion.{TextVersion}
use Rattle.history_text.specs.Limits.{text_limit}
use Rattle.explain_histories.specs.SmallHistories.{AreOfNoHistory, IsSmallHistory, IsWrittenAs, text_of}
use Rattle.stream_text.specs.Cuts.{lines_of}
use Rattle.stream_text.specs.Lines.{SpellsEvent}
use Rattle.follow_parts.specs.Keeping.{pasts_of}
use Rattle.follow_violations.specs.declared.lost_keys.KeyViolation.{KeyViolation}
use Rattle.follow_violations.specs.declared.loss.Violation.{Violation}
use Rattle.follow_violations.specs.KeyLosses.{AreKeyLosses}
use Rattle.follow_violations.specs.OwnParts.{key_core}
use Rattle.follow_monitor.specs.Outcomes.{IsLost, IsSpent}
use Rattle.cli_outcome.specs.declared.outcome.Answer as outcomes
use Rattle.cli_outcome.specs.declared.outcome.Answer.TheVariants as verdicts
use Rattle.cli_outcome.specs.Lines.{line}
use Rattle.cli_follow.specs.StreamTexts.{SpellStream}
use Rattle.cli_outcome.specs.Overlaps.{overlap_of}
use Rattle.cli_outcome.specs.Hints.{yes_hint}
use Rattle.cli_follow.specs.Refusals.{stream_fault_line, StopsFor}
use Rattle.cli_follow.specs.Reports.{yes_line, lost_data, spent_data}

-- all lines spell a stream, whose events have an order; the hint is that on its calls and how much
-- they overlap
pub record IsWholeAnswer (lines : List (List ℕ)) (bytes hint : List ℕ) : Type 0 where
  pub stream : HistoryView
  pub version : TextVersion
  pub spelled : SpellStream version lines stream
  pub well_formed : IsWellFormed stream.events
  pub linearizable : IsLinearizable stream.start (operations stream.events)
  pub bytes_are : bytes ≡ yes_line (length (operations stream.events)) (overlap_of stream.events)
  pub hint_is : hint ≡ yes_hint (length (operations stream.events)) (overlap_of stream.events)

-- what an answer of a process makes of events from some pairs
abbrev pub Judgement : Type 1
Judgement = Contents → List Event → ℕ → Reply → Type 0

-- the lines begin with those of a stream whose events have an order, and the next one is an answer
-- that was judged
pub record IsJudgedAnswer (lines : List (List ℕ)) (IsWhat : Judgement) : Type 0 where
  pub stream : HistoryView
  pub version : TextVersion
  pub read : List (List ℕ)
  pub next : List ℕ
  pub rest : List (List ℕ)
  pub parts : lines ≡ read ++ next ∷ rest
  pub spelled : SpellStream version read stream
  pub well_formed : IsWellFormed stream.events
  pub linearizable : IsLinearizable stream.start (operations stream.events)
  pub process : ℕ
  pub reply : Reply
  pub answer : SpellsEvent version next (Answer process reply)
  pub judged : IsWhat stream.start stream.events process reply

-- the events go wrong at this answer, whatever follows: no past of the part that is stored with it
-- has an order
abbrev pub GoesWrongHere : List (List ℕ) → Violation → Type 0
GoesWrongHere lines loss = IsJudgedAnswer lines (λ start events process reply. IsLost start events process reply loss)

-- it is not known whether they do: the search of a past of that part is beyond this budget
abbrev pub IsDoubtedHere : ℕ → List (List ℕ) → Violation → Type 0
IsDoubtedHere budget lines loss = IsJudgedAnswer lines (λ start events process reply. IsSpent start events process reply budget loss)

-- the line of the text of a history; nothing if the text would be too long
abbrev pub IsHistoryLine : HistoryView → List ℕ → Type 0
IsHistoryLine history bytes =
    ((bytes ≡ []) × (text_limit < length (text_of history))) ⊎ ((text : List ℕ) × (bytes ≡ line text) × IsWrittenAs history text)

-- the line of a history of calls that have no order; nothing if no history has these calls
abbrev pub IsSmallLine : Contents → List Operation → List ℕ → Type 0
IsSmallLine start calls bytes =
    ((bytes ≡ []) × AreOfNoHistory start calls)
    ⊎ ((history : HistoryView) × IsSmallHistory start calls history × IsHistoryLine history bytes)

-- What is printed if the events go wrong: the losses of the keys of the part without an order. If
-- the part has one past, the line of a history of its calls follows.
pub record IsLostText (loss : Violation) (bytes : List ℕ) : Type 0 where
  pub losses : List KeyViolation
  pub are_losses : AreKeyLosses (Some loss.call) (pasts_of loss.part) loss.puts.items losses
  pub small : List ℕ
  pub small_is : MatchOption (key_core loss) (small ≡ []) (λ part. IsSmallLine part.start part.calls small)
  pub bytes_are : bytes ≡ line (compact_text (lost_data loss.event loss.number losses)) ++ small

-- what is printed if it is not known whether they do: the losses of the keys of the part
pub record IsSpentText (loss : Violation) (bytes : List ℕ) : Type 0 where
  pub losses : List KeyViolation
  pub are_losses : AreKeyLosses (Some loss.call) (pasts_of loss.part) loss.puts.items losses
  pub bytes_are : bytes ≡ line (compact_text (spent_data loss.event loss.number losses))

-- `follow` has this answer to the lines at the budget, with this hint; only a yes may have a hint
abbrev pub IsLinesAnswer : ℕ → List (List ℕ) → outcomes.Answer → List ℕ → List ℕ → Type 0
IsLinesAnswer budget lines verdicts.Yes bytes hint = IsWholeAnswer lines bytes hint
IsLinesAnswer budget lines verdicts.No bytes hint =
    (loss : Violation) × GoesWrongHere lines loss × IsLostText loss bytes × (hint ≡ [])
IsLinesAnswer budget lines verdicts.Undecided bytes hint =
    (loss : Violation) × IsDoubtedHere budget lines loss × IsSpentText loss bytes × (hint ≡ [])

-- `follow` refuses the lines with this line and this hint: it follows some, and stops at the next
pub record IsLinesRefusal (lines : List (List ℕ)) (bytes hint : List ℕ) : Type 0 where
  pub stream : HistoryView
  pub version : TextVersion
  pub read : List (List ℕ)
  pub more : List (List ℕ)
  pub parts : lines ≡ read ++ more
  pub spelled : SpellStream version read stream
  pub well_formed : IsWellFormed stream.events
  pub linearizable : IsLinearizable stream.start (operations stream.events)
  pub name : List ℕ
  pub stops : StopsFor read version stream.events more name hint
  pub bytes_are : bytes ≡ stream_fault_line (length read + 1) name

-- `follow` answers and refuses a text as it answers and refuses its lines
abbrev pub IsFollowAnswer : ℕ → List ℕ → outcomes.Answer → List ℕ → List ℕ → Type 0
IsFollowAnswer budget text answer bytes hint = IsLinesAnswer budget (lines_of text) answer bytes hint

abbrev pub IsStreamRefusal : List ℕ → List ℕ → List ℕ → Type 0
IsStreamRefusal text bytes hint = IsLinesRefusal (lines_of text) bytes hint
