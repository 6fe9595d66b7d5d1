-- Why a line of a stream is refused, as the program says it.
use Rattle.stream_text.specs.declared.line_fault.LineFault.TheVariants as lines
use Rattle.follow_monitor.specs.declared.fault.FollowFault.TheVariants as turns
use Rattle.std.specs.Prelude.{◌≡◌, ◌≢◌, ◌⊎◌, ℕ, ◌-◌, ◌^◌, List, [], ◌∷◌, ◌++◌, length, Option, Some, codes, decimal}
use Rattle.events.specs.declared.event.Event.{Event}
use Rattle.events.specs.declared.event.Event.TheVariants.{Invoke, Answer}
use Rattle.events.specs.HistoryView.{HistoryView}
use Rattle.events.specs.Histories.{IsHistory}
use Rattle.history_text.specs.Texts.{Spells}
use Rattle.history_text.specs.declared.version.TextVersion.{TextVersion}
use Rattle.stream_text.specs.declared.line_fault.LineFault.{LineFault}
use Rattle.stream_text.specs.Lines.{SpellsEvent}
use Rattle.stream_text.specs.LineFaults.{IsEventLineFault, IsFirstLineFault}
use Rattle.follow_monitor.specs.declared.fault.FollowFault.{FollowFault}
use Rattle.follow_monitor.specs.Faults.{invocation_fault, answer_fault}
use Rattle.cli_outcome.specs.Lines.{line}
use Rattle.cli_outcome.specs.Found.{found_hint}
use Rattle.cli_outcome.specs.Wanted.{expected_hint}
use Rattle.cli_follow.specs.Wanted.{too_many_expected, history_elsewhere, line_expected, order_expected_for}

-- how many lines are read at most
abbrev pub most_lines : ℕ
most_lines = 2 ^ 64 - 2

abbrev pub too_many_name : List ℕ
too_many_name = codes "5 TooMany"

-- the fault of a line
abbrev pub line_fault_name : LineFault → List ℕ
line_fault_name lines.TooLong = codes "1 TooLong"
line_fault_name lines.NotJson = codes "2 NotJson"
line_fault_name lines.Version = codes "3 Version"
line_fault_name lines.Shape = codes "4 Shape"
line_fault_name lines.TooMany = too_many_name
line_fault_name lines.Memory = codes "7 Memory"
line_fault_name (lines.Start pair) = codes "8 Start at pair " ++ decimal pair

-- the fault of an event after others
abbrev pub turn_fault_name : FollowFault → List ℕ
turn_fault_name turns.Shape = codes "4 Shape"
turn_fault_name turns.NotWellFormed = codes "6 NotWellFormed"
turn_fault_name turns.TooMany = too_many_name
turn_fault_name turns.Memory = codes "7 Memory"

-- the hint on a line with a fault: the line, unless it is too long, and what was expected
abbrev pub line_fault_hint : List ℕ → LineFault → List ℕ
line_fault_hint next lines.TooLong = expected_hint (line_expected lines.TooLong)
line_fault_hint next fault = found_hint next (line_expected fault)

-- the line is the text of a history
abbrev pub IsHistoryLine : List ℕ → Type 0
IsHistoryLine next = (history : HistoryView) × Spells next history × IsHistory history

-- the hint on a first line with a fault: if it does not have the shape of a line, and is a history,
-- the hint says which subcommands read histories
abbrev pub IsFirstHint : List ℕ → LineFault → List ℕ → Type 0
IsFirstHint next lines.Shape hint =
    (IsHistoryLine next × (hint ≡ found_hint next history_elsewhere))
    ⊎ ((IsHistoryLine next → ⊥) × (hint ≡ line_fault_hint next lines.Shape))
IsFirstHint next fault hint = hint ≡ line_fault_hint next fault

-- the hint on a line after these
abbrev pub IsHintAfter : List (List ℕ) → List ℕ → LineFault → List ℕ → Type 0
IsHintAfter [] next fault hint = IsFirstHint next fault hint
IsHintAfter (line ∷ lines) next fault hint = hint ≡ line_fault_hint next fault

-- the hint on an event with a fault: its line, and what was expected
abbrev pub turn_fault_hint : List ℕ → FollowFault → List ℕ
turn_fault_hint next fault = found_hint next (order_expected_for fault)

-- the hint if there are too many lines
abbrev pub too_many_hint : List ℕ
too_many_hint = expected_hint too_many_expected

-- the line of a fault; lines of a stream are numbered from 1
abbrev pub stream_fault_line : ℕ → List ℕ → List ℕ
stream_fault_line number name = line (codes "stream: line " ++ decimal number ++ codes ": " ++ name)

-- what is wrong with an event after these
abbrev pub turn_fault : List Event → Event → Option FollowFault
turn_fault events (Invoke process call) = invocation_fault events process call
turn_fault events (Answer process reply) = answer_fault events process

-- the fault of a line after these: a first one may spell starting pairs
abbrev pub IsLineFaultAfter : List (List ℕ) → TextVersion → List ℕ → LineFault → Type 0
IsLineFaultAfter [] version next fault = IsFirstLineFault next fault
IsLineFaultAfter (line ∷ lines) version next fault = IsEventLineFault version next fault

-- the next line spells nothing that may follow these
pub record IsFaulty (read : List (List ℕ)) (version : TextVersion) (more : List (List ℕ)) (name hint : List ℕ) : Type 0 where
  pub next : List ℕ
  pub rest : List (List ℕ)
  pub parts : more ≡ next ∷ rest
  pub fault : LineFault
  pub is_fault : IsLineFaultAfter read version next fault
  pub not_memory : fault ≢ lines.Memory
  pub name_is : name ≡ line_fault_name fault
  pub hint_is : IsHintAfter read next fault hint

-- the next line spells an event that is out of turn
pub record IsOutOfTurn (version : TextVersion) (events : List Event) (more : List (List ℕ)) (name hint : List ℕ) : Type 0 where
  pub next : List ℕ
  pub rest : List (List ℕ)
  pub parts : more ≡ next ∷ rest
  pub event : Event
  pub spelled : SpellsEvent version next event
  pub fault : FollowFault
  pub is_fault : turn_fault events event ≡ Some fault
  pub name_is : name ≡ turn_fault_name fault
  pub hint_is : hint ≡ turn_fault_hint next fault

-- no more lines may be read
pub record AreMany (read : List (List ℕ)) (name hint : List ℕ) : Type 0 where
  pub count : length read ≡ most_lines
  pub name_is : name ≡ too_many_name
  pub hint_is : hint ≡ too_many_hint

-- why reading stops after these lines, which spell these events
abbrev pub StopsFor : List (List ℕ) → TextVersion → List Event → List (List ℕ) → List ℕ → List ℕ → Type 0
StopsFor read version events more name hint =
    IsFaulty read version more name hint ⊎ IsOutOfTurn version events more name hint ⊎ AreMany read name hint
