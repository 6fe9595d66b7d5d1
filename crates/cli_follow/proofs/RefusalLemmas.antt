-- The outcome of a line that is refused.
use Rattle.follow_monitor.specs.declared.fault.FollowFault.TheVariants as turns
use Rattle.cli_follow.proofs.Common.{◌≡◌, ◌≢◌, ℕ, ◌+◌, ◌<◌, List, [], ◌∷◌, ◌++◌, length, Option, Some, None, refl, sym, ap, ◌∙◌, inl, inr}
use Rattle.cli_follow.proofs.Common.{append_assoc, arith, string_bytes, Event, TextVersion, lines_of, SpellsEvent, FollowFault, shown, CommandOutcome}
use Rattle.cli_follow.proofs.Common.{Answered, Noted, Refused, Memory, Words, Failed, Followed, IsFollowed, BeginsWith, line_fault_name}
use Rattle.cli_follow.proofs.Common.{turn_fault_name, turn_fault, stream_fault_line, IsLineFaultAfter, StopsFor, IsStreamRefusal, IsLineRefusal}
use Rattle.cli_follow.proofs.Common.{IsRefusalAfter, IsTurnRefusal, IsStreamOutcome}
use Rattle.stream_text.specs.declared.line_fault.LineFault.{LineFault}
use Rattle.stream_text.specs.LineFaults.{IsEventLineFault}

-- a text begins with lines that are followed, and stops after them
pub refusal_of : (text : List ℕ) (read more : List (List ℕ)) (f : Followed) (name bytes hint : List ℕ) (followed : IsFollowed read f)
    → lines_of text ≡ read ++ more
    → StopsFor read f.version followed.stream.events more name hint → bytes ≡ stream_fault_line (length read + 1) name
    → IsStreamRefusal text bytes hint
refusal_of text read more f name bytes hint followed parts stops is = record {
  stream = followed.stream;
  version = f.version;
  read = read;
  more = more;
  parts = parts;
  spelled = followed.spelled;
  well_formed = followed.follows.well_formed;
  linearizable = followed.follows.linearizable;
  name = name;
  stops = stops;
  bytes_are = is;
}

-- the line after some, and those after it
pub next_of : (text : List ℕ) (read rest : List (List ℕ)) (line : List ℕ) → lines_of text ≡ (read ++ line ∷ []) ++ rest
    → lines_of text ≡ read ++ line ∷ rest
next_of text read rest line h = h ∙ append_assoc read (line ∷ []) rest

pub numbered : (count number : ℕ) (name bytes : List ℕ) → count ≡ number → bytes ≡ stream_fault_line number name
    → bytes ≡ stream_fault_line count name
numbered count number name bytes same is = is ∙ ap (λ (n : ℕ). stream_fault_line n name) (sym same)

-- the next line has a fault
pub refused_at : (budget : ℕ) (known : Option (List ℕ)) (read : List (List ℕ)) (line : List ℕ) (f : Followed) (number : ℕ)
    (fault : LineFault) (outcome : CommandOutcome)
    → IsFollowed read f → length read + 1 ≡ number → IsLineFaultAfter read f.version line fault → BeginsWith known (read ++ line ∷ [])
    → IsRefusalAfter read number line fault outcome → IsStreamOutcome budget known outcome
refused_at budget known read line f number fault Memory followed count wrong begins is = tt
refused_at budget known read line f number fault (Answered answer bytes) followed count wrong begins is = absurd is
refused_at budget known read line f number fault (Noted answer bytes note) followed count wrong begins is = absurd is
refused_at budget known read line f number fault (Words bytes) followed count wrong begins is = absurd is
refused_at budget known read line f number fault Failed followed count wrong begins is = absurd is
refused_at budget None read line f number fault (Refused bytes hint) followed count wrong begins is = tt
refused_at budget (Some text) read line f number fault (Refused bytes hint) followed count wrong begins is =
    refusal_of text read (line ∷ begins.0) f (line_fault_name fault) (string_bytes bytes) (string_bytes hint) followed
    (next_of text read begins.0 line begins.1)
    (inl (record {
      next = line;
      rest = begins.0;
      parts = refl;
      fault = fault;
      is_fault = wrong;
      not_memory = is.0;
      name_is = refl;
      hint_is = is.2;
    })) (numbered (length read + 1) number (line_fault_name fault) (string_bytes bytes) count is.1)

-- the event of the next line is out of turn
pub refused_turn : (budget : ℕ) (known : Option (List ℕ)) (read : List (List ℕ)) (line : List ℕ) (f : Followed) (number : ℕ) (e : Event)
    (fault : FollowFault)
    (outcome : CommandOutcome) (followed : IsFollowed read f) → length read + 1 ≡ number → SpellsEvent f.version line e
    → (fault ≢ turns.Memory → turn_fault followed.stream.events e ≡ Some fault)
    → BeginsWith known (read ++ line ∷ []) → IsTurnRefusal number line fault outcome → IsStreamOutcome budget known outcome
refused_turn budget known read line f number e fault Memory followed count spelled wrong begins is = tt
refused_turn budget known read line f number e fault (Answered answer bytes) followed count spelled wrong begins is = absurd is
refused_turn budget known read line f number e fault (Noted answer bytes note) followed count spelled wrong begins is = absurd is
refused_turn budget known read line f number e fault (Words bytes) followed count spelled wrong begins is = absurd is
refused_turn budget known read line f number e fault Failed followed count spelled wrong begins is = absurd is
refused_turn budget None read line f number e fault (Refused bytes hint) followed count spelled wrong begins is = tt
refused_turn budget (Some text) read line f number e fault (Refused bytes hint) followed count spelled wrong begins is =
    refusal_of text read (line ∷ begins.0) f (turn_fault_name fault) (string_bytes bytes) (string_bytes hint) followed
    (next_of text read begins.0 line begins.1)
    (inr (inl (record {
      next = line;
      rest = begins.0;
      parts = refl;
      event = e;
      spelled = spelled;
      fault = fault;
      is_fault = wrong is.0;
      name_is = refl;
      hint_is = is.2;
    }))) (numbered (length read + 1) number (turn_fault_name fault) (string_bytes bytes) count is.1)

-- what an error shows of an event, unless memory ran out
pub shown_some : (fault : FollowFault) (seen : Option FollowFault) → seen ≡ shown fault → fault ≢ turns.Memory → seen ≡ Some fault
shown_some turns.Shape seen is other = is
shown_some turns.NotWellFormed seen is other = is
shown_some turns.TooMany seen is other = is
shown_some turns.Memory seen is other = absurd (other refl)

-- a line after others
pub later_fault : (read : List (List ℕ)) (version : TextVersion) (line : List ℕ) (fault : LineFault) → 0 < length read
    → IsEventLineFault version line fault
    → IsLineFaultAfter read version line fault
later_fault [] version line fault some wrong = absurd (omega arith)
later_fault (first ∷ read) version line fault some wrong = wrong

-- so its refusal is that of a line after others
pub later_refusal : (read : List (List ℕ)) (number : ℕ) (line : List ℕ) (fault : LineFault) (outcome : CommandOutcome) → 0 < length read
    → IsLineRefusal number line fault outcome → IsRefusalAfter read number line fault outcome
later_refusal [] number line fault outcome some is = absurd (omega arith)
later_refusal (first ∷ read) number line fault (Refused bytes hint) some is = is
later_refusal (first ∷ read) number line fault Memory some is = tt
later_refusal (first ∷ read) number line fault (Answered answer bytes) some is = absurd is
later_refusal (first ∷ read) number line fault (Noted answer bytes note) some is = absurd is
later_refusal (first ∷ read) number line fault (Words bytes) some is = absurd is
later_refusal (first ∷ read) number line fault Failed some is = absurd is
