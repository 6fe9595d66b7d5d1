-- What the lines of a stream spell: starting pairs, if the first line has such, and then events, a
-- line each.
use Rattle.history_text.specs.declared.version.TextVersion.TheVariants.{One, Two, Three}
use Rattle.std.specs.Prelude.{◌≡◌, ℕ, List, [], ◌∷◌, ◌++◌, Option, IfSome, ⊤}
use Rattle.events.specs.declared.event.Event.{Event}
use Rattle.events.specs.HistoryView.{HistoryView}
use Rattle.history_text.specs.declared.version.TextVersion.{TextVersion}
use Rattle.stream_text.specs.Cuts.{lines_of}
use Rattle.stream_text.specs.Lines.{SpellsEvent, SpellsStart}

-- the lines spell these events of a stream of a version, a line each
abbrev pub SpellEvents : TextVersion → List (List ℕ) → List Event → Type 0
SpellEvents version [] [] = ⊤
SpellEvents version (line ∷ lines) (e ∷ events) = SpellsEvent version line e × SpellEvents version lines events
SpellEvents version lines events = ⊥

-- the first line spells the starting pairs and the version, and those after it the events
pub record SpellFromStart (version : TextVersion) (lines : List (List ℕ)) (stream : HistoryView) : Type 0 where
  pub first : List ℕ
  pub others : List (List ℕ)
  pub parts : lines ≡ first ∷ others
  pub start : SpellsStart version first stream.start
  pub events : SpellEvents version others stream.events

-- the lines spell this stream: from the empty map, or with starting pairs
abbrev pub SpellStream : TextVersion → List (List ℕ) → HistoryView → Type 0
SpellStream One lines stream = (stream.start ≡ []) × SpellEvents One lines stream.events
SpellStream Two lines stream = SpellFromStart Two lines stream
SpellStream Three lines stream = SpellFromStart Three lines stream

-- the text, if it is known, begins with these lines
abbrev pub BeginsWith : Option (List ℕ) → List (List ℕ) → Type 0
BeginsWith known lines = IfSome known (λ text. (rest : List (List ℕ)) × (lines_of text ≡ lines ++ rest))
