-- What it means that something which forgets the words it got still fits them.
use Rattle.std.specs.Prelude.{◌≡◌, ℕ, ◌<◌, ◌≤◌, List, ◌++◌, length, take, slice_index, Option}
use Rattle.events.specs.declared.event.Call.{Call}
use Rattle.events.specs.declared.event.Reply.{Reply}
use Rattle.events.specs.declared.event.Reply.TheVariants as reply
use Rattle.events.specs.Histories.{pair_count}
use Rattle.events.specs.Limits.{pair_limit}
use Rattle.art_rows.specs.declared.table.Kind.{Kind}
use Rattle.art_rows.specs.declared.table.Shape.{Shape}
use Rattle.art_rows.specs.Table.{clock, table_words, rows_of, claims_of}
use Rattle.art_rows.specs.declared.variant.Variant.{Variant}
use Rattle.art_rows.specs.declared.access.Access.{Access}
use Rattle.art_rows.specs.declared.access.Access.TheVariants.{Load, Store, Exchange, Add}
use Rattle.art_rows.specs.declared.access.Point.{Point}
use Rattle.art_rows.specs.Steps.{Rest, Asks, Answers}
use Rattle.art_rows.specs.Act.{act}

-- What is still to come, for every list of further words, is what the call does after all the words.
abbrev pub Fits : Shape → Variant → Call → List ℕ → Rest → Type 0
Fits shape variant call got rest = (more : List ℕ) → rest more ≡ act shape variant call (got ++ more)

abbrev pub word_of : Access → ℕ
word_of (Load word) = word
word_of (Store word value) = word
word_of (Exchange word from to) = word
word_of (Add word) = word

-- Every access is in the table and not on the clock, whatever was got.
abbrev pub StaysInTable : Shape → Rest → Type 0
StaysInTable shape rest = (got : List ℕ) (a : Access) (p : Option Point) → rest got ≡ Asks a p → (clock < word_of a)
    × (word_of a < table_words shape)

-- No reply lists more pairs than a history may have, whatever was got.
abbrev pub AnswersFewPairs : Rest → Type 0
AnswersFewPairs rest = (got : List ℕ) (r : Reply) → rest got ≡ Answers r → pair_count r ≤ pair_limit

-- The i-th access of a call was a claim of the kind.
pub record Claims (shape : Shape) (variant : Variant) (call : Call) (got : List ℕ) (i : ℕ) (kind : Kind) : Type 0 where
  pub made : i < length got
  pub point : Option Point
  pub asks : act shape variant call (take i got) ≡ Asks (Add (claims_of kind)) point

-- A call is refused only where its last claim found the kind's capacity reached.
pub record RefusedAtCapacity (shape : Shape) (variant : Variant) (call : Call) (got : List ℕ) : Type 0 where
  pub i : ℕ
  pub kind : Kind
  pub claims : Claims shape variant call got i kind
  pub last : (j : ℕ) (other : Kind) → Claims shape variant call got j other → j ≤ i
  pub full : rows_of shape kind ≤ slice_index got i

abbrev pub RefusesOnlyAtCapacity : Shape → Variant → Call → Type 0
RefusesOnlyAtCapacity shape variant call = (got : List ℕ) → act shape variant call got ≡ Answers reply.Refused
    → RefusedAtCapacity shape variant call got
