-- A moment at which nothing that a call has read changes.
use Rattle.std.specs.Prelude.{◌≡◌, ◌≢◌, ℕ, zero, suc, ◌+◌, ◌<◌, ◌≤◌, ◌⊎◌, false, List, [], ◌∷◌, ◌++◌, length, take, slice_get, slice_index}
use Rattle.std.specs.Prelude.{Option, Some, None}
use Rattle.events.specs.declared.event.Call.{Call}
use Rattle.events.specs.declared.event.Reply.{Reply}
use Rattle.art_rows.specs.declared.table.Kind.{Kind}
use Rattle.art_rows.specs.Table.{row_words, kind_at}
use Rattle.art_rows.specs.Words.{is_locked}
use Rattle.art_rows.specs.declared.access.Access.TheVariants.{Load}
use Rattle.art_rows.specs.declared.access.Point.{Point}
use Rattle.art_rows.specs.declared.access.Point.TheVariants as point
use Rattle.art_rows.specs.Steps.{Turn, Asks, Answers}
use Rattle.art_rows.specs.Act.{act}
use Rattle.art_core.specs.declared.process.Process.{Process}
use Rattle.art_core.specs.Accesses.{got_by}
use Rattle.art_core.specs.Core.{Plan, State, begun}
use Rattle.art_core.specs.Runs.{At}
use Rattle.art_core.specs.Meaning.{row_in}

-- Process p is in a call, the last of as many as it has begun, and has got n words for it.
pub record HasGot (calls n : ℕ) (s : State) (p : ℕ) : Type 0 where
  pub process : Process
  pub own : slice_get s.processes p ≡ Some process
  pub in_call : length (begun process) ≡ calls
  pub call : Call
  pub is_open : process.call ≡ Some call
  pub count : length process.got ≡ n

-- the words that a call gets when it runs alone on these words, which it does not change
abbrev pub next_word : Turn → List ℕ → List ℕ
next_word (Asks a p) words = got_by a words ∷ []
next_word (Answers r) words = []

abbrev pub alone : ℕ → Plan → Call → List ℕ → List ℕ
alone zero plan call words = []
alone (suc n) plan call words =
    alone n plan call words ++ next_word (act plan.shape plan.variant call (alone n plan call words)) words

-- its answer when it runs alone on these words
abbrev pub AnswersAlone : Plan → Call → List ℕ → Reply → Type 0
AnswersAlone plan call words r = (n : ℕ) × (act plan.shape plan.variant call (alone n plan call words) ≡ Answers r)

-- The attempt that answers begins after these words: what follows them is what follows none.
abbrev pub BeginsAttempt : Plan → Call → List ℕ → Type 0
BeginsAttempt plan call got = (more : List ℕ) → act plan.shape plan.variant call (got ++ more) ≡ act plan.shape plan.variant call more

-- the i-th access of the attempt loads this word, and does not find a locked version
pub record Reads (plan : Plan) (call : Call) (attempt : List ℕ) (i word : ℕ) : Type 0 where
  pub made : i < length attempt
  pub mark : Option Point
  pub load : act plan.shape plan.variant call (take i attempt) ≡ Asks (Load word) mark
  pub settled : (kind_at plan.shape word ≡ None) ⊎ (is_locked (slice_index attempt i) ≡ false)

-- the version of the row is loaded at i by WAIT, which ends there
pub record Enters (plan : Plan) (call : Call) (attempt : List ℕ) (i base : ℕ) (kind : Kind) : Type 0 where
  pub row : kind_at plan.shape base ≡ Some kind
  pub reads : Reads plan call attempt i base
  pub no_check : reads.mark ≢ Some point.Check

-- the version of the row is loaded at j by CHECK
pub record Checks (plan : Plan) (call : Call) (attempt : List ℕ) (j base : ℕ) : Type 0 where
  pub reads : Reads plan call attempt j base
  pub check : reads.mark ≡ Some point.Check

-- The word that the i-th access read is of a row that the attempt had entered by then.
pub record IsOfEnteredRow (plan : Plan) (call : Call) (attempt : List ℕ) (i word : ℕ) : Type 0 where
  pub base : ℕ
  pub kind : Kind
  pub entry : ℕ
  pub enters : Enters plan call attempt entry base kind
  pub by_then : entry ≤ i
  pub from : base ≤ word
  pub below : word < base + row_words kind

-- The row is unlocked and has these words at each moment of a time: from when the call had got more
-- than i words of its attempt to when it has got j.
abbrev pub StandsFrom : Plan → State → List ℕ → ℕ → ℕ → ℕ → ℕ → ℕ → ℕ → Kind → List ℕ → Type 0
StandsFrom plan first schedule p calls earlier i j base kind row =
    (t n : ℕ) (s : State) → At plan first schedule t s → HasGot calls (earlier + n) s p → i < n → n ≤ j
    → (row_in s.words base kind ≡ row) × (is_locked (slice_index s.words base) ≡ false)

-- A scan: at a moment within the call, no row that the answering attempt read changes, from the
-- load that ended its WAIT to its CHECK at the end. Each of these rows then has the words that were
-- read, and the reply is that of the call run alone. Each word read is of a row that was entered,
-- and each row entered has its CHECK.
pub record HasMoment (plan : Plan) (first : State) (schedule : List ℕ) (p calls : ℕ) (call : Call) (got : List ℕ) (r : Reply) : Type 0 where
  pub earlier : List ℕ
  pub attempt : List ℕ
  pub all : got ≡ earlier ++ attempt
  pub begins : BeginsAttempt plan call earlier
  pub t : ℕ
  pub now : State
  pub at : At plan first schedule t now
  pub n : ℕ
  pub within : HasGot calls (length earlier + n) now p
  pub holds : (i word : ℕ) → Reads plan call attempt i word → slice_index now.words word ≡ slice_index attempt i
  pub entered : (i word : ℕ) → Reads plan call attempt i word → IsOfEnteredRow plan call attempt i word
  pub checked : (i base : ℕ) (kind : Kind) → Enters plan call attempt i base kind → (j : ℕ) × Checks plan call attempt j base
  pub still : (i j base : ℕ) (kind : Kind) → Enters plan call attempt i base kind → Checks plan call attempt j base
      → (i < n) × (n ≤ j) × StandsFrom plan first schedule p calls (length earlier) i j base kind (row_in now.words base kind)
  pub answers : AnswersAlone plan call now.words r
