-- The rule of the words: some schedule of the core, with the calls begun so far as scripts,
-- gives the words and what the views show of each process.
use Rattle.std.specs.Prelude.{◌≡◌, ℕ, ◌<◌, ◌≤◌, ◌⊎◌, ◌==◌, IsTrue, List, [], ◌∷◌, length, slice_get}
use Rattle.std.specs.Prelude.{All, count_by, sum_by, Option, Some, None}
use mathlib.Core.Option.{some}
use lib.ListN.{get_elem?}
use Rattle.atomic_table.specs.Table.{State as Table, Me, Step}
use Rattle.events.specs.declared.event.Call.{Call}
use Rattle.art_rows.specs.Table.{table_words}
use Rattle.art_rows.specs.TreeCalls.{is_tree_call}
use Rattle.art_rows.specs.declared.variant.Variant.TheVariants.{Coupled}
use Rattle.art_core.specs.declared.process.Process.{Process}
use Rattle.art_core.specs.Core.{begun, opened}
use Rattle.art_core.specs.Runs.{Gives}
use Rattle.art_core.specs.Laws.{begun_plan}
use Rattle.running.specs.declared.view.Setup.{Setup}
use Rattle.running.specs.declared.view.View.{View}
use Rattle.running.specs.declared.view.Noted.{Noted}
use Rattle.running.specs.Views.{Numbered, view, all_idle, advanced, invoking, AllStamps, without_last, last_alone, merged}

abbrev pub noted : View → Option Call → Noted
noted v asked = record { view = v; asked = asked }

abbrev pub IsIn : Numbered → List Numbered → Type 0
IsIn x [] = ⊥
IsIn x (y ∷ ys) = (x ≡ y) ⊎ IsIn x ys

-- how often process p is among them
abbrev pub times : ℕ → List Numbered → ℕ
times p processes = count_by (λ x. p == x.0) processes

abbrev pub times_in : ℕ → Noted → ℕ
times_in p v = times p v.view.processes

-- a view shows its processes as they are; one that has none is excepted
abbrev pub AreShown : Setup → List Process → Noted → Type 0
AreShown setup ps v = (p : ℕ) (q : Process) → IsIn (p, q) v.view.processes → (v.view.setup ≡ setup) × (slice_get ps p ≡ Some q)

-- by rising number
abbrev pub Above : ℕ → List Numbered → Type 0
Above p [] = Unit {0}
Above p (y ∷ ys) = (p < y.0) × Above p ys

abbrev pub Rises : List Numbered → Type 0
Rises [] = Unit {0}
Rises (x ∷ xs) = Above x.0 xs × Rises xs

-- some schedule gives the words and the processes
pub record IsGiven (setup : Setup) (words : List ℕ) (processes : List Process) : Type 0 where
  pub schedule : List ℕ
  pub gives : Gives (begun_plan setup.shape setup.variant processes) (opened (begun_plan setup.shape setup.variant processes)) schedule
      (record { words = words; processes = processes })
  pub many : length processes ≡ setup.processes
  -- few calls are begun, all of trees: the clock, which only stamps change, stays small, and stamps
  -- rise
  pub few : All (λ q. length (begun q) ≤ setup.calls_each) processes
  pub calls : All (λ q. All (λ call. IsTrue (is_tree_call call)) (begun q)) processes

-- each process is in one view, which shows it as it is
pub record AreReached (setup : Setup) (words : List ℕ) (views : List Noted) : Type 0 where
  pub processes : List Process
  pub given : IsGiven setup words processes
  pub shows : (j : ℕ) (v : Noted) → get_elem? views j ≡ some v → AreShown setup processes v
  pub once : (p : ℕ) → p < setup.processes → sum_by (times_in p) views ≡ 1
  pub rising : (j : ℕ) (v : Noted) → get_elem? views j ≡ some v → Rises v.view.processes

abbrev pub Kept : Setup → Table Call Noted → Type 0
Kept setup s = (length s.words ≡ table_words setup.shape) × AreReached setup s.words s.views

abbrev pub first_view : Setup → Noted
first_view setup = noted (all_idle setup) None

-- a place in the table: its view, and no slots
abbrev pub Seated : Type 0
Seated = Me Call Noted

-- the call is noted that the next stamp invokes
abbrev pub Notes : Step Call → Seated → ℕ → Seated → Type 0
Notes step me n new = (new.1 ≡ me.1) × ((call : Call) → step.said ≡ some call → new.0 ≡ noted me.0.view (Some call))

-- the first process made its open call's next move
abbrev pub MakesNextMove : Step Call → Seated → ℕ → Seated → Type 0
MakesNextMove step me n new = (new.1 ≡ me.1) × (new.0.view ≡ advanced me.0.view n)

-- the process makes its next move, by a stamp greater than all that the view showed
abbrev pub Draws : Step Call → Seated → ℕ → Seated → Type 0
Draws step me n new = MakesNextMove step me n new × AllStamps (λ stamp. stamp < n) me.0.view

abbrev pub with_asked : Option Call → View → ℕ → View
with_asked None v n = v
with_asked (Some call) v n = invoking call v n

-- the first process invoked the call that was noted, by a stamp greater than all that the view showed
abbrev pub InvokesAsked : Step Call → Seated → ℕ → Seated → Type 0
InvokesAsked step me n new = (new.1 ≡ me.1) × (new.0.view ≡ with_asked me.0.asked me.0.view n) × AllStamps (λ stamp. stamp < n) me.0.view

-- the parts of a split and of a join
abbrev pub kept_part : Noted → Noted
kept_part v = noted (without_last v.view) None

abbrev pub given_part : Noted → Noted
given_part v = noted (last_alone v.view) None

abbrev pub both_parts : Noted → Noted → Noted
both_parts v w = noted (merged v.view w.view) None

-- a setup of nothing, for a view of nothing
abbrev pub nowhere : Setup
nowhere = record { shape = record { rows4 = 0; rows16 = 0; rows48 = 0; rows256 = 0 }; variant = Coupled; processes = 0; calls_each = 0 }

-- what is left of a place that was joined to another
abbrev pub no_part : Noted
no_part = noted (view nowhere []) None
