-- The words that a call touches: those of rows that it holds or fills.
use Rattle.std.specs.Prelude.{◌≡◌, ◌⊎◌, ℕ, List, [], ◌∷◌, Bool, true, false, Option}
use Rattle.events.specs.declared.event.Reply.{Reply}
use Rattle.art_rows.specs.declared.table.Kind.{Kind}
use Rattle.art_rows.specs.declared.table.Kind.TheVariants.{FortyEight}
use Rattle.art_rows.specs.Table.{claims_of}
use Rattle.art_rows.specs.declared.access.Access.TheVariants.{Load, Store, Add}
use Rattle.art_rows.specs.declared.access.Point.{Point}
use Rattle.art_rows.specs.Steps.{Asks, Answers}
use Rattle.art_rows.specs.Rows.{Setting}
use Rattle.art_control_states.specs.declared.stage.HeldRow.{HeldRow}
use Rattle.art_control_states.specs.declared.stage.Stage.{Stage}
use Rattle.art_control_states.specs.declared.stage.Stage.TheVariants.{Lock, Exchange, Wait, Leave, Between, Info, Find, FindKeys, FindMore}
use Rattle.art_control_states.specs.declared.stage.Stage.TheVariants.{FindCount, Slot, Check}
use Rattle.art_control_states.specs.declared.stage.Stage.TheVariants.{CheckLast, LetGo, Take, Obsolete, Unlock, ClaimPair, ClaimGrow}
use Rattle.art_control_states.specs.declared.stage.ScanStep.TheVariants as scan
use Rattle.art_control_states.specs.declared.stage.ScanStep.{ScanStep}
use Rattle.art_control_states.specs.Calls.{CallAt, OnKey, OnScan, call_turn}
use Rattle.art_schedules.specs.versions.Holding.{Each, holds, fills}
use Rattle.art_schedules.specs.versions.Effects.{IsAmong, IsAfterVersion}

-- the word is one of a row that the call holds, after the row's version
pub record IsHeldWord (c : Setting) (at : CallAt) (word : ℕ) : Type 0 where
  pub row : HeldRow
  pub among : IsAmong row (holds c at)
  pub behind : IsAfterVersion row.base row.kind word

-- it is one of the row that the call fills
pub record IsFilledWord (at : CallAt) (word : ℕ) : Type 0 where
  pub base : ℕ
  pub kind : Kind
  pub filled : fills at ≡ (base, kind) ∷ []
  pub behind : IsAfterVersion base kind word

-- the stages that claim a row
abbrev pub is_claim : Stage → Bool
is_claim (ClaimPair h p) = true
is_claim (ClaimGrow h slot keys) = true
is_claim stage = false

abbrev pub may_claim : CallAt → Bool
may_claim (OnKey stage) = is_claim stage
may_claim (OnScan low high at) = false

-- the stages at which a held row can be released
abbrev pub is_releasing : ScanStep → Bool
is_releasing (scan.Release n) = true
is_releasing step = false

abbrev pub may_release : CallAt → Bool
may_release (OnKey (Between d kept)) = true
may_release (OnKey (LetGo above p f)) = true
may_release (OnKey (Obsolete h)) = true
may_release (OnKey (Unlock h outcome)) = true
may_release (OnKey stage) = false
may_release (OnScan low high at) = is_releasing at.step

-- The next access is a load of a held word, a store of one or of a filled one, a claim, or the release of a held row; or there is none.
pub data TouchesOwn (c : Setting) (at : CallAt) : Type 0 where
  LoadsHeld : (word : ℕ) → (mark : Option Point) → call_turn c at ≡ Asks (Load word) mark → IsHeldWord c at word → TouchesOwn c at
  StoresOwn : (word value : ℕ) → (mark : Option Point) → call_turn c at ≡ Asks (Store word value) mark → IsHeldWord c at word
      ⊎ IsFilledWord at word
      → TouchesOwn c at
  ClaimsRow : (kind : Kind) → (mark : Option Point) → call_turn c at ≡ Asks (Add (claims_of kind)) mark
      → may_claim at ≡ true → TouchesOwn c at
  ReleasesHeld : (row : HeldRow) → (value : ℕ) → (mark : Option Point) → call_turn c at ≡ Asks (Store row.base value) mark
      → IsAmong row (holds c at)
      → may_release at ≡ true → TouchesOwn c at
  Replies : (reply : Reply) → call_turn c at ≡ Answers reply → TouchesOwn c at

-- the stages of the work in held rows, up to the reply
abbrev pub is_work : Stage → Bool
is_work (Lock t first) = false
is_work (Exchange t v) = false
is_work (Wait t) = false
is_work (Leave d) = false
is_work (Between d kept) = false
is_work (Info d kept) = false
is_work (Find p) = false
is_work (FindKeys p count) = false
is_work (FindMore p count first) = false
is_work (FindCount p index) = false
is_work (Slot p slot) = false
is_work (Check p f) = false
is_work (CheckLast n) = false
is_work (LetGo above p f) = false
is_work (Take t) = false
is_work stage = true

-- the stages at which a row is locked, which the call does not hold yet
abbrev pub is_lock_step : ScanStep → Bool
is_lock_step (scan.Lock entry first) = true
is_lock_step (scan.Exchange entry v) = true
is_lock_step step = false

abbrev pub is_lock : CallAt → Bool
is_lock (OnKey (Lock t first)) = true
is_lock (OnKey (Exchange t v)) = true
is_lock (OnKey stage) = false
is_lock (OnScan low high at) = is_lock_step at.step

-- What else holds of a call that locks what it reads. It counts only the children of a row of kind
-- 48. A scan holds each row that it reads, or that is on its way.
abbrev pub IsWalked : HeldRow → List HeldRow → Type 0
IsWalked n rows = (row : HeldRow) × IsAmong row rows × (row.base ≡ n.base)

abbrev pub ReadsWalked : ScanStep → List HeldRow → Type 0
ReadsWalked (scan.Keys n) rows = IsWalked n rows
ReadsWalked (scan.FirstKeys n count) rows = IsWalked n rows
ReadsWalked (scan.SecondKeys n count first) rows = IsWalked n rows
ReadsWalked (scan.Index n index words) rows = IsWalked n rows
ReadsWalked (scan.Child f slot) rows = IsWalked f.row rows
ReadsWalked step rows = Unit {0}

abbrev pub ReadsHeld : CallAt → Type 0
ReadsHeld (OnKey (FindCount p index)) = p.row.kind ≡ FortyEight
ReadsHeld (OnKey stage) = Unit {0}
ReadsHeld (OnScan low high at) = ReadsWalked at.step at.walk.rows × Each (λ f. IsWalked f.row at.walk.rows) at.walk.way
