-- Marks of calls at work, and what such a call asks for.
use Rattle.art_schedules.proofs.Common.{◌≡◌, ◌⊎◌, inl, inr, ℕ, List, [], ◌∷◌, ◌++◌, Bool, true, false, refl, sym, ap, ◌∙◌, subst, ◌==◌, Option}
use Rattle.art_schedules.proofs.trees.Changes.{way_byte}
use Rattle.art_schedules.proofs.words.TableLemmas.{base_of-once}
use Rattle.art_schedules.proofs.Common.{Some, None, if◌then◌else◌, false≢true, none-some, Kind, Four, Sixteen, FortyEight, Full, Row}
use Rattle.art_schedules.proofs.Common.{Swap, Turn, Asks, Answers, Setting, answers-asks, HeldRow, Hold, Pair, PairWord, Growing}
use Rattle.art_schedules.proofs.Common.{Keys, Outcome, Value, Work, Stage, Lock, Exchange, Wait, Leave, Between, Info, Find, FindKeys, FindMore}
use Rattle.art_schedules.proofs.Common.{FindCount, Slot, Check, CheckLast, LetGo, Take, StorePair, PutKeys, GrowLeaf, GrowKeys, GrowCount}
use Rattle.art_schedules.proofs.Common.{Obsolete, Over, Unlock, setting, turn_at, work_at, store_of, pair_turn, put_keys_turn, grow_leaf_turn}
use Rattle.art_schedules.proofs.Common.{IsAtRest, Named, Reached, calm_of, child_on, grow_count_turn, grow_keys_turn}
use Rattle.art_schedules.proofs.versions.MoveLemmas.{true-false}
use Rattle.art_schedules.proofs.Common.{Effect, Keeps, Fills, PutsLeaf, RemovesLeaf, HangsPair, HangsGrown, base_of_effect, kind_of_effect}
use Rattle.art_schedules.proofs.Common.{IsGone, is_work, claims_row, hold_at, IsPending, IsReleasing, Last, Lower, Gone, AtWork, Claiming, Going}
use Rattle.art_schedules.proofs.Common.{Hanging, EndStep, Leaves, AnswersNow, obsolete_by, IsMarkedBy, EnderStep, WorkersMayHaveNoMark}
use Rattle.art_schedules.proofs.Common.{ObsoleteRowsHang, WorkersOnlyWork, LeaversStep, EndersGoOn}
use Rattle.art_control_states.specs.declared.stage.PairWord.TheVariants as pair_word
use Rattle.art_control_states.specs.declared.stage.Work.TheVariants as work
use Rattle.art_schedules.proofs.work.OwnLemmas.{is_over}
use Rattle.art_schedules.proofs.work.WorkLemmas.{at-work}
use Rattle.art_schedules.specs.effects.Marks.{HangsOnAbove}
use Rattle.art_schedules.proofs.effects.StageLemmas.{place-work}

-- ---- no mark

releasing-unmarked : {c : Setting} {real calm : List ℕ} {row : HeldRow} {e : Effect} {o : Outcome} {stage : Stage}
    (at : IsReleasing c real calm row e o stage)
    → IsMarkedBy None at
releasing-unmarked (Last is gone) = λ b some. absurd (none-some b some)
releasing-unmarked (Lower lower is inside same none) = refl
releasing-unmarked (Gone lower is value inside goes only) = refl

pub unmarked : WorkersMayHaveNoMark
unmarked c real calm fresh stage (Claiming none g) = refl
unmarked c real calm fresh stage (Going g) = refl
unmarked c real calm fresh stage (Hanging g) = releasing-unmarked g.at

-- a stage makes no row obsolete, except one
pub obsolete-or : (stage : Stage) → (obsolete_by stage ≡ None) ⊎ ((h : Hold) × (stage ≡ Obsolete h))
obsolete-or (Obsolete h) = inr (h, refl)
obsolete-or stage = inl refl

-- none of those before the first release does
pub place-unmarked : (stage : Stage) (h : Hold) → hold_at stage ≡ Some h → obsolete_by stage ≡ None
place-unmarked stage h place = elim (obsolete-or stage) [
  | inl none ↦ none
  | inr at ↦ absurd (none-some h (sym (ap hold_at at.1) ∙ place))
]

-- ---- the row that is made obsolete

obsolete-same : {h g : Hold} → Obsolete h ≡ Obsolete g → h ≡ g
obsolete-same e = cc

no-claim : (c : Setting) (h g : Hold) (work : Work) → claims_row work ≡ true → Obsolete h ≡ work_at c g work → ⊥
no-claim c h g (work.Write slot word old) claims e = absurd (true-false claims refl)
no-claim c h g (work.Pair p) claims e = cc
no-claim c h g (work.Put keys) claims e = absurd (true-false claims refl)
no-claim c h g (work.Grow slot keys) claims e = cc

module _ (c : Setting) (n : ℕ) (real calm : List ℕ) (rest : IsAtRest c.shape n calm) where
  -- a row that goes hangs on the row that changes
  gone-hangs : (row lower : HeldRow) → Reached c.shape calm lower.base lower.kind → (e : Effect) (old : Option ℕ) → base_of_effect e ≡ row.base
      → kind_of_effect e ≡ row.kind → IsPending c real calm e old → IsGone e lower.base
      → HangsOnAbove c.shape calm (record { row = lower; above = Some row })
  gone-hangs row lower reached (Keeps base kind) old is-base is-kind pending none = absurd none
  gone-hangs row lower reached (Fills base kind) old is-base is-kind pending none = absurd none
  gone-hangs row lower reached (PutsLeaf base kind x key value) old is-base is-kind pending none = absurd none
  gone-hangs row lower reached (RemovesLeaf base kind x key) old is-base is-kind pending none = absurd none
  gone-hangs row lower reached (HangsPair base kind x key value fresh d a) old is-base is-kind pending none = absurd none
  gone-hangs row lower reached (HangsGrown base kind x key value full full_kind y fresh larger) old is-base is-kind
      (above, none, hangs, leads, empty, slot, ready, copy) is =
      let mine = rest.claimed full full_kind leads.reached in
      let its = rest.claimed lower.base lower.kind reached in
      let kinds = (base_of-once c.shape full_kind lower.kind mine.number its.number
      mine.within its.within (sym mine.is ∙ (sym is ∙ its.is))).0 in
      record {
        above = row;
        is = refl;
        byte = x;
        is_byte = way_byte c.shape calm key base kind x above;
        reached = subst (λ b. Reached c.shape calm b row.kind) is-base (subst (Reached c.shape calm base) is-kind above.reached);
        hangs = ap (λ b. child_on c.shape calm b row.kind x) (sym is-base)
            ∙ (ap (λ l. child_on c.shape calm base l x) (sym is-kind)
            ∙ (hangs ∙ (ap (λ z. Row z full_kind) (sym is) ∙ ap (Row lower.base) kinds)));
      }

pub obsolete-unlock : {h g : Hold} {o : Option Outcome} → Obsolete h ≡ Unlock g o → ⊥
obsolete-unlock e = cc

pub obsolete-hangs : ObsoleteRowsHang
obsolete-hangs c n real calm fresh h rest (Claiming none g) = absurd (no-claim c h g.hold g.work g.claims g.at)
obsolete-hangs c n real calm fresh h rest (Going g) = absurd (none-some g.hold g.place)
obsolete-hangs c n real calm fresh h rest (Hanging g) = go g.at
  where
    go : IsReleasing c real calm g.row g.effect (Value g.old) (Obsolete h) → HangsOnAbove c.shape calm h
    go (Last is gone) = absurd (obsolete-unlock is)
    go (Lower lower is inside same none) = absurd (obsolete-unlock is)
    go (Gone lower is value inside goes only) =
        subst (HangsOnAbove c.shape calm) (sym (obsolete-same is))
        (gone-hangs c n real calm rest g.row lower inside.reached g.effect g.old g.base g.kind g.pending goes)

-- ---- what a call at work asks for

-- the turn takes a row, or answers
abbrev takes_or_answers : Turn → Bool
takes_or_answers (Asks (Swap word v w) mark) = true
takes_or_answers (Answers reply) = true
takes_or_answers turn = false

-- no turn of work does: it loads, stores or claims
pair-works : (c : Setting) (p : Pair) (base : ℕ) (word : PairWord) → takes_or_answers (pair_turn c p base word) ≡ false
pair-works c p base pair_word.Info = refl
pair-works c p base pair_word.Keys = refl
pair-works c p base pair_word.Lesser = refl
pair-works c p base pair_word.Greater = refl

keys-work : (kind : Kind) (c : Setting) (h : Hold) (keys : Keys) → takes_or_answers (put_keys_turn kind c h keys) ≡ false
keys-work Four c h keys = refl
keys-work Sixteen c h keys = refl
keys-work FortyEight c h keys = refl
keys-work Full c h keys = refl

leaf-works : (kind : Kind) (c : Setting) (g : Growing) → takes_or_answers (grow_leaf_turn kind c g) ≡ false
leaf-works Four c g = refl
leaf-works Sixteen c g = refl
leaf-works FortyEight c g = refl
leaf-works Full c g = refl

one-store : (b : Bool) (u v w y : ℕ) → takes_or_answers (if b then store_of u v else store_of w y) ≡ false
one-store true u v w y = refl
one-store false u v w y = refl

index-works : (kind : Kind) (c : Setting) (g : Growing) (j : ℕ) → takes_or_answers (grow_keys_turn kind c g j) ≡ false
index-works Four c g j = one-store (j == 0) _ _ _ _
index-works Sixteen c g j = refl
index-works FortyEight c g j = refl
index-works Full c g j = refl

count-works : (kind : Kind) (g : Growing) → takes_or_answers (grow_count_turn kind g) ≡ false
count-works Four g = refl
count-works Sixteen g = refl
count-works FortyEight g = refl
count-works Full g = refl

stage-works : (c : Setting) (stage : Stage) → is_work stage ≡ true → is_over stage ≡ false → takes_or_answers (turn_at c stage) ≡ false
stage-works c (Lock t first) w o = absurd (false≢true w)
stage-works c (Exchange t v) w o = absurd (false≢true w)
stage-works c (Wait t) w o = absurd (false≢true w)
stage-works c (Leave d) w o = absurd (false≢true w)
stage-works c (Between d kept) w o = absurd (false≢true w)
stage-works c (Info d kept) w o = absurd (false≢true w)
stage-works c (Find p) w o = absurd (false≢true w)
stage-works c (FindKeys p count) w o = absurd (false≢true w)
stage-works c (FindMore p count first) w o = absurd (false≢true w)
stage-works c (FindCount p index) w o = absurd (false≢true w)
stage-works c (Slot p slot) w o = absurd (false≢true w)
stage-works c (Check p f) w o = absurd (false≢true w)
stage-works c (CheckLast n) w o = absurd (false≢true w)
stage-works c (LetGo above p f) w o = absurd (false≢true w)
stage-works c (Take t) w o = absurd (false≢true w)
stage-works c (StorePair h p base word) w o = pair-works c p base word
stage-works c (PutKeys h keys) w o = keys-work h.row.kind c h keys
stage-works c (GrowLeaf g) w o = leaf-works g.hold.row.kind c g
stage-works c (GrowKeys g j left) w o = index-works g.hold.row.kind c g j
stage-works c (GrowCount g) w o = count-works g.hold.row.kind g
stage-works c (Over outcome) w o = absurd (true-false refl o)
stage-works c stage w o = refl

claim-works : (c : Setting) (h : Hold) (work : Work) → claims_row work ≡ true → takes_or_answers (turn_at c (work_at c h work)) ≡ false
claim-works c h (work.Write slot word old) claims = absurd (true-false claims refl)
claim-works c h (work.Pair p) claims = refl
claim-works c h (work.Put keys) claims = absurd (true-false claims refl)
claim-works c h (work.Grow slot keys) claims = refl

module _ (c : Setting) (real calm : List ℕ) (fresh : Option Named) (stage : Stage) where
  at-stage : (other : Stage) → stage ≡ other → takes_or_answers (turn_at c other) ≡ false → takes_or_answers (turn_at c stage) ≡ false
  at-stage other is works = ap (λ z. takes_or_answers (turn_at c z)) is ∙ works

  worker-works : AtWork c real calm fresh stage → takes_or_answers (turn_at c stage) ≡ false
  worker-works (Claiming none g) = at-stage (work_at c g.hold g.work) g.at (claim-works c g.hold g.work g.claims)
  worker-works (Going g) = let placed = at-work (place-work stage g.hold g.place).1 in stage-works c stage placed.0 placed.2
  worker-works (Hanging g) = go g.at
    where
      go : IsReleasing c real calm g.row g.effect (Value g.old) stage → takes_or_answers (turn_at c stage) ≡ false
      go (Last is gone) = at-stage _ is refl
      go (Lower lower is inside same none) = at-stage _ is refl
      go (Gone lower is value inside goes only) = at-stage _ is refl

pub only-work : WorkersOnlyWork
only-work c real calm fresh stage work = (
  λ word v w mark turn. true-false (ap takes_or_answers turn) (worker-works c real calm fresh stage work),
  λ reply turn. true-false (ap takes_or_answers turn) (worker-works c real calm fresh stage work),
)

-- ---- at the end

pub enders-go-on : LeaversStep → EndersGoOn
enders-go-on leaves plan start words schedule p s t n m last rest means call stage reply a mark is end turn =
    go (leaves plan start words schedule p s t n m last rest means call stage reply is end)
  where
    go : EndStep plan.variant plan.shape s p t (calm_of plan words schedule) (calm_of plan words (schedule ++ p ∷ [])) m call reply stage
        → EnderStep plan s p t (calm_of plan words schedule) (calm_of plan words (schedule ++ p ∷ [])) m call reply
    go (Leaves next at ends makes) = record { next = next; at = at; ends = ends; makes = makes }
    go (AnswersNow o is over makes) = absurd (answers-asks (sym (ap (turn_at (setting plan.shape plan.variant call)) over) ∙ turn))
